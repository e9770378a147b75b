use Rattle.lane.specs.declared.refusal.Refusal.TheVariants.{GrantRange}
use Rattle.capture_summary.specs.Counting.{count_of_refusal}
use Rattle.capture_summary.specs.SummaryText.{refusal_line}
use Rattle.text_lines.proofs.PutTexts.{puts-one-more}
use Rattle.capture_summary.proofs.summary_text.put_all_refusals.Goals as goal

pub loop-refusal-preserved : goal.loop-refusal-preserved
loop-refusal-preserved g c =
    puts-one-more g.O.PutText.after c.args.refusals.now c.loop-refusal.refusal-index GrantRange c.loop-refusal-test.true
    (λ refusal. refusal_line refusal (count_of_refusal c.args.refused.now refusal)) c.args.out.now c.loop-refusal.out c.put_refusal_line.new.out
    c.loop-refusal.invariant (rw c.of.ensures at c.put_refusal_line.ensures)
