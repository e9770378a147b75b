use Rattle.texts.specs.Follow.{closed_told}
use Rattle.text_lines.proofs.PutTexts.{puts-one-more-numbered}
use Rattle.texts.proofs.follow.lines.put_flows.Goals as goal

pub loop-k-preserved : goal.loop-k-preserved
loop-k-preserved g c =
    puts-one-more-numbered g.O.PutText.after c.args.flows.now c.loop-k.k (record { kept = 0; late = 0; repeat = 0; beyond = 0; lost = 0; frames = 0; skipped = 0 }) c.loop-k-test.true
    (closed_told c.args.selected.now c.args.records.now) c.args.out.now c.loop-k.out c.put_selected.new.out c.loop-k.invariant c.put_selected.ensures
