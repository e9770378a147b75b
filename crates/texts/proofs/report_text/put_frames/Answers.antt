use Rattle.std.proofs.Common.{List, ℕ, refl, sym, subst}
use Rattle.std.proofs.lemmas.Option.{slice_get_within, get_or_from_slice_get}
use Rattle.text_lines.specs.Putting.{Puts}
use Rattle.texts.specs.Report.{frame_line}
use Rattle.text_lines.proofs.PutTexts.{puts-closed, puts-one-more}
use Rattle.texts.proofs.report_text.put_frames.Goals as goal

pub returns-then-is_closed : goal.returns-then-is_closed
returns-then-is_closed g c =
    puts-closed g.O.PutText.after (frame_line c.args.k) c.args.frames.now.items c.loop-index.index c.args.out.now c.loop-index.out c.loop-index.invariant
    (c.if-is_closed.ensures refl)

pub loop-index-preserved : goal.loop-index-preserved
loop-index-preserved g c =
    let frames = c.args.frames.now.items in
    let index = c.loop-index.index in
    let frame = c.in-Some.frame.now in
    let there = c.in-Some.ensures.frame in
    puts-one-more g.O.PutText.after frames index frame (slice_get_within frames index frame there) (frame_line c.args.k) c.args.out.now c.loop-index.out
    c.put_frame_line.new.out c.loop-index.invariant
    (subst (λ (one : List ℕ). Puts g.O.PutText.after c.loop-index.out (frame_line c.args.k one) c.put_frame_line.new.out)
    (sym (get_or_from_slice_get frames index frame frame there)) c.put_frame_line.ensures)
