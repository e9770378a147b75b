use Rattle.std.proofs.Common.{refl, []}
use Rattle.text_lines.proofs.SpelledBytes.{puts-none}
use Rattle.texts.proofs.PutSoFar.{SpelledSoFar-more}
use Rattle.texts.proofs.cut.put_payload.Goals as goal

pub loop-part-init : goal.loop-part-init
loop-part-init g c = record { front = []; whole = refl; put = puts-none g.O.PutText.after c.args.out.now [] refl }

pub loop-part-preserved : goal.loop-part-preserved
loop-part-preserved g c =
    SpelledSoFar-more g.O.PutText.after c.args.segment.payload c.loop-part.parts.payload c.in-Some.part.now c.next_part.new.self.payload c.args.out.now c.loop-part.out
    c.put_hex.new.out c.loop-part.invariant c.in-Some.ensures.part c.put_hex.ensures
