-- Bytes of a block are passed over.
use Rattle.std.proofs.Common.{arith}
use Rattle.capture.specs.SeenCapture.{section_parts}
use Rattle.capture.proofs.BlockReading.{skips}
use Rattle.capture.proofs.pcapng_step.take_block_part.Goals as goal

pub returns-in-Skip-clause-passes : goal.returns-in-Skip-clause-passes
returns-in-Skip-clause-passes c =
    let kept = rw c.in-Skip.is at c.requires.kept in
    let fewer = rw c.in-Skip.is at c.requires.fewer in
    rw c.in-Skip.is
    (skips (section_parts c.args.section.now) c.in-Skip.head c.in-Skip.left c.min-count.result c.args.pending.now.items c.args.piece.now c.split_at.result.1.now kept fewer
    c.if-left-gt0.true (omega (arith, c.min-count.ensures)) (omega (arith, c.min-count.ensures)) (omega (arith, c.min-count.ensures)) c.split_at.ensures.back)
