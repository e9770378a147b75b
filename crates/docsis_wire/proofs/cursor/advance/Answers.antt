use Rattle.std.proofs.Common.{arith}
use Rattle.docsis_wire.proofs.Cursors.{place_at-le}
use Rattle.docsis_wire.proofs.cursor.advance.Goals as goal

pub returns-after-loop-left-clause-moved : goal.returns-after-loop-left-clause-moved
returns-after-loop-left-clause-moved c = omega (arith, place_at-le c.args.frames.now c.loop-left.at c.loop-left.invariant.placed)
