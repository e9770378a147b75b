use Rattle.std.proofs.Common.{arith}
use Rattle.docsis_wire.proofs.LawfulPieces.{pointer_fits}
use Rattle.docsis_wire.proofs.cutter.header_at.Goals as goal

pub overflow_cast-result : goal.overflow_cast-result
overflow_cast-result c = omega (arith, c.unwrap_or.ensures, pointer_fits c.args.frames.now c.args.at c.args.bytes c.first_start-start.result c.first_start-start.ensures c.requires.near)

pub invariant_of-result-clause-pointer_in_range : goal.invariant_of-result-clause-pointer_in_range
invariant_of-result-clause-pointer_in_range c = omega (arith, c.unwrap_or.ensures, pointer_fits c.args.frames.now c.args.at c.args.bytes c.first_start-start.result c.first_start-start.ensures c.requires.near)
