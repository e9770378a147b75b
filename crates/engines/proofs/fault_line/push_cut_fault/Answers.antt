use Rattle.std.proofs.Common.{refl}
use Rattle.engines.proofs.fault_line.push_cut_fault.Goals as goal

pub returns-in-PointerTooFar-clause-text : goal.returns-in-PointerTooFar-clause-text
returns-in-PointerTooFar-clause-text c = rw (c.push_counted-in-PointerTooFar.ensures.text, c.in-PointerTooFar.is) refl
