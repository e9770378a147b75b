-- The payload of one whole frame is a frame.
use Rattle.std.proofs.Common.{sym, subst}
use Rattle.docsis_wire.specs.Frame.{IsFrame}
use Rattle.ccf.proofs.joiner.Joiner.announces_one_frame.Goals as goal

pub returns-clause-frame : goal.returns-clause-frame
returns-clause-frame c = λ check one. c.announces_itself.ensures.frame check (subst (IsFrame check) (sym c.as_slice.ensures) one.is_frame)
