use Rattle.std.proofs.Common.{◌≡◌, ℕ, ◌<◌, Some, List, slice_get}
use Rattle.docsis_wire.specs.Frame.{IsFrame}
use Rattle.docsis_wire.proofs.pieces.check.Given as goal

abbrev pub invariant-loop-k : goal.invariant-loop-k
invariant-loop-k g l = (i : ℕ) (frame : List ℕ) → i < l.k → slice_get l.frames i ≡ Some frame → IsFrame (g.C.HeaderCheck.accepts l.header_check) frame
