use Rattle.std.proofs.Common.{◌≡◌, ◌++◌, length}
use Rattle.std.specs.List.{concat, AllByRecursion}
use Rattle.docsis_wire.specs.Frame.{IsFrame}
use Rattle.ccf.proofs.front.walk.Given as goal

-- the bytes are the frames so far, end to end, and the rest
abbrev pub invariant-loop-length : goal.invariant-loop-length
invariant-loop-length g l =
    record { whole : l.bytes ≡ concat l.frames.items ++ l.rest; each : AllByRecursion (IsFrame (g.C.HeaderCheck.accepts l.check)) l.frames.items }

abbrev pub decreases-loop-length : goal.decreases-loop-length
decreases-loop-length g l = length l.rest
