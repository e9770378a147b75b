use Rattle.std.specs.Prelude.{ℕ, Bool, ◌<◌, ◌≤◌, List, [], length, take}
use Rattle.docsis_wire.specs.Frame.{IsFrame}
use Rattle.ccf.specs.declared.front.Front.{Front}
use Rattle.ccf.specs.declared.front.Front.TheVariants.{Whole, Waits, Dropped}
use Rattle.ccf.specs.Walk.{Ends}

-- what may be said of the front of some bytes
abbrev pub IsFrontOf : (List ℕ → Bool) → List ℕ → Front → Type 0
IsFrontOf check bytes (Whole n) = (0 < n) × (n ≤ length bytes) × IsFrame check (take n bytes)
IsFrontOf check bytes Waits = Ends check bytes bytes
IsFrontOf check bytes Dropped = Ends check bytes []
