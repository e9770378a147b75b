use Rattle.std.proofs.Common.{◌≡◌, ℕ, ◌+◌, ◌-◌, ◌/◌, ◌<◌, length}
use Rattle.capture_picture.specs.Picture.{picture_in, doubled_within}
use Rattle.capture_picture.proofs.picture.CapturePicture.reach.Given as goal

-- what is left to double, of steps that are enough
abbrev pub invariant-loop-self : goal.invariant-loop-self
invariant-loop-self l =
    (most : ℕ) × (l.age / 256 < l.self.column_width + most)
    × (doubled_within l.age l.age (picture_in l.fn.self) ≡ doubled_within most l.age (picture_in l.self))
    × (l.self.latest ≡ l.fn.self.latest) × (length l.self.flows.items ≡ length l.fn.self.flows.items)

abbrev pub decreases-loop-self : goal.decreases-loop-self
decreases-loop-self l = l.age / 256 + 1 - l.self.column_width
