-- What is found where all channels of a flow are looked at.
use Rattle.std.specs.Prelude.{◌≡◌, ℕ, Bool, Option, None, Some, List}
use Rattle.loss_rule.specs.Numbers.{IsCarried, HasDistance, IsPassedDistance}

-- a channel of the flow has no last segment that lies ahead, or the expected one
abbrev pub HoldsBack : List Bool → List (Option ℕ) → ℕ → Type 0
HoldsBack carried distances channel = IsCarried carried channel × ((distance : ℕ) → HasDistance distances channel distance → distance ≡ 0)

-- the distance to which every channel has come, where the flow has one
abbrev pub IsNearest : List Bool → List (Option ℕ) → Option ℕ → Type 0
IsNearest carried distances None = (channel : ℕ) → ¬ (IsCarried carried channel)
IsNearest carried distances (Some distance) = IsPassedDistance carried distances distance
