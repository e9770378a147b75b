-- What the rule knows in numbers: how far ahead of the expected number the last segment of each
-- channel lies.
use Rattle.std.specs.Prelude.{◌≡◌, ℕ, ◌+◌, ◌-◌, ◌<◌, ◌≤◌, ◌⊎◌, nat_lt, Bool, true, Option, Some, None, List, [], ◌∷◌, map, length, replicate, slice_get, if◌then◌else◌}
use Rattle.reorder.specs.Limits.{modulus, numbers_ahead}
use Rattle.reorder.specs.Number.{offset, number_ahead}
use Rattle.flow_core.specs.Events.{FlowEvent, skip_to}
use Rattle.loss_rule.specs.declared.last_numbers.LastNumbers.{LastNumbers}
use Rattle.loss_rule.specs.Rule.{Lasts}

-- how far a place lies from place n on, or nothing where it lies before that
abbrev pub distance_from : ℕ → Option ℕ → Option ℕ
distance_from n None = None
distance_from n (Some place) = if nat_lt place n then None else Some (place - n)

-- of each channel whether it is the flow's, and how far ahead its last segment lies, if it does
abbrev pub carried_of : LastNumbers → List Bool
carried_of lasts = map (λ one. one.carried) lasts.channels.items

abbrev pub distances_of : LastNumbers → List (Option ℕ)
distances_of lasts = map (λ one. distance_from lasts.reached.at one.last) lasts.channels.items

-- the number that the flow expects
abbrev pub expected_of : LastNumbers → ℕ
expected_of lasts = lasts.reached.number

-- no channel's last segment lies ahead
abbrev pub no_distances : List Bool → List (Option ℕ)
no_distances carried = replicate (length carried) None

-- how far the number lies ahead of the expected one, where it does
abbrev pub ahead_distance : ℕ → ℕ → Option ℕ
ahead_distance expected number = if nat_lt (offset expected number) numbers_ahead then Some (offset expected number) else None

abbrev pub IsCarried : List Bool → ℕ → Type 0
IsCarried carried channel = slice_get carried channel ≡ Some true

abbrev pub HasDistance : List (Option ℕ) → ℕ → ℕ → Type 0
HasDistance distances channel distance = slice_get distances channel ≡ Some (Some distance)

-- Every channel of the flow has come so far: the last segment of each lies ahead, and this is the
-- least distance of them. It isn't the expected number itself.
pub record IsPassedDistance (carried : List Bool) (distances : List (Option ℕ)) (distance : ℕ) : Type 0 where
  pub ahead : 1 ≤ distance
  pub one : (channel : ℕ) × IsCarried carried channel × HasDistance distances channel distance
  pub each : (channel : ℕ) → IsCarried carried channel → (other : ℕ) × HasDistance distances channel other × (distance ≤ other)

-- the number to which every channel of the flow has come, or none
abbrev pub IsPassedByAll : List Bool → List (Option ℕ) → ℕ → Option ℕ → Type 0
IsPassedByAll carried distances expected (Some number) = (distance : ℕ) × IsPassedDistance carried distances distance × (number ≡ number_ahead expected distance)
IsPassedByAll carried distances expected None = (distance : ℕ) → ¬ (IsPassedDistance carried distances distance)

-- Where the number lies ahead and beyond the window, the one of which it lies the width less one
-- ahead: from there on it is the window's last.
abbrev pub IsSlidTo : ℕ → ℕ → ℕ → Option ℕ → Type 0
IsSlidTo expected width number (Some to) =
    (width ≤ offset expected number) × (offset expected number < numbers_ahead) × (to < modulus) × (offset to number + 1 ≡ width)
IsSlidTo expected width number None = (offset expected number < width) ⊎ (numbers_ahead ≤ offset expected number)

-- these are the distances of these last indexes, where x is the expected index
abbrev pub AreDistancesOf : ℕ → Lasts → List (Option ℕ) → Type 0
AreDistancesOf x lasts distances = distances ≡ map (distance_from x) lasts

-- the skip up to a number, if there is one
abbrev pub skips_to : Option ℕ → List FlowEvent
skips_to None = []
skips_to (Some number) = skip_to number ∷ []
