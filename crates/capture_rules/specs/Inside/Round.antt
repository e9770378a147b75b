-- Numbers in the order in which they come going up and round.
use Rattle.std.specs.Prelude.{ℕ, ◌<◌, ◌≤◌, ◌⊎◌}

-- going up from a low number and round, this one doesn't come after the other
abbrev pub ComesFirst : ℕ → ℕ → ℕ → Type 0
ComesFirst low number other = ((low ≤ number) × (low ≤ other → number ≤ other)) ⊎ ((number < low) × ((other < low) × (number ≤ other)))
