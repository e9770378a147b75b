-- Whether there is a least one of the last indexes.
use Rattle.std.specs.Prelude.{ℕ, ◌<◌, ◌≤◌, ◌⊎◌}
use Rattle.loss_rule.specs.Rule.{RuledFlow, HasChannel, Lasts, IsLastOn}

-- some channel of the flow has no last index
pub record LacksOne (flow : RuledFlow) (lasts : Lasts) : Type 0 where
  pub channel : ℕ
  pub has : HasChannel flow channel
  pub none : (index : ℕ) → ¬ (IsLastOn lasts channel index)

-- the channels below n that the flow has: one has no last index, or there is a least of them, or
-- there is none
abbrev pub AreBelow : RuledFlow → Lasts → ℕ → Type 0
AreBelow flow lasts n =
    LacksOne flow lasts
    ⊎ ((own : ℕ) × (least : ℕ) × HasChannel flow own × IsLastOn lasts own least
    × ((channel : ℕ) → channel < n → HasChannel flow channel → (index : ℕ) × IsLastOn lasts channel index × (least ≤ index)))
    ⊎ ((channel : ℕ) → channel < n → ¬ (HasChannel flow channel))
