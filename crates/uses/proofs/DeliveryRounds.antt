-- One taker more of a round is closed.
use Rattle.std.specs.Prelude.{◌≡◌, ℕ, ◌+◌, ◌<◌, true, List, length}
use Rattle.std.proofs.Common.{get_or, arith, subst}
use Rattle.std.proofs.Math.ListN.{set}
use Rattle.std.proofs.lemmas.List.{get_or-set_same, get_or-set_other}
use Rattle.delivery.specs.Takers.{is_closed}
use Rattle.uses.specs.DeliveryFlows.{Sees}
use Rattle.uses.specs.declared.delivery_flows.consumed.Consumed.{Consumed}
use Rattle.uses.specs.declared.delivery_flows.consumed.Look.{Look}
use Rattle.uses.specs.declared.delivery_flows.consumed.Look.TheVariants.{Closed}

-- a look that found `Closed` leaves a closed taker
pub closed_by_look : (look : Look) (consumed : Consumed) → look ≡ Closed → Sees look consumed → is_closed consumed.taker ≡ true
closed_by_look look consumed is sees =
    let P : Look → Type 0 = λ l. Sees l consumed in
    subst P is sees

-- one place more is closed after it was set
pub closed_below-set : (all : List Consumed) (i : ℕ) (x : Consumed) → i < length all → is_closed x.taker ≡ true
    → ((k : ℕ) (d : Consumed) → k < i → is_closed (get_or all k d).taker ≡ true)
    → (k : ℕ) (d : Consumed) → k < i + 1 → is_closed (get_or (set all i x) k d).taker ≡ true
closed_below-set all i x within closed below k d less = let b = below k d in grind (arith, get_or-set_same, get_or-set_other)
