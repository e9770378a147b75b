-- Distances of last indexes.
use Rattle.std.proofs.Common.{◌≡◌, ℕ, zero, suc, ◌+◌, ◌-◌, ◌<◌, ◌≤◌, inl, inr, Option, None, Some, List, ◌∷◌, map, length, replicate, set, refl, sym, ap, ◌∙◌, arith}
use Rattle.std.proofs.lemmas.Bool.{cases_lt}
use Rattle.std.proofs.lemmas.Bool.Decides.{nat_tests}
use Rattle.std.proofs.lemmas.List.{map-set}
use Rattle.reorder.specs.Number.{offset}
use Rattle.flow_core.specs.Fates.{number_of}
use Rattle.flow_core.proofs.IndexNumbers.{ahead-at, ahead-offset}
use Rattle.loss_rule.specs.Rule.{RuledFlow, Lasts, no_lasts, IsIndexAhead, Notes}
use Rattle.loss_rule.specs.Numbers.{AreDistancesOf, no_distances, ahead_distance, distance_from}
use Rattle.loss_rule.proofs.Distances.{from-some, all-further}

-- a number that lies ahead, and one that doesn't
ahead-some : (expected number : ℕ) → offset expected number < 4096 → ahead_distance expected number ≡ Some (offset expected number)
ahead-some expected number near = grind (arith, nat_tests)

ahead-none : (expected number : ℕ) → 4096 ≤ offset expected number → ahead_distance expected number ≡ None
ahead-none expected number far = grind (arith, nat_tests)

-- nothing came yet
none-distances : (x n : ℕ) → replicate n None ≡ map (distance_from x) (replicate n None)
none-distances x zero = refl
none-distances x (suc n) = ap (λ ns. None ∷ ns) (none-distances x n)

pub tied-none : (flow : RuledFlow) (x : ℕ) → AreDistancesOf x (no_lasts flow) (no_distances flow.channels)
tied-none flow x = none-distances x (length flow.channels)

-- the distance of what is noted
noted-distance : (first x number : ℕ) (last : Option ℕ) → number < 8192 → IsIndexAhead first x number last
    → ahead_distance (number_of first x) number ≡ distance_from x last
noted-distance first x number None small never =
    elim (cases_lt (offset (number_of first x) number) 4096) [
      | inl near ↦ absurd (never (x + offset (number_of first x) number) (ahead-at first x number small near))
      | inr far ↦ ahead-none (number_of first x) number far
    ]
noted-distance first x number (Some index) small ahead =
    let at = ahead-offset first x number index ahead in
    let to = ahead.to in
    ahead-some (number_of first x) number (omega arith)
    ∙ ap Some (let same : offset (number_of first x) number ≡ index - x = omega arith in same) ∙ sym (from-some x index ahead.from)

pub tied-noted : (first x channel number : ℕ) (lasts noted : Lasts) (distances : List (Option ℕ)) → number < 8192 → AreDistancesOf x lasts distances
    → Notes first x channel number lasts noted → AreDistancesOf x noted (set distances channel (ahead_distance (number_of first x) number))
tied-noted first x channel number lasts noted distances small tied (last, ahead, is) =
    ap (set distances channel) (noted-distance first x number last small ahead)
    ∙ ap (λ ns. set ns channel (distance_from x last)) tied
    ∙ sym (map-set (distance_from x) lasts channel last)
    ∙ ap (map (distance_from x)) (sym is)

-- the distances of the same last indexes, once a later index is expected
pub tied-on : (x y : ℕ) (lasts : Lasts) (distances : List (Option ℕ)) → x ≤ y → AreDistancesOf x lasts distances
    → AreDistancesOf y lasts (map (distance_from (y - x)) distances)
tied-on x y lasts distances from tied =
    ap (map (distance_from (y - x))) tied ∙ sym (all-further x (y - x) lasts)
    ∙ ap (λ n. map (distance_from n) lasts) (let same : x + (y - x) ≡ y = omega arith in same)
