-- The skips by numbers are the skips by indexes.
use Rattle.std.proofs.Common.{◌≡◌, ℕ, ◌+◌, ◌-◌, ◌<◌, ◌≤◌, inl, inr, ◌↔◌, Option, None, Some, List, [], ◌∷◌, slice_get, sym, ap, subst, ◌∙◌, arith}
use Rattle.std.proofs.lemmas.Bool.{cases_lt}
use Rattle.std.proofs.lemmas.Option.{none-some, same_Some}
use Rattle.reorder.specs.Number.{offset, number_ahead}
use Rattle.flow_core.specs.Fates.{number_of}
use Rattle.flow_core.specs.Events.{FlowEvent, skip_to, IsAhead}
use Rattle.flow_core.proofs.IndexNumbers.{index-offset, ahead-at, ahead-offset}
use Rattle.loss_rule.specs.Rule.{RuledFlow, Lasts, IsLastOn, IsLeastLast, IsPassing, IsSliding}
use Rattle.loss_rule.specs.Numbers.{AreDistancesOf, HasDistance, distance_from, skips_to, IsPassedDistance, IsPassedByAll, IsSlidTo}
use Rattle.loss_rule.proofs.LeastNumber.{at-map, at-of-map}
use Rattle.loss_rule.proofs.Distances.{from-some, from-none}

-- a skip to an index is one to its number
skip-same : (a b : ℕ) → a ≡ b → skip_to a ∷ [] ≡ skip_to b ∷ []
skip-same a b same = ap (λ n. skip_to n ∷ []) same

-- a channel has one last index
last-once : (lasts : Lasts) (channel index other : ℕ) → IsLastOn lasts channel index → IsLastOn lasts channel other → index ≡ other
last-once lasts channel index other is is' = same_Some index other (same_Some (Some index) (Some other) (sym is ∙ is'))

-- one last index at most is the least
least-once : (flow : RuledFlow) (lasts : Lasts) (x least other : ℕ) → IsLeastLast flow lasts x least → IsLeastLast flow lasts x other → least ≡ other
least-once flow lasts x least other is is' =
    let at = is.each is'.one.0 is'.one.1 in
    let same = last-once lasts is'.one.0 at.0 other at.1 is'.one.2 in
    let at' = is'.each is.one.0 is.one.1 in
    let same' = last-once lasts is.one.0 at'.0 least at'.1 is.one.2 in
    omega (arith, at.2, at'.2)

-- a distance is one of a last index
distance-last : (x : ℕ) (last : Option ℕ) (distance : ℕ) → distance_from x last ≡ Some distance → last ≡ Some (x + distance)
distance-last x None distance is = absurd (none-some distance is)
distance-last x (Some index) distance is = elim (cases_lt index x) [
  | inl before ↦ absurd (none-some distance (sym (from-none x index before) ∙ is))
  | inr from ↦
      let same = same_Some (index - x) distance (sym (from-some x index from) ∙ is) in
      ap Some (let at : index ≡ x + distance = omega arith in at)
]

module _ (x : ℕ) (lasts : Lasts) (distances : List (Option ℕ)) (tied : AreDistancesOf x lasts distances) where
  -- a channel's last index lies as far ahead as its distance
  last-of : (channel distance : ℕ) → HasDistance distances channel distance → IsLastOn lasts channel (x + distance)
  last-of channel distance has =
      let found = at-of-map (distance_from x) lasts channel (Some distance) (subst (λ (ds : List (Option ℕ)). slice_get ds channel ≡ Some (Some distance)) tied has) in
      found.1 ∙ ap Some (distance-last x found.0 distance found.2)

  -- and one that isn't passed has its distance there
  distance-of : (channel index : ℕ) → IsLastOn lasts channel index → x ≤ index → HasDistance distances channel (index - x)
  distance-of channel index last from =
      subst (λ (ds : List (Option ℕ)). slice_get ds channel ≡ Some (Some (index - x))) (sym tied)
      (at-map (distance_from x) lasts channel (Some index) (Some (index - x)) last (from-some x index from))

-- what every channel has come to in distances is what it has come to in indexes
module _ (flow : RuledFlow) (x : ℕ) (lasts : Lasts) (distances : List (Option ℕ)) (tied : AreDistancesOf x lasts distances) where
  least-of-passed : (distance : ℕ) → IsPassedDistance flow.channels distances distance → IsLeastLast flow lasts x (x + distance)
  least-of-passed distance passed = record {
    ahead = (let after = passed.ahead in omega arith);
    one = (passed.one.0, passed.one.1, last-of x lasts distances tied passed.one.0 distance passed.one.2);
    each = λ channel has.
        let other = passed.each channel has in
        (x + other.0, last-of x lasts distances tied channel other.0 other.1, omega (arith, other.2));
  }

  passed-of-least : (least : ℕ) → IsLeastLast flow lasts x least → IsPassedDistance flow.channels distances (least - x)
  passed-of-least least is = record {
    ahead = (let ahead = is.ahead in omega arith);
    one = (is.one.0, is.one.1, distance-of x lasts distances tied is.one.0 least is.one.2 (let ahead = is.ahead in omega arith));
    each = λ channel has.
        let other = is.each channel has in
        let ahead = is.ahead in
        (other.0 - x, distance-of x lasts distances tied channel other.0 other.1 (omega (arith, other.2)), omega (arith, other.2));
  }

  -- the number at a distance is that of the index there
  number-at : (distance : ℕ) → number_ahead (number_of flow.first x) distance ≡ number_of flow.first (x + distance)
  number-at distance = omega arith

  pub tied-passing : (passed : Option ℕ) (skips : List FlowEvent) → IsPassedByAll flow.channels distances (number_of flow.first x) passed
      → IsPassing flow lasts x skips ↔ (skips ≡ skips_to passed)
  tied-passing None skips never = (
    λ passing. elim passing [
      | inl (least, is, e) ↦ absurd (never (least - x) (passed-of-least least is))
      | inr (none, e) ↦ e
    ],
    λ e. inr ((λ least is. never (least - x) (passed-of-least least is)), e),
  )
  tied-passing (Some n) skips (distance, passed, is_number) =
      let found = least-of-passed distance passed in
      let numbered = is_number ∙ number-at distance in (
        λ passing. elim passing [
          | inl (least, is, e) ↦
              e ∙ skip-same (number_of flow.first least) n (ap (number_of flow.first) (least-once flow lasts x least (x + distance) is found) ∙ sym numbered)
          | inr (none, e) ↦ absurd (none (x + distance) found)
        ],
        λ e. inl (x + distance, found, e ∙ skip-same n (number_of flow.first (x + distance)) numbered),
      )

-- the number that lies the width less one before another
slid-number : (first x width number to : ℕ) → 1 ≤ width → width ≤ offset (number_of first x) number → number < 8192 → to < 8192 → offset to number + 1 ≡ width
    → to ≡ number_of first (x + offset (number_of first x) number + 1 - width)
slid-number first x width number to some far small small' last =
    let is = index-offset first x number small in
    omega arith

-- a window slides to the same number
pub tied-sliding : (flow : RuledFlow) (x number : ℕ) (slid : Option ℕ) (skips : List FlowEvent) → 1 ≤ flow.width → flow.width ≤ 4096 → number < 8192
    → IsSlidTo (number_of flow.first x) flow.width number slid → IsSliding flow x number skips ↔ (skips ≡ skips_to slid)
tied-sliding flow x number None skips some narrow small within =
    let inside : (index : ℕ) → IsAhead flow.first x number index → index < x + flow.width = λ index ahead.
    let at = ahead-offset flow.first x number index ahead in
    let to = ahead.to in
    elim within [ inl near ↦ omega arith | inr behind ↦ absurd (omega arith) ] in (
      λ sliding. elim sliding [
        | inl (index, ahead, far, e) ↦ let near = inside index ahead in absurd (omega arith)
        | inr (all, e) ↦ e
      ],
      λ e. inr (inside, e),
    )
tied-sliding flow x number (Some to) skips some narrow small (far, near, small', last) =
    let distance = offset (number_of flow.first x) number in
    let ahead = ahead-at flow.first x number small near in
    let is = slid-number flow.first x flow.width number to some far small small' last in (
      λ sliding. elim sliding [
        | inl (index, ahead', far', e) ↦
            let at = ahead-offset flow.first x number index ahead' in
            e ∙ skip-same (number_of flow.first (index + 1 - flow.width)) to (ap (λ i. number_of flow.first (i + 1 - flow.width)) (sym at) ∙ sym is)
        | inr (all, e) ↦ let inside = all (x + distance) ahead in absurd (omega arith)
      ],
      λ e. inl (x + distance, ahead, omega arith, e ∙ skip-same to (number_of flow.first (x + distance + 1 - flow.width)) is),
    )
