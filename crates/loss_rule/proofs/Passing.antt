-- What the skip to what every channel has passed loses, and what it leaves.
use Rattle.std.proofs.Common.{◌≡◌, ℕ, ◌<◌, ◌≤◌, ◌⊎◌, ◌↔◌, inl, inr, Bool, List, [], ◌∷◌, refl, ap, sym, subst, ◌∙◌, arith}
use Rattle.std.proofs.lemmas.Bool.{cases_lt}
use Rattle.std.specs.FinMap as map
use Rattle.docsis_wire.specs.declared.segment.Segment.{Segment}
use Rattle.flow_core.specs.declared.event.Applied.{Applied}
use Rattle.flow_core.specs.declared.event.Applied.TheVariants.{Arrival, Decision, DecisionTo, DecisionSkip}
use Rattle.flow_core.specs.Fates.{Fates, number_of, IsKeptAs, IsLost, IsExpected}
use Rattle.flow_core.specs.Events.{FlowEvent, skip_to, IsAhead, SkipsTo, Leads}
use Rattle.flow_core.proofs.Deciding.{IsAhead-once, IsSkippedTo-decided}
use Rattle.flow_core.proofs.Outcome.{expected-unique}
use Rattle.flow_core.proofs.Skipping.{skip-keeps, skip-reaches}
use Rattle.loss_rule.specs.Rule.{RuledFlow, HasChannel, Lasts, IsLastOn, IsPassed, HaveComeTo, IsLeastLast, IsPassing}
use Rattle.loss_rule.specs.Inside.Reached.{IsReached}
use Rattle.loss_rule.specs.Inside.Arrival.{AreBounded}
use Rattle.loss_rule.proofs.Reaching.{expected-onward}
use Rattle.loss_rule.proofs.Leasts.{last-once, least-once, least-cases, come-passed}

-- one skip
pub skip-one : (first width x number : ℕ) (answers : List Applied) (fates after : Fates) → IsExpected fates x → Leads first width fates (skip_to number ∷ []) answers after
    → (any : Bool) × SkipsTo first x number any fates after
skip-one first width x number answers fates after expected (x', Arrival verdict, rest, between, expected', changes, leads, are) = absurd changes
skip-one first width x number answers fates after expected (x', Decision declared, rest, between, expected', changes, leads, are) = absurd changes
skip-one first width x number answers fates after expected (x', DecisionTo declared, rest, between, expected', changes, leads, are) = absurd changes
skip-one first width x number answers fates after expected (x', DecisionSkip any, rest, between, expected', changes, leads, are) = (
  any,
  subst (λ (f : Fates). SkipsTo first x number any fates f) (sym leads.1)
      (subst (λ k. SkipsTo first k number any fates between) (expected-unique fates x' x expected' expected) changes),
)

-- what a skip loses lies before the index of its number, and was open
pub skip-lost : (first x number end i : ℕ) (fates after : Fates) (any : Bool) → SkipsTo first x number any fates after → IsAhead first x number end → IsLost after i
    → IsLost fates i ⊎ (i < end)
skip-lost first x number end i fates after any skips ahead lost =
    elim (IsSkippedTo-decided first x number fates i) [
      | inl p ↦ inr (subst (λ e. i < e) (IsAhead-once first x number p.end end p.ahead ahead) p.before)
      | inr not_so ↦ inl (sym (skips.others i not_so) ∙ lost)
    ]

-- from that index on all stays
pub skip-leaves : (first x number end i : ℕ) (fates after : Fates) (any : Bool) → SkipsTo first x number any fates after → IsAhead first x number end → end ≤ i
    → map.get after i ≡ map.get fates i
skip-leaves first x number end i fates after any skips ahead from =
    skips.others i (λ p. (
    let same = IsAhead-once first x number p.end end p.ahead ahead in
    let before = p.before in
    omega arith))

-- a least last index that lies less than 4096 after the expected one is ahead
least-ahead : (flow : RuledFlow) (noted : Lasts) (x least : ℕ) → AreBounded noted x → IsLeastLast flow noted x least → IsAhead flow.first x (number_of flow.first least) least
least-ahead flow noted x least bounded is =
    record { from = (let after = is.ahead in omega arith); to = bounded is.one.0 least is.one.2; numbered = refl }

module _ (flow : RuledFlow) (noted : Lasts) (x : ℕ) (fates between : Fates) (passing : List FlowEvent) (answers : List Applied) (expected : IsExpected fates x)
    (bounded : AreBounded noted x) (passes : IsPassing flow noted x passing) (leads : Leads flow.first flow.width fates passing answers between) where
  -- it skips to the least last index, or nothing changes
  pub passing-skips : ((least : ℕ) × IsLeastLast flow noted x least × IsAhead flow.first x (number_of flow.first least) least
      × (any : Bool) × SkipsTo flow.first x (number_of flow.first least) any fates between)
      ⊎ (((least : ℕ) → IsLeastLast flow noted x least → ⊥) × (between ≡ fates))
  passing-skips =
      elim passes [
        | inl p ↦
            let one = skip-one flow.first flow.width x (number_of flow.first p.0) answers fates between expected
            (subst (λ e. Leads flow.first flow.width fates e answers between) p.2 leads) in
            inl (p.0, p.1, least-ahead flow noted x p.0 bounded p.1, one.0, one.1)
        | inr p ↦ inr (p.0, (let none : Leads flow.first flow.width fates [] answers between = subst (λ e. Leads flow.first flow.width fates e answers between) p.1 leads in none.1))
      ]

  -- what it loses lies before the index to which every channel has come
  pub lost-below_least : (i : ℕ) → IsLost between i → IsLost fates i ⊎ ((least : ℕ) × HaveComeTo flow noted least × (i < least))
  lost-below_least i lost =
      elim passing-skips [
        | inl (least, is, ahead, any, skips) ↦ elim (skip-lost flow.first x (number_of flow.first least) least i fates between any skips ahead lost) [
          | inl before ↦ inl before
          | inr below ↦ inr (least, record { own = is.one.0; has = is.one.1; last = is.one.2; each = is.each }, below)
        ]
        | inr (none, same) ↦ inl (subst (λ (f : Fates). IsLost f i) same lost)
      ]

  -- so every channel has passed it
  pub passing-lost : (i : ℕ) → IsLost between i → IsLost fates i ⊎ IsPassed flow noted i
  passing-lost i lost =
      elim (lost-below_least i lost) [
        | inl before ↦ inl before
        | inr (least, come, below) ↦ inr (come-passed flow noted least i come below)
      ]

  -- what was kept stays, and nothing more is kept
  pub passing-keeps : (i : ℕ) (segment : Segment) → IsKeptAs between i segment ↔ IsKeptAs fates i segment
  passing-keeps i segment =
      elim passing-skips [
        | inl (least, is, ahead, any, skips) ↦ skip-keeps flow.first x (number_of flow.first least) fates between any skips i segment
        | inr (none, same) ↦ (subst (λ (f : Fates). IsKeptAs f i segment) same, subst (λ (f : Fates). IsKeptAs f i segment) (sym same))
      ]

  -- from the last index of a channel on all stays
  pub passing-leaves : (channel index i : ℕ) → HasChannel flow channel → IsLastOn noted channel index → index ≤ i → map.get between i ≡ map.get fates i
  passing-leaves channel index i has last from =
      elim passing-skips [
        | inl (least, is, ahead, any, skips) ↦
            let found = is.each channel has in
            let same = last-once noted channel found.0 index found.1 last in
            skip-leaves flow.first x (number_of flow.first least) least i fates between any skips ahead (omega (arith, found.2))
        | inr (none, same) ↦ ap (λ (f : Fates). map.get f i) same
      ]

  -- the index that is expected then lies after all that every channel has passed
  pub passing-reaches : (y i own : ℕ) → IsReached flow.first flow.width fates → IsExpected between y → HasChannel flow own → IsPassed flow noted i → i < y
  passing-reaches y i own r expected' has passed =
      elim (least-cases flow noted) [
        | inl lacks ↦ let found = passed lacks.channel lacks.has in absurd (lacks.none found.0 found.1)
        | inr (inr none) ↦ absurd (none own has)
        | inr (inl (least, is)) ↦
            let found = passed is.own is.has in
            let same = last-once noted is.own found.0 least found.1 is.last in
            let below : i < least = omega (arith, found.2) in
            elim (cases_lt x least) [
              | inr behind ↦
                  let onward = expected-onward flow.first flow.width x y passing answers fates between r expected leads expected' in
                  omega arith
              | inl from ↦ elim passing-skips [
                | inl (other, least_last, ahead, any, skips) ↦
                    let reaches = skip-reaches flow.first x (number_of flow.first other) fates between any skips y other expected ahead expected' in
                    let same' = least-once flow noted x x other least least_last (record { ahead = from; one = (is.own, is.has, is.last); each = is.each }) in
                    omega arith
                | inr (none, _) ↦ absurd (none least (record { ahead = from; one = (is.own, is.has, is.last); each = is.each }))
              ]
            ]
      ]
