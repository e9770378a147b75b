-- The least of the last indexes of a flow's channels.
use Rattle.std.proofs.Common.{◌≡◌, ℕ, zero, suc, ◌+◌, ◌<◌, ◌⊎◌, inl, inr, Bool, true, false, Option, Some, None, List, [], ◌∷◌, length, slice_get, refl, sym, ap, subst, ◌∙◌, arith}
use Rattle.std.proofs.lemmas.Bool.{cases_eq, cases_lt}
use Rattle.std.proofs.lemmas.Option.{slice_get_within}
use Rattle.flow_core.specs.Fates.{number_of}
use Rattle.flow_core.specs.Events.{FlowEvent, skip_to}
use Rattle.flow_core.proofs.Deciding.{Decided}
use Rattle.loss_rule.specs.Rule.{RuledFlow, HasChannel, Lasts, IsLastOn, IsPassed, HaveComeTo, IsLeastLast, IsPassing}
use Rattle.loss_rule.specs.Inside.Leasts.{LacksOne, AreBelow}

-- whether a flow has a channel, and its last index, can be decided
said_yes : (o : Option Bool) → Decided (o ≡ Some true)
said_yes None = inr (λ e. cc)
said_yes (Some true) = inl refl
said_yes (Some false) = inr (λ e. cc)

-- so can its last index
has_last : (o : Option (Option ℕ)) → ((index : ℕ) × (o ≡ Some (Some index))) ⊎ ((index : ℕ) → o ≡ Some (Some index) → ⊥)
has_last None = inr (λ index e. cc)
has_last (Some None) = inr (λ index e. cc)
has_last (Some (Some index)) = inl (index, refl)

-- a channel has one last index
pub last-once : (lasts : Lasts) (channel i j : ℕ) → IsLastOn lasts channel i → IsLastOn lasts channel j → i ≡ j
last-once lasts channel i j p q = let same : Some (Some i) ≡ Some (Some j) = sym p ∙ q in cc

-- what is known of the channels below n, and of the next one
module _ (flow : RuledFlow) (lasts : Lasts) (n : ℕ) where
  -- the flow doesn't have the next one
  without : (HasChannel flow n → ⊥) → AreBelow flow lasts n → AreBelow flow lasts (n + 1)
  without not_so (inl lacks) = inl lacks
  without not_so (inr (inl (own, least, has, last, each))) =
      inr (inl (
        own,
        least,
        has,
        last,
        λ channel below is. elim (cases_eq channel n) [
          | inl same ↦ absurd (not_so (subst (HasChannel flow) same is))
          | inr differ ↦ each channel (omega arith) is
        ],
      ))
  without not_so (inr (inr none)) = inr (inr (λ channel below is. elim (cases_eq channel n) [
    | inl same ↦ not_so (subst (HasChannel flow) same is)
    | inr differ ↦ none channel (omega arith) is
  ]))

  -- the next one has this last index
  with_last : (index : ℕ) → HasChannel flow n → IsLastOn lasts n index → AreBelow flow lasts n → AreBelow flow lasts (n + 1)
  with_last index has last (inl lacks) = inl lacks
  with_last index has last (inr (inl (own, least, has', last', each))) =
      elim (cases_lt index least) [
        | inl less ↦ inr (inl (
          n,
          index,
          has,
          last,
          λ channel below is. elim (cases_eq channel n) [
            | inl same ↦ (index, subst (λ k. IsLastOn lasts k index) (sym same) last, omega arith)
            | inr differ ↦ let found = each channel (omega arith) is in (found.0, found.1, omega (arith, found.2))
          ],
        ))
        | inr more ↦ inr (inl (
          own,
          least,
          has',
          last',
          λ channel below is. elim (cases_eq channel n) [
            | inl same ↦ (index, subst (λ k. IsLastOn lasts k index) (sym same) last, more)
            | inr differ ↦ each channel (omega arith) is
          ],
        ))
      ]
  with_last index has last (inr (inr none)) =
      inr (inl (
        n,
        index,
        has,
        last,
        λ channel below is. elim (cases_eq channel n) [
          | inl same ↦ (index, subst (λ k. IsLastOn lasts k index) (sym same) last, omega arith)
          | inr differ ↦ absurd (none channel (omega arith) is)
        ],
      ))

  -- whether it has it or not
  next_channel : AreBelow flow lasts n → AreBelow flow lasts (n + 1)
  next_channel below =
      elim (said_yes (slice_get flow.channels n)) [
        | inr not_so ↦ without not_so below
        | inl has ↦ elim (has_last (slice_get lasts n)) [
          | inl last ↦ with_last last.0 has last.1 below
          | inr none ↦ inl (record { channel = n; has = has; none = none })
        ]
      ]

-- so of all channels below a number
channels-below : (flow : RuledFlow) (lasts : Lasts) (n : ℕ) → AreBelow flow lasts n
channels-below flow lasts zero = inr (inr (λ channel below is. omega arith))
channels-below flow lasts (suc n) = subst (AreBelow flow lasts) (omega arith) (next_channel flow lasts n (channels-below flow lasts n))

-- some channel has no last index, or there is a least one, or the flow has no channel
pub least-cases : (flow : RuledFlow) (lasts : Lasts) → LacksOne flow lasts ⊎ ((least : ℕ) × HaveComeTo flow lasts least) ⊎ ((channel : ℕ) → HasChannel flow channel → ⊥)
least-cases flow lasts =
    elim (channels-below flow lasts (length flow.channels)) [
      | inl lacks ↦ inl lacks
      | inr (inl (own, least, has, last, each)) ↦
          inr (inl (least, record { own = own; has = has; last = last; each = λ channel is. each channel (slice_get_within flow.channels channel true is) is }))
      | inr (inr none) ↦ inr (inr (λ channel is. none channel (slice_get_within flow.channels channel true is) is))
    ]

-- the least one is one
pub least-once : (flow : RuledFlow) (lasts : Lasts) (x y i j : ℕ) → IsLeastLast flow lasts x i → IsLeastLast flow lasts y j → i ≡ j
least-once flow lasts x y i j p q =
    let there = p.each q.one.0 q.one.1 in
    let here = q.each p.one.0 p.one.1 in
    let same = last-once lasts q.one.0 there.0 j there.1 q.one.2 in
    let same' = last-once lasts p.one.0 here.0 i here.1 p.one.2 in
    omega (arith, there.2, here.2)

-- what the skip is to what every channel has passed: there is one
pub passing-some : (flow : RuledFlow) (lasts : Lasts) (x : ℕ) → (skips : List FlowEvent) × IsPassing flow lasts x skips
passing-some flow lasts x =
    elim (least-cases flow lasts) [
      | inl lacks ↦ ([], inr (λ least p. (let found = p.each lacks.channel lacks.has in lacks.none found.0 found.1), refl))
      | inr (inr none) ↦ ([], inr (λ least p. none p.one.0 p.one.1, refl))
      | inr (inl (least, is)) ↦ elim (cases_lt x least) [
        | inr behind ↦ (
          [],
          inr (
            λ other p. (
                let found = p.each is.own is.has in
                let same = last-once lasts is.own found.0 least found.1 is.last in
                let ahead = p.ahead in
                omega (arith, found.2)),
            refl,
          ),
        )
        | inl ahead ↦ (_, inl (least, record { ahead = ahead; one = (is.own, is.has, is.last); each = is.each }, refl))
      ]
    ]

-- and only one
pub passing-once : (flow : RuledFlow) (lasts : Lasts) (x : ℕ) (skips others : List FlowEvent) → IsPassing flow lasts x skips → IsPassing flow lasts x others → skips ≡ others
passing-once flow lasts x skips others (inl p) (inl q) =
    p.2 ∙ ap (λ i. skip_to (number_of flow.first i) ∷ []) (least-once flow lasts x x p.0 q.0 p.1 q.1) ∙ sym q.2
passing-once flow lasts x skips others (inl p) (inr q) = absurd (q.0 p.0 p.1)
passing-once flow lasts x skips others (inr p) (inl q) = absurd (p.0 q.0 q.1)
passing-once flow lasts x skips others (inr p) (inr q) = p.1 ∙ sym q.1

-- every channel has passed what lies before the index to which all have come
pub come-passed : (flow : RuledFlow) (lasts : Lasts) (least i : ℕ) → HaveComeTo flow lasts least → i < least → IsPassed flow lasts i
come-passed flow lasts least i is below channel has = let found = is.each channel has in (found.0, found.1, omega (arith, found.2))
