-- Segments that are spread over channels and come in time fit the window.
use Rattle.std.proofs.Common.{◌≡◌, ℕ, zero, suc, ◌+◌, ◌-◌, ◌%◌, ◌<◌, ◌≤◌, ◌⊎◌, inl, inr, true, Some, List, [], ◌∷◌, length, replicate, slice_get, refl, ap, sym, subst, ◌∙◌, arith, mod-lt}
use Rattle.std.proofs.lemmas.Bool.{cases_eq, cases_lt}
use Rattle.std.proofs.lemmas.List.{length-replicate}
use Rattle.std.proofs.lemmas.Option.{slice_get_within}
use Rattle.std.proofs.Math.Nat.{add-mod_right, mod-eq_of_lt}
use Rattle.docsis_wire.specs.declared.segment.Segment.{Segment}
use Rattle.docsis_wire.proofs.StreamPlaces.{element_at}
use Rattle.loss_rule.specs.Rule.{Coming, on_channel, handed_in, RuledFlow, HasChannel}
use Rattle.loss_rule.specs.InOrder.{Comes, AreInChannelOrder, ComeWithin, FitTheWindow, HaveNoDecision}
use Rattle.loss_rule.specs.Dealing.{AreSpread, dealt_from, dealt}

module _ (flow : RuledFlow) (comings : List Coming) (index_at : ℕ → ℕ) (d m : ℕ) (wide : d + m ≤ flow.width) (spread : AreSpread flow comings index_at m)
    (within : ComeWithin comings index_at d) where
  -- before a segment comes one on each channel, less than d + m before it
  one-before : (p own channel : ℕ) (segment : Segment) → Comes comings p own segment → HasChannel flow channel
      → (index_at p < flow.width) ⊎ ((q : ℕ) × (last : Segment) × (q < p) × Comes comings q channel last × (index_at p < index_at q + flow.width))
  one-before p own channel segment is has =
      elim (cases_lt (index_at p) (d + m)) [
        | inl low ↦ inl (omega arith)
        | inr high ↦
            let i = index_at p + 1 - (d + m) in
            let e : i + (d + m) ≡ index_at p + 1 = omega arith in
            let found = spread i p own channel segment is has (omega arith) in
            let from = found.3 in
            let to = found.4 in
            inr (found.0, found.1, within p found.0 own channel segment found.1 is found.2 (omega arith), found.2, omega arith)
      ]

  -- so they fit the window
  pub spread-fits : flow.width ≤ 4096 → (on_flow : (p channel : ℕ) (segment : Segment) → Comes comings p channel segment → HasChannel flow channel)
      → FitTheWindow flow comings index_at
  spread-fits narrow on_flow = record {
    skew = λ p own channel segment is has. elim (one-before p own channel segment is has) [
      | inl low ↦ inl low
      | inr (q, last, before, comes, near) ↦ inr (q, last, omega arith, comes, near)
    ];
    outage = λ p own segment is. elim (one-before p own own segment is (on_flow p own segment is)) [
      | inl low ↦ inl (omega arith)
      | inr (q, last, before, comes, near) ↦ inr (q, last, before, comes, omega arith)
    ];
  }

-- what is dealt in turn: at each place the segment, on its channel
dealt-at : (count k : ℕ) (segments : List Segment) (p channel : ℕ) (segment : Segment) → Comes (dealt_from count k segments) p channel segment
    → (slice_get segments p ≡ Some segment) × (channel ≡ (k + p) % count)
dealt-at count k [] p channel segment is = absurd cc
dealt-at count k (s ∷ segments) zero channel segment is =
    let same : Some (on_channel (k % count) s) ≡ Some (on_channel channel segment) = is in
    let here : channel ≡ k % count = cc in
    let e : k ≡ k + 0 = omega arith in
    ((let one : s ≡ segment = cc in ap Some one), here ∙ ap (λ j. j % count) e)
dealt-at count k (s ∷ segments) (suc p) channel segment is =
    let found = dealt-at count (k + 1) segments p channel segment is in
    let e : (k + 1) + p ≡ k + suc p = omega arith in
    (found.0, found.1 ∙ ap (λ j. j % count) e)

-- and each segment is dealt
dealt-comes : (count k : ℕ) (segments : List Segment) (p : ℕ) (segment : Segment) → slice_get segments p ≡ Some segment
    → Comes (dealt_from count k segments) p ((k + p) % count) segment
dealt-comes count k [] p segment is = absurd cc
dealt-comes count k (s ∷ segments) zero segment is =
    let same : s ≡ segment = cc in
    let e : k ≡ k + 0 = omega arith in
    ap (λ t. Some (on_channel (k % count) t)) same ∙ ap (λ j. Some (on_channel (j % count) segment)) e
dealt-comes count k (s ∷ segments) (suc p) segment is =
    let e : (k + 1) + p ≡ k + suc p = omega arith in
    dealt-comes count (k + 1) segments p segment is ∙ ap (λ j. Some (on_channel (j % count) segment)) e

-- no decision is among them
pub dealt-undecided : (count k : ℕ) (segments : List Segment) → HaveNoDecision (dealt_from count k segments)
dealt-undecided count k [] p event is = absurd cc
dealt-undecided count k (s ∷ segments) zero event is = let wrong : Some (on_channel (k % count) s) ≡ Some (handed_in event) = is in absurd cc
dealt-undecided count k (s ∷ segments) (suc p) event is = dealt-undecided count (k + 1) segments p event is

-- of so many numbers one after another one has a given remainder
one-with_remainder : (count channel i : ℕ) → channel < count → (r : ℕ) × (i ≤ r) × (r < i + count) × (r % count ≡ channel)
one-with_remainder count channel zero below = (channel, omega arith, omega arith, mod-eq_of_lt below)
one-with_remainder count channel (suc i) below =
    let found = one-with_remainder count channel i below in
    let from = found.1 in
    let to = found.2 in
    elim (cases_eq found.0 i) [
      | inl same ↦ (found.0 + count, omega arith, omega arith, add-mod_right found.0 count ∙ found.3)
      | inr differ ↦ (found.0, omega arith, omega arith, found.3)
    ]

-- the channels are the first so many
true-at : (n j : ℕ) → j < n → slice_get (replicate n true) j ≡ Some true
true-at zero j below = absurd (omega arith)
true-at (suc n) zero below = refl
true-at (suc n) (suc j) below = true-at n j (omega arith)

module _ (segments : List Segment) (flow : RuledFlow) (count : ℕ) (some : 1 ≤ count) (channels : flow.channels ≡ replicate count true) where
  has-each : (j : ℕ) → j < count → HasChannel flow j
  has-each j below = ap (λ c. slice_get c j) channels ∙ true-at count j below

  -- and no others
  has-below : (j : ℕ) → HasChannel flow j → j < count
  has-below j has =
      let within = slice_get_within flow.channels j true has in
      let size : length flow.channels ≡ count = ap length channels ∙ length-replicate count true in
      omega arith

  -- so what is dealt in turn is in channel order
  pub dealt-order : AreInChannelOrder flow segments (dealt count segments) (λ p. p)
  dealt-order = record {
    of_cut = λ p channel segment is. (dealt-at count 0 segments p channel segment is).0;
    on_flow = λ p channel segment is. subst (HasChannel flow) (sym (dealt-at count 0 segments p channel segment is).1) (has-each ((0 + p) % count) (mod-lt (0 + p) some));
    once = λ p q channel other segment another is is' same. same;
    in_order = λ p q channel segment another before is is'. before;
  }

  -- each channel gets one of so many
  dealt-spread : AreSpread flow (dealt count segments) (λ p. p) count
  dealt-spread i p own channel segment is has upto =
      let found = one-with_remainder count channel i (has-below channel has) in
      let from = found.1 in
      let to = found.2 in
      let within = slice_get_within segments p segment (dealt-at count 0 segments p own segment is).0 in
      let there = element_at segments found.0 (omega arith) in
      let e : 0 + found.0 ≡ found.0 = omega arith in
      let on : (0 + found.0) % count ≡ channel = ap (λ j. j % count) e ∙ found.3 in
      (found.0, there.0, subst (λ c. Comes (dealt count segments) found.0 c there.0) on (dealt-comes count 0 segments found.0 there.0 there.1), from, to)

  -- it fits a wider window
  pub dealt-fits : count < flow.width → flow.width ≤ 4096 → FitTheWindow flow (dealt count segments) (λ p. p)
  dealt-fits wide narrow =
      spread-fits flow (dealt count segments) (λ p. p) 1 count (omega arith) dealt-spread
      (λ p q own channel segment other is is' before. omega arith) narrow dealt-order.on_flow
