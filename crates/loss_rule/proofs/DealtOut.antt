-- Segments that are dealt out over some channels, in any way, with some of them lost and some late.
use Rattle.std.proofs.Common.{◌≡◌, ℕ, zero, suc, ◌+◌, ◌<◌, ◌≤◌, inl, inr, Some, List, ◌∷◌, ◌++◌, length, slice_get, refl, ap, sym, subst, ◌∙◌, arith}
use Rattle.std.proofs.lemmas.Bool.{cases_lt, cases_eq}
use Rattle.std.proofs.lemmas.Option.{slice_get_within}
use Rattle.docsis_wire.specs.declared.segment.Segment.{Segment}
use Rattle.docsis_wire.proofs.StreamPlaces.{element_at}
use Rattle.loss_rule.specs.Rule.{Coming, on_channel, handed_in, RuledFlow, HasChannel}
use Rattle.loss_rule.specs.InOrder.{Comes, AreInChannelOrder, ComeWithin, FitTheWindow, HaveShortOutages, HaveNoDecision}
use Rattle.loss_rule.specs.Dealing.{AreSpread, coming_of, dealt_out_from, dealt_out, AreDealtOut, AreSpreadOut, RiseOverOutages}
use Rattle.loss_rule.proofs.ChannelOrder.{comes-once}
use Rattle.loss_rule.proofs.Dealing.{spread-fits}

-- what comes first
module _ (channel_of index_at : ℕ → ℕ) (segments : List Segment) where
  one-dealt : (k n : ℕ) → index_at k < length segments
      → (segment : Segment) × (slice_get segments (index_at k) ≡ Some segment)
      × (dealt_out_from channel_of index_at segments k (suc n) ≡ on_channel (channel_of (index_at k)) segment ∷ dealt_out_from channel_of index_at segments (k + 1) n)
  one-dealt k n below =
      let there = element_at segments (index_at k) below in (
        there.0,
        there.1,
        ap (λ o. coming_of (channel_of (index_at k)) o ++ dealt_out_from channel_of index_at segments (k + 1) n) there.1,
      )

  -- there are so many
  out-length : (k n : ℕ) → ((p : ℕ) → p < n → index_at (k + p) < length segments) → length (dealt_out_from channel_of index_at segments k n) ≡ n
  out-length k zero of_cut = refl
  out-length k (suc n) of_cut =
      let e : k + 0 ≡ k = omega arith in
      let one = one-dealt k n (subst (λ j. index_at j < length segments) e (of_cut 0 (omega arith))) in
      let rest = out-length (k + 1) n (λ p below. (let e' : k + suc p ≡ (k + 1) + p = omega arith in
      subst (λ j. index_at j < length segments) e' (of_cut (suc p) (omega arith)))) in
      ap length one.2 ∙ ap (λ j. suc j) rest

  -- at each place comes the segment of its index on its channel
  out-at : (k n p : ℕ) → ((q : ℕ) → q < n → index_at (k + q) < length segments) → p < n
      → (segment : Segment) × (slice_get segments (index_at (k + p)) ≡ Some segment)
      × Comes (dealt_out_from channel_of index_at segments k n) p (channel_of (index_at (k + p))) segment
  out-at k zero p of_cut below = absurd (omega arith)
  out-at k (suc n) zero of_cut below =
      let e : k ≡ k + 0 = omega arith in
      let one = one-dealt k n (subst (λ j. index_at j < length segments) (sym e) (of_cut 0 (omega arith))) in
      subst
      (λ j. (segment : Segment) × (slice_get segments (index_at j) ≡ Some segment) × Comes (dealt_out_from channel_of index_at segments k (suc n)) 0 (channel_of (index_at j)) segment)
      e (one.0, one.1, ap (λ c. slice_get c 0) one.2)
  out-at k (suc n) (suc p) of_cut below =
      let e : k + 0 ≡ k = omega arith in
      let one = one-dealt k n (subst (λ j. index_at j < length segments) e (of_cut 0 (omega arith))) in
      let rest = out-at (k + 1) n p (λ q low. (let e' : k + suc q ≡ (k + 1) + q = omega arith in
      subst (λ j. index_at j < length segments) e' (of_cut (suc q) (omega arith)))) (omega arith) in
      let e'' : (k + 1) + p ≡ k + suc p = omega arith in
      subst
      (λ j. (segment : Segment) × (slice_get segments (index_at j) ≡ Some segment)
      × Comes (dealt_out_from channel_of index_at segments k (suc n)) (suc p) (channel_of (index_at j)) segment)
      e'' (rest.0, rest.1, ap (λ c. slice_get c (suc p)) one.2 ∙ rest.2)

module _ (flow : RuledFlow) (channel_of index_at : ℕ → ℕ) (segments : List Segment) (n : ℕ) (out : AreDealtOut flow channel_of index_at segments n) where
  abbrev all : List Coming
  all = dealt_out channel_of index_at segments n

  of_cut : (p : ℕ) → p < n → index_at (0 + p) < length segments
  of_cut p below = let e : p ≡ 0 + p = omega arith in subst (λ j. index_at j < length segments) e (out.of_cut p below)

  -- only places below n have something
  place-below : (p : ℕ) (coming : Coming) → slice_get all p ≡ Some coming → p < n
  place-below p coming is = let within = slice_get_within all p coming is in let size = out-length channel_of index_at segments 0 n of_cut in omega arith

  -- and each has its own
  has-own : (p : ℕ) → p < n → (segment : Segment) × (slice_get segments (index_at p) ≡ Some segment) × Comes all p (channel_of (index_at p)) segment
  has-own p below =
      let e : 0 + p ≡ p = omega arith in
      subst (λ j. (segment : Segment) × (slice_get segments (index_at j) ≡ Some segment) × Comes all p (channel_of (index_at j)) segment)
      e (out-at channel_of index_at segments 0 n p of_cut below)

  is-own : (p channel : ℕ) (segment : Segment) → Comes all p channel segment
      → (p < n) × (channel ≡ channel_of (index_at p)) × (slice_get segments (index_at p) ≡ Some segment)
  is-own p channel segment is =
      let below = place-below p (on_channel channel segment) is in
      let own = has-own p below in
      let same = comes-once all p channel (channel_of (index_at p)) segment own.0 is own.2 in
      (below, same.0, own.1 ∙ ap Some (sym same.1))

  -- no decision is among them
  pub out-undecided : HaveNoDecision all
  out-undecided p event is =
      let own = has-own p (place-below p (handed_in event) is) in
      let wrong : Some (on_channel (channel_of (index_at p)) own.0) ≡ Some (handed_in event) = sym own.2 ∙ is in
      absurd cc

  -- they are in channel order
  pub out-order : AreInChannelOrder flow segments all index_at
  out-order = record {
    of_cut = λ p channel segment is. (is-own p channel segment is).2;
    on_flow = λ p channel segment is. (let own = is-own p channel segment is in subst (λ c. HasChannel flow c) (sym own.1) (out.on_flow p own.0));
    once = λ p q channel other segment another is is' same. place-once p q (is-own p channel segment is).0 (is-own q other another is').0 same;
    in_order = λ p q channel segment another before is is'.
        (let own = is-own p channel segment is in
        let last = is-own q channel another is' in
        out.in_order p q before last.0 (sym own.1 ∙ last.1));
  }
    where
      place-once : (p q : ℕ) → p < n → q < n → index_at p ≡ index_at q → p ≡ q
      place-once p q low high same =
          elim (cases_lt p q) [
            | inl before ↦ let wrong = out.in_order p q before high (ap channel_of same) in absurd (omega arith)
            | inr from ↦ elim (cases_eq p q) [
              | inl equal ↦ equal
              | inr differ ↦ let wrong = out.in_order q p (omega arith) low (ap channel_of (sym same)) in absurd (omega arith)
            ]
          ]

  -- where they are spread, each channel gets one of so many
  module _ (m d : ℕ) (even : AreSpreadOut flow channel_of index_at n m d) where
    out-spread : AreSpread flow all index_at m
    out-spread i p own channel segment is has upto =
        let found = even.spread i p channel (is-own p own segment is).0 has upto in
        let there = has-own found.0 found.1 in
        (found.0, there.0, subst (λ c. Comes all found.0 c there.0) found.2 there.2, found.3, found.4)

    -- and none comes so late
    out-within : ComeWithin all index_at d
    out-within p q own channel segment other is is' far = even.within p q (is-own p own segment is).0 (is-own q channel other is').0 far

    -- so they fit the window
    pub out-fits : d + m ≤ flow.width → flow.width ≤ 4096 → FitTheWindow flow all index_at
    out-fits wide narrow = spread-fits flow all index_at d m wide out-spread out-within narrow out-order.on_flow

  -- where they come in order over outages, none comes late
  module _ (over : RiseOverOutages flow.width index_at n) where
    pub over-within : 1 ≤ flow.width → ComeWithin all index_at flow.width
    over-within some p q own channel segment other is is' far =
        elim (cases_lt q p) [
          | inl before ↦ before
          | inr from ↦ elim (cases_eq p q) [
            | inl same ↦ let at = ap index_at same in absurd (omega arith)
            | inr differ ↦ let rises = over.rise p q (omega arith) (is-own q channel other is').0 in absurd (omega arith)
          ]
        ]

    -- and numbers show how long they were
    pub over-short : HaveShortOutages flow all index_at
    over-short zero own segment is = inl over.start
    over-short (suc p) own segment is =
        let below : p + 1 < n = let low = (is-own (suc p) own segment is).0 in omega arith in
        let before = has-own p (omega arith) in
        let e : p + 1 ≡ suc p = omega arith in
        let step = subst (λ k. index_at k + flow.width ≤ index_at p + 4096) e (over.step p below) in
        inr (p, channel_of (index_at p), before.0, omega arith, before.2, step)
