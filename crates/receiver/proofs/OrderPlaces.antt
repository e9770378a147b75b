-- What is left of five lists after a place of an order, and that an order has one fault.
use Rattle.std.proofs.Common.{◌≡◌, ◌≢◌, ℕ, ◌+◌, ◌-◌, ◌<◌, ◌≤◌, ◌↔◌, ◌⊎◌, inl, inr, ⊎_elim, cond, Result, Ok, Err, is_ok, Some, List, [], ◌++◌, length, length-append, append-nil, take, get_or, ◌==◌, eq-eqb, ne_eqb, slice_get, slice_index_or, slice_set, refl, sym, ap, subst, ◌∙◌, arith}
use Rattle.std.proofs.lemmas.Bool.{cases_eq, cases_lt}
use Rattle.std.proofs.lemmas.List.Sums.{count_by_more_yes, count_by_more_no, sum_by-take-le}
use Rattle.std.proofs.Math.Seq.{take-append_seam}
use Rattle.std.proofs.lemmas.List.{length-set, get_or-set_same, get_or-set_other, take_all, take-append-le, get_or_append_left}
use Rattle.std.proofs.lemmas.List.Elements.{All-get_or, All-from_get_or}
use Rattle.std.proofs.lemmas.Option.{slice_get_within, get_or_from_slice_get, slice_get-get_or}
use Rattle.flow_records.proofs.Setup.{least-one}
use Rattle.receiver.specs.Order.{times_of, IsBadPlace, IsOrderFault, IsLawfulOrder}
use Rattle.lane.specs.Limits.{senders}

-- no place before k is bad, and of each list so many items are left
pub record IsLeftOver (lengths order : List ℕ) (k : ℕ) (left : List ℕ) : Type 0 where
  pub five : length left ≡ senders
  pub counted : (sender : ℕ) → sender < senders → slice_index_or left sender 0 + times_of sender (take k order) ≡ slice_index_or lengths sender 0
  pub good : (j : ℕ) → j < k → ¬ (IsBadPlace lengths order j)

-- a sender stands once more in an order after a place that names it, and no more often after any
-- other
pub times-same : (order : List ℕ) (k tag : ℕ) → k < length order → get_or order k tag ≡ tag → times_of tag (take (k + 1) order) ≡ times_of tag (take k order) + 1
times-same order k tag within here = count_by_more_yes (λ t. t == tag) order k tag within (eq-eqb (get_or order k tag) tag here)

pub times-other : (order : List ℕ) (k tag sender : ℕ) → k < length order → get_or order k tag ≡ tag → sender ≢ tag → times_of sender (take (k + 1) order) ≡ times_of sender (take k order)
times-other order k tag sender within here differ = count_by_more_no (λ t. t == sender) order k tag within (ne_eqb (get_or order k tag) sender (λ same. differ (sym same ∙ here)))

err-ok : (k : ℕ) → ◌≡◌ {A = Result (Unit {0}) ℕ} (Err k) (Ok tt) → ⊥
err-ok k same = let tests = ap is_ok same in cc

fault_or : Result (Unit {0}) ℕ → ℕ → ℕ
fault_or (Ok _) d = d
fault_or (Err k) d = k

err-err : (k j : ℕ) → ◌≡◌ {A = Result (Unit {0}) ℕ} (Err k) (Err j) → k ≡ j
unfolding fault_or
err-err k j same = ap (λ r. fault_or r 0) same

module _ (lengths order : List ℕ) where
  -- an order has one fault
  pub one-fault : (j k : ℕ) → IsOrderFault lengths order j → IsOrderFault lengths order k → j ≡ k
  one-fault j k (inl p) (inl q) = least-one (IsBadPlace lengths order) j k p q
  one-fault j k (inl p) (inr q) = absurd (q.0 j p.0)
  one-fault j k (inr p) (inl q) = absurd (p.0 k q.0)
  one-fault j k (inr p) (inr q) = p.1 ∙ sym q.1

  -- what a check may answer of an order that has this fault
  pub refused : (k : ℕ) → IsOrderFault lengths order k → (IsLawfulOrder lengths order → ⊥)
      → (◌≡◌ {A = Result (Unit {0}) ℕ} (Err k) (Ok tt) ↔ IsLawfulOrder lengths order)
      × ((j : ℕ) → ◌≡◌ {A = Result (Unit {0}) ℕ} (Err k) (Err j) ↔ IsOrderFault lengths order j)
  refused k fault unlawful = (
    (λ same. absurd (err-ok k same), λ lawful. absurd (unlawful lawful)),
    λ j. (λ same. subst (IsOrderFault lengths order) (err-err k j same) fault, λ other. ap Err (one-fault k j fault other)),
  )

  -- and of a lawful one
  pub taken : IsLawfulOrder lengths order → ((k : ℕ) → IsOrderFault lengths order k → ⊥)
      → (◌≡◌ {A = Result (Unit {0}) ℕ} (Ok tt) (Ok tt) ↔ IsLawfulOrder lengths order)
      × ((j : ℕ) → ◌≡◌ {A = Result (Unit {0}) ℕ} (Ok tt) (Err j) ↔ IsOrderFault lengths order j)
  taken lawful faultless = ((λ _. lawful, λ _. refl), λ j. (λ same. absurd (err-ok j (sym same)), λ fault. absurd (faultless j fault)))

  -- a lawful order has no bad place
  module _ (lawful : IsLawfulOrder lengths order) where
    lawful-good : (k : ℕ) → ¬ (IsBadPlace lengths order k)
    lawful-good k (tag, at, out) =
        let within : k < length order = slice_get_within order k tag at in
        let here : get_or order k tag ≡ tag = get_or_from_slice_get order k tag tag at in
        let named : get_or order k tag < senders = All-get_or (λ t. t < senders) order k tag within lawful.named in
        let more = times-same order k tag within here in
        let all = sum_by-take-le (λ t. cond {A = ℕ} (t == tag) 1 0) order (k + 1) in
        let whole = lawful.whole tag (omega arith) in
        ⊎_elim (λ (unnamed : senders ≤ tag). omega arith) (λ used. omega arith) out

    pub lawful-faultless : (k : ℕ) → IsOrderFault lengths order k → ⊥
    lawful-faultless k (inl fault) = lawful-good k fault.0
    lawful-faultless k (inr fault) = let whole = lawful.whole fault.2.0 fault.2.1 in let short = fault.2.2 in omega arith

  -- the place at which a check stops is bad, and the first one
  pub bad-here : (k tag : ℕ) (left : List ℕ) → IsLeftOver lengths order k left → slice_get order k ≡ Some tag
      → ((senders ≤ tag) ⊎ (slice_index_or left tag 0 ≡ 0)) → IsOrderFault lengths order k
  bad-here k tag left over at out =
      inl (
        (
          tag,
          at,
          ⊎_elim
              (λ unnamed. inl unnamed)
              (λ (none : slice_index_or left tag 0 ≡ 0).
              ⊎_elim
              (λ (named : tag < senders). inr (let counted = over.counted tag named in omega arith))
              (λ (unnamed : senders ≤ tag). inl unnamed)
              (cases_lt tag senders))
              out,
        ),
        over.good,
      )

  -- an item of a sender is taken
  pub left-taken : (k tag : ℕ) (left : List ℕ) → IsLeftOver lengths order k left → slice_get order k ≡ Some tag → tag < senders → 0 < slice_index_or left tag 0
      → IsLeftOver lengths order (k + 1) (slice_set left tag (slice_index_or left tag 0 - 1))
  left-taken k tag left over at named some =
      let five = over.five in
      let within : k < length order = slice_get_within order k tag at in
      let here : get_or order k tag ≡ tag = get_or_from_slice_get order k tag tag at in
      let inside : tag < length left = omega arith in
      record {
        five = length-set left tag (slice_index_or left tag 0 - 1) ∙ five;
        counted = λ sender is_sender. ⊎_elim
            (λ (same : sender ≡ tag).
            subst (λ s. slice_index_or (slice_set left tag (slice_index_or left tag 0 - 1)) s 0 + times_of s (take (k + 1) order) ≡ slice_index_or lengths s 0) (sym same)
            (let counted = over.counted tag named in
            let now = get_or-set_same left tag (slice_index_or left tag 0 - 1) 0 inside in
            let more = times-same order k tag within here in
            omega arith))
            (λ (differ : sender ≢ tag).
            let counted = over.counted sender is_sender in
            let now = get_or-set_other left tag sender (slice_index_or left tag 0 - 1) 0 differ in
            let same = times-other order k tag sender within here differ in
            omega arith)
            (cases_eq sender tag);
        good = λ j before bad. ⊎_elim
            (λ (early : j < k). over.good j early bad)
            (λ (late : k ≤ j).
            let is : j ≡ k = omega arith in
            let tag_is : bad.0 ≡ tag = sym (get_or_from_slice_get order j bad.0 tag bad.1) ∙ ap (λ i. get_or order i tag) is ∙ here in
            let counted = over.counted tag named in
            ⊎_elim
            (λ (unnamed : senders ≤ bad.0). omega arith)
            (λ used. let used_up = subst (λ i. slice_index_or lengths tag 0 ≤ times_of tag (take i order)) is (subst (λ t. slice_index_or lengths t 0 ≤ times_of t (take j order)) tag_is used) in omega arith)
            bad.2)
            (cases_lt j k);
      }

  module _ (left : List ℕ) (k : ℕ) (over : IsLeftOver lengths order k left) (end : length order ≤ k) where
    all-taken : take k order ≡ order
    all-taken = take_all k order end

    counted-all : (sender : ℕ) → sender < senders → slice_index_or left sender 0 + times_of sender order ≡ slice_index_or lengths sender 0
    counted-all sender named = subst (λ o. slice_index_or left sender 0 + times_of sender o ≡ slice_index_or lengths sender 0) all-taken (over.counted sender named)

    never-bad : (j : ℕ) → ¬ (IsBadPlace lengths order j)
    never-bad j bad = let within = slice_get_within order j bad.0 bad.1 in over.good j (omega arith) bad

    -- items are left over at the end
    pub left-over : (sender : ℕ) → sender < senders → 0 < slice_index_or left sender 0 → IsOrderFault lengths order (length order)
    left-over sender named some = inr (never-bad, refl, (sender, named, let counted = counted-all sender named in omega arith))

    -- or none are
    pub none-left : ((sender : ℕ) → sender < senders → slice_index_or left sender 0 ≡ 0) → IsLawfulOrder lengths order
    none-left none =
        record {
          named = All-from_get_or (λ t. t < senders) order 0 (λ i within. ⊎_elim
              (λ (named : get_or order i 0 < senders). named)
              (λ (unnamed : senders ≤ get_or order i 0). absurd (never-bad i (get_or order i 0, slice_get-get_or order i 0 within, inl unnamed)))
              (cases_lt (get_or order i 0) senders));
          whole = λ sender named. let counted = counted-all sender named in let nothing = none sender named in omega arith;
        }

-- of an order that begins as a lawful one does no place there is bad
module _ (lengths taken rest : List ℕ) (lawful : IsLawfulOrder lengths (taken ++ rest)) where
  good-before : (others : List ℕ) (j : ℕ) → j < length taken → ¬ (IsBadPlace lengths (taken ++ others) j)
  good-before others j before (tag, at, out) =
      let within : j < length (taken ++ rest) = omega (arith, length-append taken rest) in
      let here : get_or (taken ++ rest) j tag ≡ tag =
      get_or_append_left taken rest tag j before ∙ sym (get_or_append_left taken others tag j before) ∙ get_or_from_slice_get (taken ++ others) j tag tag at in
      let there : slice_get (taken ++ rest) j ≡ Some tag = slice_get-get_or (taken ++ rest) j tag within ∙ ap Some here in
      let same : take j (taken ++ others) ≡ take j (taken ++ rest) =
      take-append-le j taken others (omega (arith, before)) ∙ sym (take-append-le j taken rest (omega (arith, before))) in
      lawful-good lengths (taken ++ rest) lawful j
      (tag, there, subst (λ (t : List ℕ). (senders ≤ tag) ⊎ (slice_index_or lengths tag 0 ≤ times_of tag t)) same out)

  -- where no sender stands behind it, or one of which all is taken, the order is at fault
  pub fault-behind : (others : List ℕ) (tag : ℕ) → slice_get (taken ++ others) (length taken) ≡ Some tag
      → ((senders ≤ tag) ⊎ (slice_index_or lengths tag 0 ≤ times_of tag taken)) → IsOrderFault lengths (taken ++ others) (length taken)
  fault-behind others tag at out =
      let same : take (length taken) (taken ++ others) ≡ taken = take-append_seam taken others in
      inl ((tag, at, subst (λ (t : List ℕ). (senders ≤ tag) ⊎ (slice_index_or lengths tag 0 ≤ times_of tag t)) (sym same) out), good-before others)

  -- and where it ends there, and something is left over
  pub fault-end : 0 < length rest → IsOrderFault lengths taken (length taken)
  fault-end some =
      let named : get_or (taken ++ rest) (length taken) 0 < senders =
      All-get_or (λ t. t < senders) (taken ++ rest) (length taken) 0 (omega (arith, length-append taken rest, some)) lawful.named in
      let tag = get_or (taken ++ rest) (length taken) 0 in
      inr (
        λ j bad.
            let within = slice_get_within taken j bad.0 bad.1 in
            good-before [] j within (subst (λ (t : List ℕ). IsBadPlace lengths t j) (sym (append-nil taken)) bad),
        refl,
        (
          tag,
          named,
          let whole = lawful.whole tag named in
              let inside : length taken < length (taken ++ rest) = omega (arith, length-append taken rest, some) in
              let here = get_or_from_slice_get (taken ++ rest) (length taken) tag tag (slice_get-get_or (taken ++ rest) (length taken) 0 inside) in
              let more = times-same (taken ++ rest) (length taken) tag inside here in
              let before = ap (times_of tag) (take-append_seam taken rest) in
              let all = sum_by-take-le (λ t. cond {A = ℕ} (t == tag) 1 0) (taken ++ rest) (length taken + 1) in
              omega arith,
        ),
      )
