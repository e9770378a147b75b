-- Numbers in order: where one is inserted, and which comes first going up from a low one and round.
use Rattle.std.proofs.Common.{◌≡◌, ℕ, ◌-◌, ◌+◌, ◌<◌, ◌≤◌, inl, inr, true, false, List, length, get_or, ⊎_elim, subst, arith, ltb, ltb-true, ltb-false, leb, leb-true, leb-false}
use Rattle.std.specs.Prelude.{All, remove}
use Rattle.std.proofs.lemmas.List.Edits.{get_or-remove_below, get_or-remove_above, length-remove}
use Rattle.std.specs.List.{insert}
use Rattle.std.specs.List.Sorted.{IsNonDecreasing, IsPartitionPoint}
use Rattle.std.proofs.lemmas.Bool.{cases_lt}
use Rattle.std.proofs.lemmas.List.{get_or_default}
use Rattle.std.proofs.lemmas.List.Sorted.{IsNonDecreasingBy-insert}
use Rattle.capture_rules.specs.Inside.Round.{ComesFirst}

module _ (numbers : List ℕ) (ordered : IsNonDecreasing numbers) where
  rises : (i j d e : ℕ) → i ≤ j → j < length numbers → get_or numbers i d ≤ get_or numbers j e
  rises i j d e before below = subst (λ n. n ≤ get_or numbers j e) (get_or_default numbers i e d (omega (arith, before, below))) (ordered i j e before below)

  -- the last one isn't greater
  pub last-most : (last number d : ℕ) → last ≡ get_or numbers (length numbers - 1) last → last ≤ number → 0 < length numbers → get_or numbers (length numbers - 1) d ≤ number
  last-most last number d is most some = let same = get_or_default numbers (length numbers - 1) last d (omega (arith, some)) in omega (arith, is, most, same)

  -- one is inserted where those before it aren't greater, and those behind it are
  pub ordered-inserted : (at number : ℕ) → at ≤ length numbers → IsPartitionPoint (λ n. leb n number ≡ true) (λ n. leb n number ≡ false) numbers at
      → IsNonDecreasing (insert numbers at number)
  ordered-inserted at number within point =
      IsNonDecreasingBy-insert (λ n. n) numbers at number ordered within
      (λ k d before. leb-true _ _ (point.0 k d (omega arith) before))
      (λ k d behind below. let more = leb-false _ _ (point.1 k d behind below) in omega (arith, more))

  -- one is taken out
  pub ordered-removed : (at : ℕ) → at < length numbers → IsNonDecreasing (remove numbers at)
  ordered-removed at within i j d before below =
      let size = length-remove numbers at within in
      ⊎_elim
      (λ (i_first : i < at). ⊎_elim
      (λ (j_first : j < at). let a = get_or-remove_below numbers at d i i_first within in let b = get_or-remove_below numbers at d j j_first within in let le = ordered i j d before (omega (arith, j_first, within)) in omega (arith, a, b, le))
      (λ (j_last : at ≤ j). let a = get_or-remove_below numbers at d i i_first within in let b = get_or-remove_above numbers at d j j_last within in let le = ordered i (j + 1) d (omega (arith, before)) (omega (arith, below, size)) in omega (arith, a, b, le))
      (cases_lt j at))
      (λ (i_last : at ≤ i).
      let a = get_or-remove_above numbers at d i i_last within in
      let b = get_or-remove_above numbers at d j (omega (arith, before, i_last)) within in
      let le = ordered (i + 1) (j + 1) d (omega (arith, before)) (omega (arith, below, size)) in omega (arith, a, b, le))
      (cases_lt i at)

  module _ (low : ℕ) where
    -- the first one that isn't below the low one
    pub first-from_low : (at : ℕ) → IsPartitionPoint (λ n. ltb n low ≡ true) (λ n. ltb n low ≡ false) numbers at → at < length numbers
        → (d : ℕ) → All (ComesFirst low (get_or numbers at d)) numbers
    first-from_low at point within d k e below =
        let here : low ≤ get_or numbers at d = ltb-false _ _ (point.1 at d (omega arith) within) in
        ⊎_elim
        (λ (before : k < at). let less : get_or numbers k e < low = ltb-true _ _ (point.0 k e (omega arith) before) in inl (here, λ reaches. absurd (omega (arith, less, reaches))))
        (λ (behind : at ≤ k). inl (here, λ _. rises at k d e behind below))
        (cases_lt k at)

    -- where the last one is not below the low one, there is such a one
    pub within-from_low : (at last : ℕ) → IsPartitionPoint (λ n. ltb n low ≡ true) (λ n. ltb n low ≡ false) numbers at → at ≤ length numbers → 0 < length numbers
        → last ≡ get_or numbers (length numbers - 1) last → low ≤ last → at < length numbers
    within-from_low at last point within some is most =
        ⊎_elim
        (λ (below : at < length numbers). below)
        (λ (all : length numbers ≤ at).
        let less : get_or numbers (length numbers - 1) last < low = ltb-true _ _ (point.0 (length numbers - 1) last (omega arith) (omega (arith, all, some))) in
        absurd (omega (arith, less, is, most)))
        (cases_lt at (length numbers))

    -- the first of all, where it isn't below the low one, or the last one is
    pub first-of_high : (first d : ℕ) → first ≡ get_or numbers 0 first → low ≤ first → All (ComesFirst low (get_or numbers 0 d)) numbers
    first-of_high first d is most k e below =
        let same = get_or_default numbers 0 first d (omega (arith, below)) in
        inl (omega (arith, is, same, most), λ _. rises 0 k d e (omega arith) below)

    pub first-of_low : (last d : ℕ) → last ≡ get_or numbers (length numbers - 1) last → last < low → All (ComesFirst low (get_or numbers 0 d)) numbers
    first-of_low last d is less k e below =
        let most = rises k (length numbers - 1) e last (omega (arith, below)) (omega (arith, below)) in
        let least = rises 0 k d e (omega arith) below in
        inr (omega (arith, is, least, rises 0 (length numbers - 1) d last (omega arith) (omega (arith, below)), less), (omega (arith, is, most, less), least))
