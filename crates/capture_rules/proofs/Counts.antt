-- How many of a list pass a test.
use Rattle.std.proofs.Common.{◌≡◌, ℕ, suc, ◌+◌, ◌<◌, ◌==◌, Bool, true, false, cond, Some, List, [], ◌∷◌, slice_get, get_or, refl, ap, sym, subst, eqb-true, arith}
use Rattle.std.specs.Prelude.{All, remove}
use Rattle.std.specs.List.{count_by}
use Rattle.std.proofs.lemmas.Option.{slice_get_within, get_or_from_slice_get}
use Rattle.std.proofs.lemmas.List.Sums.{sum_by-append, sum_by-le}
use Rattle.std.proofs.lemmas.List.Sorted.{IsPermutation-remove, sum_by_popped}

module _ {X : Type 0} (p : X → Bool) where
  abbrev pub one_if : X → ℕ
  one_if x = cond (p x) 1 0

  one_if-yes : (x : X) → p x ≡ true → one_if x ≡ 1
  one_if-yes x passes = ap (λ b. cond b 1 0) passes

  one_if-no : (x : X) → p x ≡ false → one_if x ≡ 0
  one_if-no x fails = ap (λ b. cond b 1 0) fails

  pub count-cons : (x : X) (xs : List X) → count_by p (x ∷ xs) ≡ one_if x + count_by p xs
  count-cons x xs = let said = sum_by-append one_if (x ∷ []) xs in omega (arith, said)

  -- none passes
  pub count-none : (xs : List X) → All (λ x. p x ≡ false) xs → count_by p xs ≡ 0
  count-none xs none =
      let most = sum_by-le one_if 0 xs (λ k d within. let zero_times = one_if-no (get_or xs k d) (none k d within) in omega (arith, zero_times)) in
      omega (arith, most)

  -- one is taken out
  pub count-removed : (xs : List X) (i : ℕ) (x : X) → slice_get xs i ≡ Some x → count_by p (remove xs i) + one_if x ≡ count_by p xs
  count-removed xs i x stands =
      sum_by_popped one_if x xs (remove xs i) (IsPermutation-remove xs i x (slice_get_within xs i x stands) (sym (get_or_from_slice_get xs i x x stands)))

  -- one passes
  pub count-some : (xs : List X) (i : ℕ) (x : X) → slice_get xs i ≡ Some x → p x ≡ true → 0 < count_by p xs
  count-some xs i x stands passes =
      let removed = count-removed xs i x stands in
      let once = one_if-yes x passes in
      omega (arith, removed, once)

-- what holds of all of some numbers holds of one that stands among them
pub holds-among : (P : ℕ → Type 0) (n : ℕ) (numbers : List ℕ) → All P numbers → 0 < count_by (λ m. m == n) numbers → P n
holds-among P n [] all some = absurd (omega (arith, some))
holds-among P n (m ∷ numbers) all some =
    elim (m == n) as (λ b. (m == n) ≡ b → P n) [
      | true ↦ λ same. subst P (eqb-true m n same) (all 0 m (omega arith))
      | false ↦ λ apart.
          let counted = count-cons (λ k. k == n) m numbers in
          let zero_times = one_if-no (λ k. k == n) m apart in
          holds-among P n numbers (λ k d within. all (suc k) d (omega (arith, within))) (omega (arith, some, counted, zero_times))
    ] refl
