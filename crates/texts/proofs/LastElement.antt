-- A list with one more element at its end.
use Rattle.std.proofs.Common.{◌≡◌, ℕ, zero, suc, ◌<◌, ◌⊎◌, inl, inr, ⊎_elim, Some, List, [], ◌∷◌, ◌++◌, length, slice_get, refl, sym, ap, subst, arith}
use Rattle.std.proofs.lemmas.Option.{none-some, same_Some, slice_get_within}

-- each element of a list has a property
abbrev pub EachAt : {T : Type 0} → (T → Type 0) → List T → Type 0
EachAt {T} P xs = (k : ℕ) (x : T) → slice_get xs k ≡ Some x → P x

-- no element of a list is related to one before it
abbrev pub AreApart : {T : Type 0} → (T → T → Type 0) → List T → Type 0
AreApart {T} Same xs = (j k : ℕ) (earlier x : T) → j < k → slice_get xs j ≡ Some earlier → slice_get xs k ≡ Some x → ¬ (Same earlier x)

module _ {T : Type 0} where
  -- an element of the longer list is one of the list, or the last
  pub slice_get-pushed : (xs : List T) (y : T) (k : ℕ) (x : T) → slice_get (xs ++ y ∷ []) k ≡ Some x
      → (slice_get xs k ≡ Some x) ⊎ ((k ≡ length xs) × (x ≡ y))
  slice_get-pushed [] y zero x is = inr (refl, sym (same_Some y x is))
  slice_get-pushed [] y (suc k) x is = absurd (none-some x is)
  slice_get-pushed (z ∷ xs) y zero x is = inl is
  slice_get-pushed (z ∷ xs) y (suc k) x is = ⊎_elim (λ of. inl of) (λ last. inr (ap suc last.0, last.1)) (slice_get-pushed xs y k x is)

  -- and an element of the list is one of the longer list
  pub slice_get-front : (xs : List T) (y : T) (k : ℕ) (x : T) → slice_get xs k ≡ Some x → slice_get (xs ++ y ∷ []) k ≡ Some x
  slice_get-front [] y k x is = absurd (none-some x is)
  slice_get-front (z ∷ xs) y zero x is = is
  slice_get-front (z ∷ xs) y (suc k) x is = slice_get-front xs y k x is

  -- what each element has, each of the longer list has if the last has it
  pub EachAt-pushed : (P : T → Type 0) (xs : List T) (y : T) → EachAt P xs → P y → EachAt P (xs ++ y ∷ [])
  EachAt-pushed P xs y each last k x at = ⊎_elim (λ of. each k x of) (λ is. subst P (sym is.1) last) (slice_get-pushed xs y k x at)

  -- no two are related if none is related to the last
  pub AreApart-pushed : (Same : T → T → Type 0) (xs : List T) (y : T) → AreApart Same xs → EachAt (λ x. ¬ (Same x y)) xs
      → AreApart Same (xs ++ y ∷ [])
  AreApart-pushed Same xs y apart new j k earlier x before at_j at_k same =
      ⊎_elim
      (λ of_j. ⊎_elim
      (λ of_k. apart j k earlier x before of_j of_k same)
      (λ last_k. new j earlier of_j (subst (Same earlier) last_k.1 same))
      (slice_get-pushed xs y k x at_k))
      (λ last_j. ⊎_elim
      (λ of_k. let within = slice_get_within xs k x of_k in let place = last_j.0 in absurd (omega arith))
      (λ last_k. let place = last_j.0 in let place_k = last_k.0 in absurd (omega arith))
      (slice_get-pushed xs y k x at_k))
      (slice_get-pushed xs y j earlier at_j)
