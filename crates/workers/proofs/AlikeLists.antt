-- Two lists whose elements look alike, each at its place.
use Rattle.std.proofs.Common.{◌≡◌, ℕ, zero, suc, Some, List, [], ◌∷◌, ◌++◌, map, slice_get, ap, sym, ◌∙◌}
use Rattle.std.proofs.lemmas.List.{map-append}
use Rattle.std.proofs.lemmas.Option.{same_Some}

module _ {A B V : Type 0} (f : A → V) (g : B → V) where
  -- what is seen of the two at one place
  pub alike_at : (xs : List A) (ys : List B) (k : ℕ) (x : A) (y : B) → map f xs ≡ map g ys → slice_get xs k ≡ Some x
      → slice_get ys k ≡ Some y → f x ≡ g y
  alike_at [] ys k x y same of_x of_y = absurd (cc)
  alike_at (x' ∷ xs) [] k x y same of_x of_y = absurd (cc)
  alike_at (x' ∷ xs) (y' ∷ ys) zero x y same of_x of_y =
      let head : f x' ≡ g y' = cc in
      ap f (sym (same_Some x' x of_x)) ∙ head ∙ ap g (same_Some y' y of_y)
  alike_at (x' ∷ xs) (y' ∷ ys) (suc k) x y same of_x of_y =
      let tail : map f xs ≡ map g ys = cc in
      alike_at xs ys k x y tail of_x of_y

  -- each has one element more
  pub alike_pushed : (xs : List A) (ys : List B) (x : A) (y : B) → map f xs ≡ map g ys → f x ≡ g y
      → map f (xs ++ x ∷ []) ≡ map g (ys ++ y ∷ [])
  alike_pushed xs ys x y same last =
      map-append f xs (x ∷ []) ∙ ap (λ l. l ++ f x ∷ []) same ∙ ap (λ v. map g ys ++ v ∷ []) last ∙ sym (map-append g ys (y ∷ []))
