-- What becomes of a list whose places are rewritten one after another.
use Rattle.std.proofs.Common.{◌≡◌, ℕ, zero, suc, ◌+◌, Some, List, [], ◌∷◌, ◌++◌, map, take, drop, set, slice_get, sym, ap, ◌∙◌, ◌≤◌, length, add-one, append-nil}
use Rattle.std.proofs.Math.ListN.{drop_of_length-le}
use Rattle.std.proofs.lemmas.List.{take_all}
use Rattle.std.proofs.lemmas.Option.{none-some, same_Some}

-- the places below i are rewritten, and now the one at i
rewritten-suc : {A : Type 0} (f : A → A) (xs : List A) (i : ℕ) (x : A) → slice_get (map f (take i xs) ++ drop i xs) i ≡ Some x
    → set (map f (take i xs) ++ drop i xs) i (f x) ≡ map f (take (suc i) xs) ++ drop (suc i) xs
rewritten-suc f [] zero x at = absurd (none-some x at)
rewritten-suc f [] (suc i) x at = absurd (none-some x at)
rewritten-suc f (y ∷ ys) zero x at = ap (λ z. f z ∷ ys) (sym (same_Some y x at))
rewritten-suc f (y ∷ ys) (suc i) x at = ap (λ zs. f y ∷ zs) (rewritten-suc f ys i x at)

pub rewritten : {A : Type 0} (f : A → A) (xs : List A) (i : ℕ) (x : A) → slice_get (map f (take i xs) ++ drop i xs) i ≡ Some x
    → set (map f (take i xs) ++ drop i xs) i (f x) ≡ map f (take (i + 1) xs) ++ drop (i + 1) xs
rewritten f xs i x at = rewritten-suc f xs i x at ∙ ap (λ n. map f (take n xs) ++ drop n xs) (sym (add-one i))

-- once all places are rewritten
pub all-rewritten : {A : Type 0} (f : A → A) (xs : List A) (i : ℕ) → length xs ≤ i → map f (take i xs) ++ drop i xs ≡ map f xs
all-rewritten f xs i all = ap (λ zs. map f zs ++ drop i xs) (take_all i xs all) ∙ ap (λ zs. map f xs ++ zs) (drop_of_length-le xs all) ∙ append-nil (map f xs)
