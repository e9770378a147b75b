-- Stretches of byte strings that stand end to end: what stands before a place and after it.
use Rattle.std.proofs.Common.{◌≡◌, ℕ, suc, zero, ◌+◌, ◌<◌, ◌≤◌, Some, List, [], ◌∷◌, ◌++◌, length, take, drop, slice_get, refl, sym, ap, ◌∙◌, subst, arith}
use Rattle.std.specs.List.{concat, AllByRecursion}
use Rattle.std.proofs.lemmas.List.{length-append, take-append-drop, drop_at, drop-drop, drop-append-le, drop-take, take-take, take-append-le, take_min, length-take}
use Rattle.std.proofs.lemmas.List.Folds.{concat-append}
use Rattle.docsis_wire.specs.Stream.{place_of}

-- what holds of each holds of the k-th
pub AllByRecursion-at : {X : Type 0} (P : X → Type 0) (xs : List X) (k : ℕ) (x : X) → AllByRecursion P xs → slice_get xs k ≡ Some x → P x
AllByRecursion-at P [] k x all e = absurd cc
AllByRecursion-at P (y ∷ ys) zero x all e = let same : y ≡ x = cc in subst P same all.0
AllByRecursion-at P (y ∷ ys) (suc k) x all e = AllByRecursion-at P ys k x all.1 e

-- what holds of each by its index holds of all
pub AllByRecursion-from : {X : Type 0} (P : X → Type 0) (xs : List X) → ((k : ℕ) (x : X) → k < length xs → slice_get xs k ≡ Some x → P x) → AllByRecursion P xs
AllByRecursion-from P [] each = tt
AllByRecursion-from P (y ∷ ys) each = (each zero y (omega arith) refl, AllByRecursion-from P ys (λ k x within e. each (suc k) x (omega arith) e))

-- what a list has from the k-th on
pub drop-from : {X : Type 0} (xs : List X) (k : ℕ) (x : X) → slice_get xs k ≡ Some x → drop k xs ≡ x ∷ drop (suc k) xs
drop-from [] k x e = absurd cc
drop-from (y ∷ ys) zero x e = let same : y ≡ x = cc in ap (λ t. t ∷ ys) same
drop-from (y ∷ ys) (suc k) x e = drop-from ys k x e

-- the places after a string are those of the others, further on by its length
pub place_of-cons : (x : List ℕ) (xs : List (List ℕ)) (k : ℕ) → place_of (x ∷ xs) (suc k) ≡ length x + place_of xs k
place_of-cons x xs k = length-append x (concat (take k xs))

-- all strings end to end, cut before the k-th
pub concat-split : (xs : List (List ℕ)) (k : ℕ) → concat xs ≡ concat (take k xs) ++ concat (drop k xs)
concat-split xs k = ap concat (sym (take-append-drop k xs)) ∙ concat-append (take k xs) (drop k xs)

-- each begins within the whole
pub place_of-le_all : (xs : List (List ℕ)) (k : ℕ) → place_of xs k ≤ length (concat xs)
place_of-le_all xs k = omega (arith, ap length (concat-split xs k), length-append (concat (take k xs)) (concat (drop k xs)))

-- what stands after a place of the k-th string
pub behind_place : (xs : List (List ℕ)) (k n : ℕ) (x : List ℕ) → slice_get xs k ≡ Some x → n ≤ length x
    → drop (place_of xs k + n) (concat xs) ≡ drop n x ++ concat (drop (suc k) xs)
behind_place xs k n x e within =
    sym (drop-drop n (place_of xs k) (concat xs)) ∙ ap (λ t. drop n (drop (place_of xs k) t)) (concat-split xs k)
    ∙ ap (drop n) (drop_at (concat (take k xs)) (concat (drop k xs)) (place_of xs k) refl)
    ∙ ap (λ t. drop n (concat t)) (drop-from xs k x e) ∙ drop-append-le n x (concat (drop (suc k) xs)) within

-- the front of some bytes is the front of what they begin
pub front_of-append : (stream front more : List ℕ) (n : ℕ) → stream ≡ front ++ more → take n front ≡ take (length (take n front)) stream
front_of-append stream front more n e =
    sym (ap (take (length (take n front))) e ∙ take-append-le (length (take n front)) front more (omega (arith, length-take n front))
    ∙ ap (λ m. take m front) (length-take n front) ∙ take_min n front)

-- a front is its own front and what comes after that
pub take-split : (s : List ℕ) (n m : ℕ) → take (n + m) s ≡ take n s ++ take m (drop n s)
take-split s n m =
    sym (take-append-drop n (take (n + m) s)) ∙ ap (λ t. t ++ drop n (take (n + m) s)) (take-take n (n + m) s (omega arith)) ∙ ap (λ t. take n s ++ t) (drop-take n m s)
