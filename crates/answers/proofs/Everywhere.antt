-- What holds of each element of lists, by recursion.
use Rattle.std.proofs.Common.{◌≡◌, ℕ, zero, suc, ◌≤◌, Option, Some, None, List, [], ◌∷◌, ◌++◌, length, map, filter_map, slice_get, refl, subst, arith}
use Rattle.std.specs.List.{AllByRecursion, cons_option}

-- of two lists, one after the other
pub all_append : {X : Type 0} (P : X → Type 0) (xs ys : List X) → AllByRecursion P xs → AllByRecursion P ys → AllByRecursion P (xs ++ ys)
all_append P [] ys p q = q
all_append P (x ∷ xs) ys p q = (p.0, all_append P xs ys p.1 q)

-- a weaker fact
pub all_weaker : {X : Type 0} (P Q : X → Type 0) → ((x : X) → P x → Q x) → (xs : List X) → AllByRecursion P xs → AllByRecursion Q xs
all_weaker P Q weaker [] all = tt
all_weaker P Q weaker (x ∷ xs) all = (weaker x all.0, all_weaker P Q weaker xs all.1)

-- of the images
pub all_map : {X Y : Type 0} (P : Y → Type 0) (f : X → Y) (xs : List X) → AllByRecursion (λ x. P (f x)) xs → AllByRecursion P (map f xs)
all_map P f [] all = tt
all_map P f (x ∷ xs) all = (all.0, all_map P f xs all.1)

pub all_of_map : {X Y : Type 0} (P : Y → Type 0) (f : X → Y) (xs : List X) → AllByRecursion P (map f xs) → AllByRecursion (λ x. P (f x)) xs
all_of_map P f [] all = tt
all_of_map P f (x ∷ xs) all = (all.0, all_of_map P f xs all.1)

-- of every list, where it holds of every element
pub all_true : {X : Type 0} (P : X → Type 0) → ((x : X) → P x) → (xs : List X) → AllByRecursion P xs
all_true P true_of [] = tt
all_true P true_of (x ∷ xs) = (true_of x, all_true P true_of xs)

-- at an index
pub all_at : {X : Type 0} (P : X → Type 0) (xs : List X) (k : ℕ) (x : X) → AllByRecursion P xs → slice_get xs k ≡ Some x → P x
all_at P [] k x all is = absurd cc
all_at P (first ∷ xs) zero x all is = let e : first ≡ x = cc in subst P e all.0
all_at P (first ∷ xs) (suc k) x all is = all_at P xs k x all.1 is

pub all_from : {X : Type 0} (P : X → Type 0) (xs : List X) → ((k : ℕ) (x : X) → slice_get xs k ≡ Some x → P x) → AllByRecursion P xs
all_from P [] at = tt
all_from P (x ∷ xs) at = (at 0 x refl, all_from P xs (λ k y is. at (suc k) y is))

-- of what is given of some elements
all_option : {X : Type 0} (P : X → Type 0) (one : Option X) (xs : List X) → ((x : X) → one ≡ Some x → P x) → AllByRecursion P xs → AllByRecursion P (cons_option one xs)
all_option P None xs own all = all
all_option P (Some x) xs own all = (own x refl, all)

pub all_given : {X Y : Type 0} (P : Y → Type 0) (give : X → Option Y) (xs : List X) → ((k : ℕ) (x : X) (y : Y) → slice_get xs k ≡ Some x → give x ≡ Some y → P y)
    → AllByRecursion P (filter_map give xs)
all_given P give [] each = tt
all_given P give (x ∷ xs) each =
    all_option P (give x) (filter_map give xs) (λ y is. each 0 x y refl is) (all_given P give xs (λ k z y there is. each (suc k) z y there is))

-- no more is given than there is
option_few : {X : Type 0} (one : Option X) (xs : List X) (n : ℕ) → length xs ≤ n → length (cons_option one xs) ≤ suc n
option_few None xs n few = omega arith
option_few (Some x) xs n few = omega arith

pub few_given : {X Y : Type 0} (give : X → Option Y) (xs : List X) → length (filter_map give xs) ≤ length xs
few_given give [] = omega arith
few_given give (x ∷ xs) = option_few (give x) (filter_map give xs) (length xs) (few_given give xs)
