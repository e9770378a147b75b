-- What holds of the elements of two lists, each with the one at its place.
use Rattle.std.proofs.Common.{◌≡◌, ℕ, zero, suc, ◌+◌, Bool, cond, Some, List, [], ◌∷◌, ◌++◌, length, map, count_by, slice_get, refl, ap, subst, ◌∙◌, sym}
use Rattle.std.specs.List.{AllZip}
use Rattle.receiver.proofs.MergedLists.{count-cons}

pub zip_at : {X Y : Type 0} (R : X → Y → Type 0) (xs : List X) (ys : List Y) (k : ℕ) (x : X) → AllZip R xs ys → slice_get xs k ≡ Some x
    → (y : Y) × (slice_get ys k ≡ Some y) × R x y
zip_at R [] ys k x all is = absurd cc
zip_at R (first ∷ xs) [] k x all is = absurd all
zip_at {X} {Y} R (first ∷ xs) (other ∷ ys) zero x all is = let e : first ≡ x = cc in (other, refl, subst (λ (z : X). R z other) e all.0)
zip_at R (first ∷ xs) (other ∷ ys) (suc k) x all is = zip_at R xs ys k x all.1 is

pub zip_flip : {X Y : Type 0} (R : X → Y → Type 0) (S : Y → X → Type 0) → ((x : X) (y : Y) → R x y → S y x) → (xs : List X) (ys : List Y) → AllZip R xs ys → AllZip S ys xs
zip_flip R S flip [] [] all = tt
zip_flip R S flip [] (y ∷ ys) all = absurd all
zip_flip R S flip (x ∷ xs) [] all = absurd all
zip_flip R S flip (x ∷ xs) (y ∷ ys) all = (flip x y all.0, zip_flip R S flip xs ys all.1)

pub zip_weaker : {X Y : Type 0} (R S : X → Y → Type 0) → ((x : X) (y : Y) → R x y → S x y) → (xs : List X) (ys : List Y) → AllZip R xs ys → AllZip S xs ys
zip_weaker R S weaker [] [] all = tt
zip_weaker R S weaker [] (y ∷ ys) all = absurd all
zip_weaker R S weaker (x ∷ xs) [] all = absurd all
zip_weaker R S weaker (x ∷ xs) (y ∷ ys) all = (weaker x y all.0, zip_weaker R S weaker xs ys all.1)

pub zip_push : {X Y : Type 0} (R : X → Y → Type 0) (xs : List X) (ys : List Y) (x : X) (y : Y) → AllZip R xs ys → R x y → AllZip R (xs ++ x ∷ []) (ys ++ y ∷ [])
zip_push R [] [] x y all here = (here, tt)
zip_push R [] (b ∷ ys) x y all here = absurd all
zip_push R (a ∷ xs) [] x y all here = absurd all
zip_push R (a ∷ xs) (b ∷ ys) x y all here = (all.0, zip_push R xs ys x y all.1 here)

pub zip_same : {X : Type 0} (R : X → X → Type 0) → ((x : X) → R x x) → (xs : List X) → AllZip R xs xs
zip_same R same [] = tt
zip_same R same (x ∷ xs) = (same x, zip_same R same xs)

pub zip_map : {X Y Z W : Type 0} (S : Z → W → Type 0) (f : X → Z) (g : Y → W) (xs : List X) (ys : List Y) → AllZip (λ x y. S (f x) (g y)) xs ys → AllZip S (map f xs) (map g ys)
zip_map S f g [] [] all = tt
zip_map S f g [] (y ∷ ys) all = absurd all
zip_map S f g (x ∷ xs) [] all = absurd all
zip_map S f g (x ∷ xs) (y ∷ ys) all = (all.0, zip_map S f g xs ys all.1)

pub zip_length : {X Y : Type 0} (R : X → Y → Type 0) (xs : List X) (ys : List Y) → AllZip R xs ys → length ys ≡ length xs
zip_length R [] [] all = refl
zip_length R [] (y ∷ ys) all = absurd all
zip_length R (x ∷ xs) [] all = absurd all
zip_length R (x ∷ xs) (y ∷ ys) all = ap suc (zip_length R xs ys all.1)

-- a test that answers alike counts as many
pub zip_count : {X : Type 0} (p : X → Bool) (xs ys : List X) → AllZip (λ x y. p y ≡ p x) xs ys → count_by p ys ≡ count_by p xs
zip_count p [] [] all = refl
zip_count p [] (y ∷ ys) all = absurd all
zip_count p (x ∷ xs) [] all = absurd all
zip_count p (x ∷ xs) (y ∷ ys) all =
    count-cons p y ys ∙ ap (λ b. cond {A = ℕ} b 1 0 + count_by p ys) all.0 ∙ ap (λ n. cond {A = ℕ} (p x) 1 0 + n) (zip_count p xs ys all.1) ∙ sym (count-cons p x xs)
