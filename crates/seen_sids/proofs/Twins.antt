-- The SIDs so far, none of which is looked for.
use Rattle.std.proofs.Common.{◌≡◌, ℕ, ◌+◌, ◌<◌, Bool, true, false, cond, List, length, drop, get_or, Some, refl, sym, ap, ◌∙◌, add-one}
use Rattle.std.specs.Prelude.{find}
use Rattle.std.proofs.Math.Seq.{drop-cons}

find_at_place : {X : Type 0} (p : X → Bool) (xs : List X) (i : ℕ) (d : X) → i < length xs → find p (drop i xs) ≡ cond (p (get_or xs i d)) (Some (get_or xs i d)) (find p (drop (i + 1) xs))
find_at_place p xs i d within = rw (add-one, drop-cons xs i d) refl

pub find_further : {X : Type 0} (p : X → Bool) (xs : List X) (i : ℕ) (d : X) → i < length xs → find p xs ≡ find p (drop i xs) → p (get_or xs i d) ≡ false
    → find p xs ≡ find p (drop (i + 1) xs)
find_further p xs i d within so_far fails =
    so_far ∙ find_at_place p xs i d within ∙ ap (λ b. cond b (Some (get_or xs i d)) (find p (drop (i + 1) xs))) fails

pub find_here : {X : Type 0} (p : X → Bool) (xs : List X) (i : ℕ) (d : X) → i < length xs → find p xs ≡ find p (drop i xs) → p (get_or xs i d) ≡ true
    → Some (get_or xs i d) ≡ find p xs
find_here p xs i d within so_far passes =
    sym (so_far ∙ find_at_place p xs i d within ∙ ap (λ b. cond b (Some (get_or xs i d)) (find p (drop (i + 1) xs))) passes)
