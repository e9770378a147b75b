-- Lists of which the front is kept.
use Rattle.std.proofs.Common.{◌≡◌, ℕ, ◌+◌, ◌<◌, ◌≤◌, zero, suc, List, [], ◌∷◌, ◌++◌, length, take, drop, map, refl, ap, ◌∙◌, sym, get_or, arith}
use Rattle.std.proofs.lemmas.List.{append_assoc, map_more, append-nil, length-append, take_all, take-append-le}
use Rattle.frame_comparison.specs.Frames.{CameFrame, ShownFrame, shown_of}
use Rattle.frame_comparison.specs.Seen.{listed}

-- what stands behind the front makes no difference to it
pub take-front : {X : Type 0} (n : ℕ) (xs ys : List X) → take n (take n xs ++ ys) ≡ take n (xs ++ ys)
take-front zero xs ys = refl
take-front (suc n) [] ys = refl
take-front (suc n) (x ∷ xs) ys = ap (λ more. x ∷ more) (take-front n xs ys)

-- there is room for one more, or there is none
pub listed-room : (xs : List ShownFrame) (y : ShownFrame) → length xs < 100 → xs ++ y ∷ [] ≡ listed (xs ++ y ∷ [])
unfolding listed
listed-room xs y room = sym (take_all 100 (xs ++ y ∷ []) (simp length-append (omega arith)))

pub listed-full : (xs ys : List ShownFrame) → 100 ≤ length xs → length xs ≤ 100 → xs ≡ listed (xs ++ ys)
unfolding listed
listed-full xs ys full few = sym (take-append-le 100 xs ys full ∙ take_all 100 xs few)

-- nothing more is listed
pub listed-none : (xs : List ShownFrame) → length xs ≤ 100 → xs ≡ listed (xs ++ [])
unfolding listed
listed-none xs few = sym (ap listed (append-nil xs) ∙ take_all 100 xs few)

-- one more of those that waited is listed
pub listed-more : (flow : ℕ) (only : List ShownFrame) (waited : List CameFrame) (k : ℕ) (frame : CameFrame) → k < length waited
    → listed (listed (only ++ map (shown_of flow) (take k waited)) ++ shown_of flow (get_or waited k frame) ∷ [])
    ≡ listed (only ++ map (shown_of flow) (take (k + 1) waited))
unfolding listed
listed-more flow only waited k frame within =
    take-front 100 (only ++ map (shown_of flow) (take k waited)) (shown_of flow (get_or waited k frame) ∷ [])
    ∙ ap listed (append_assoc only (map (shown_of flow) (take k waited)) (shown_of flow (get_or waited k frame) ∷ [])
    ∙ ap (λ more. only ++ more) (sym (map_more (shown_of flow) waited k frame within)))

-- what stands at the front of what is left
pub front-read : {X : Type 0} (k : ℕ) (xs : List X) (x : X) (rest : List X) → drop k xs ≡ x ∷ rest → (k < length xs) × (get_or xs k x ≡ x)
front-read zero [] x rest is = absurd (cc)
front-read zero (y ∷ ys) x rest is = (omega arith, cc)
front-read (suc k) [] x rest is = absurd (cc)
front-read (suc k) (y ∷ ys) x rest is = let more = front-read k ys x rest is in (omega (arith, more.0), more.1)
