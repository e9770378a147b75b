-- A list in which the element at a place is changed.
use Rattle.std.proofs.Common.{◌≡◌, ℕ, zero, suc, ◌<◌, List, [], ◌∷◌, length, get_or, set, refl, ap, ◌∙◌, arith}
use Rattle.capture_picture.specs.ShownFlow.{changed_at}

-- what was read there was changed and written
pub changed_at-set : {T : Type 0} (place : ℕ) (change : T → T) (items : List T) (item changed : T) → place < length items → item ≡ get_or items place item
    → changed ≡ change item → set items place changed ≡ changed_at place change items
changed_at-set place change [] item changed within read is = absurd (omega (arith, within))
changed_at-set zero change (first ∷ others) item changed within read is = ap (λ one. one ∷ others) (is ∙ ap change read)
changed_at-set (suc place) change (first ∷ others) item changed within read is =
    ap (λ rest. first ∷ rest) (changed_at-set place change others item changed (omega (arith, within)) read is)

pub length-changed_at : {T : Type 0} (place : ℕ) (change : T → T) (items : List T) → length (changed_at place change items) ≡ length items
length-changed_at place change [] = refl
length-changed_at zero change (first ∷ others) = refl
length-changed_at (suc place) change (first ∷ others) = ap suc (length-changed_at place change others)

-- what stands there now
pub get_or-changed_at : {T : Type 0} (place : ℕ) (change : T → T) (items : List T) (default : T) → place < length items
    → get_or (changed_at place change items) place default ≡ change (get_or items place default)
get_or-changed_at place change [] default within = absurd (omega (arith, within))
get_or-changed_at zero change (first ∷ others) default within = refl
get_or-changed_at (suc place) change (first ∷ others) default within = get_or-changed_at place change others default (omega (arith, within))
