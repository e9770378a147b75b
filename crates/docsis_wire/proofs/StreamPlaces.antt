-- Where pieces begin when they stand end to end.
use Rattle.std.proofs.Common.{Bool, ◌≡◌, ℕ, zero, suc, ◌+◌, ◌<◌, ◌≤◌, Some, List, [], ◌∷◌, ◌++◌, length, take, drop, refl, sym, ap, ◌∙◌, arith, add-one, length-append, append_assoc, inl, inr}
use Rattle.std.specs.List.{concat, AllByRecursion, slice_get}
use Rattle.std.proofs.lemmas.Bool.{cases_lt}
use Rattle.std.proofs.lemmas.List.{take_at}
use Rattle.docsis_wire.specs.Frame.{IsGenericFrame, IsFrame}
use Rattle.docsis_wire.specs.Stream.{place_of}
use Rattle.docsis_wire.proofs.FrameHeads.{length-frame}

-- a later piece begins no earlier
pub place_of-le : (pieces : List (List ℕ)) (i j : ℕ) → i ≤ j → place_of pieces i ≤ place_of pieces j
place_of-le pieces zero j h = omega arith
place_of-le [] (suc i) j h = omega arith
place_of-le (p ∷ ps) (suc i) zero h = absurd (omega arith)
place_of-le (p ∷ ps) (suc i) (suc j) h =
    let behind : place_of ps i ≤ place_of ps j = place_of-le ps i j (omega arith) in
    omega (arith, length-append p (concat (take i ps)), length-append p (concat (take j ps)))

-- a piece ends where it begins and its length further on
pub place_of-suc : (pieces : List (List ℕ)) (i : ℕ) (piece : List ℕ) → slice_get pieces i ≡ Some piece → place_of pieces (suc i) ≡ place_of pieces i + length piece
place_of-suc [] i piece e = absurd cc
place_of-suc (p ∷ ps) zero piece e =
    let is : p ≡ piece = cc in
    omega (arith, length-append p [], ap length is)
place_of-suc (p ∷ ps) (suc i) piece e =
    omega (arith, place_of-suc ps i piece e, length-append p (concat (take (suc i) ps)), length-append p (concat (take i ps)))

pub place_of-next : (pieces : List (List ℕ)) (i : ℕ) (piece : List ℕ) → slice_get pieces i ≡ Some piece → place_of pieces (i + 1) ≡ place_of pieces i + length piece
place_of-next pieces i piece e = rw add-one (place_of-suc pieces i piece e)

-- the bytes of some pieces, split where one of them begins
pub concat-at : (pieces : List (List ℕ)) (i : ℕ) (piece : List ℕ) → slice_get pieces i ≡ Some piece
    → concat pieces ≡ concat (take i pieces) ++ (piece ++ concat (drop (suc i) pieces))
concat-at [] i piece e = absurd cc
concat-at (p ∷ ps) zero piece e = let is : p ≡ piece = cc in ap (λ t. t ++ concat ps) is
concat-at (p ∷ ps) (suc i) piece e =
    ap (λ t. p ++ t) (concat-at ps i piece e) ∙ sym (append_assoc p (concat (take i ps)) (piece ++ concat (drop (suc i) ps)))

-- an index within a list has its element
pub element_at : {X : Type 0} (xs : List X) (i : ℕ) → i < length xs → (x : X) × (slice_get xs i ≡ Some x)
element_at [] i h = absurd (omega arith)
element_at (x ∷ xs) zero h = (x, refl)
element_at (x ∷ xs) (suc i) h = element_at xs i (omega arith)

-- the piece that stands after these
pub slice_get-at : {X : Type 0} (before : List X) (x : X) (behind : List X) → slice_get (before ++ x ∷ behind) (length before) ≡ Some x
slice_get-at [] x behind = refl
slice_get-at (b ∷ bs) x behind = slice_get-at bs x behind

-- what stands after these pieces begins at their end
pub place_of-behind : (pieces before behind : List (List ℕ)) → pieces ≡ before ++ behind → place_of pieces (length before) ≡ length (concat before)
place_of-behind pieces before behind e =
    ap (λ t. place_of t (length before)) e ∙ ap (λ t. length (concat t)) (take_at before behind (length before) refl)

-- the piece after these ends its length further on
pub place_of-behind_one : (pieces before : List (List ℕ)) (piece : List ℕ) (behind : List (List ℕ)) → pieces ≡ before ++ piece ∷ behind
    → place_of pieces (length before + 1) ≡ place_of pieces (length before) + length piece
place_of-behind_one pieces before piece behind e =
    place_of-next pieces (length before) piece (ap (λ t. slice_get t (length before)) e ∙ slice_get-at before piece behind)

-- frames are of the generic format, whatever the check
pub each_generic : (check : List ℕ → Bool) (frames : List (List ℕ)) → AllByRecursion (IsFrame check) frames → AllByRecursion IsGenericFrame frames
each_generic check [] each = tt
each_generic check (f ∷ fs) each = (each.0.generic, each_generic check fs each.1)

-- a frame has some bytes
pub some_bytes : (frame : List ℕ) → IsGenericFrame frame → 0 < length frame
some_bytes frame h = omega (arith, length-frame frame h)

-- a frame ends after its beginning
place_of-lt_suc : (frames : List (List ℕ)) (j : ℕ) → AllByRecursion IsGenericFrame frames → j < length frames → place_of frames j < place_of frames (suc j)
place_of-lt_suc [] j each h = absurd (omega arith)
place_of-lt_suc (f ∷ fs) zero each h = omega (arith, some_bytes f each.0, length-append f [])
place_of-lt_suc (f ∷ fs) (suc j) each h =
    omega (arith, place_of-lt_suc fs j each.1 (omega arith), length-append f (concat (take (suc j) fs)), length-append f (concat (take j fs)))

pub place_of-lt : (frames : List (List ℕ)) (j : ℕ) → AllByRecursion IsGenericFrame frames → j < length frames → place_of frames j < place_of frames (j + 1)
place_of-lt frames j each h = rw add-one (place_of-lt_suc frames j each h)

-- no piece begins within another
pub none_begins_within : (pieces : List (List ℕ)) (k j place : ℕ) → place_of pieces k < place → place < place_of pieces (k + 1) → place_of pieces j ≡ place → ⊥
none_begins_within pieces k j place from to e =
    elim (cases_lt j (k + 1)) [
      | inl h ↦ omega (arith, place_of-le pieces j k (omega arith))
      | inr h ↦ omega (arith, place_of-le pieces (k + 1) j h)
    ]

-- a place between two pieces' beginnings lies in one of the pieces from the first up to the second
pub piece_at : (pieces : List (List ℕ)) (place from count : ℕ) → place_of pieces from ≤ place → place < place_of pieces (from + count)
    → (k : ℕ) × (from ≤ k) × (k < from + count) × (place_of pieces k ≤ place) × (place < place_of pieces (k + 1))
piece_at pieces place from zero low high =
    absurd (let none : from + 0 ≡ from = omega arith in let back = ap (place_of pieces) none in omega arith)
piece_at pieces place from (suc count) low high =
    elim (cases_lt place (place_of pieces (from + count))) [
      | inl h ↦ let found = piece_at pieces place from count low h in (found.0, found.1, omega (arith, found.2), found.3, found.4)
      | inr h ↦ (from + count, omega arith, omega arith, h, let more : from + suc count ≡ from + count + 1 = omega arith in let same = ap (place_of pieces) more in omega arith)
    ]
