-- Where a vector of the first bytes has a mark for each that passes a test, its lowest is the place
-- of the first one.
use Rattle.std.proofs.Common.{◌≡◌, ℕ, zero, suc, ◌+◌, ◌*◌, ◌%◌, ◌^◌, ◌<◌, ◌≤◌, ◌||◌, Bool, true, false, not, cond, eqb, nat_lt, Some, None, List, [], ◌∷◌, ◌++◌, map, length, replicate, take, drop, bit_or, refl, sym, ap, ◌∙◌, arith}
use Rattle.std.specs.Prelude.{position}
use Rattle.std.specs.List.{position_or_len}
use Rattle.std.specs.Simd.Lanes.{zip2, mask_l}
use Rattle.std.proofs.lemmas.Bool.{lt-ltb, ne_eqb}
use Rattle.std.proofs.lemmas.List.{length-map, take-append-drop, length-take-le}
use Rattle.std.proofs.lemmas.List.Folds.{prefix_len-append}
use Rattle.std.proofs.lemmas.Simd.{mask_l-mod, trailing_mask_l}
use lib.Count.{count_trailing_zeros}
use lib.Lanes.{top}
use Rattle.text_lines.specs.Lines.{is_separator}

-- what a comparison gives
abbrev equal_mask : ℕ → ℕ → ℕ
equal_mask a b = cond (eqb a b) 255 0

-- a byte has a mark exactly if it separates words
one_mark : (x : ℕ) → top 7 (bit_or (bit_or (equal_mask x 32) (equal_mask x 9)) (equal_mask x 13)) ≡ is_separator x
one_mark x = go (eqb x 32) (eqb x 9) (eqb x 13)
  where
    go : (a b c : Bool) → top 7 (bit_or (bit_or (cond a 255 0) (cond b 255 0)) (cond c 255 0)) ≡ (a || b || c)
    go true true true = refl
    go true true false = refl
    go true false true = refl
    go true false false = refl
    go false true true = refl
    go false true false = refl
    go false false true = refl
    go false false false = refl

-- the marks of a vector, as the code makes them
abbrev marks : ℕ → List ℕ → List Bool
marks n xs =
    map (top 7) (zip2 bit_or (zip2 bit_or (zip2 equal_mask xs (replicate n 32)) (zip2 equal_mask xs (replicate n 9))) (zip2 equal_mask xs (replicate n 13)))

-- each byte has its own
marks_are : (n : ℕ) (xs : List ℕ) → length xs ≡ n → marks n xs ≡ map is_separator xs
marks_are zero [] size = refl
marks_are zero (x ∷ xs) size = absurd (omega arith)
marks_are (suc n) [] size = absurd (omega arith)
marks_are (suc n) (x ∷ xs) size = ap (λ (b : Bool). b ∷ marks n xs) (one_mark x) ∙ ap (λ (bs : List Bool). is_separator x ∷ bs) (marks_are n xs (omega arith))

-- in one number
pub separators_marked : (xs : List ℕ) → length xs ≡ 16 → mask_l (marks 16 xs) % 2 ^ 64 ≡ mask_l (map is_separator xs)
separators_marked xs size =
    ap (λ (bs : List Bool). mask_l bs % 2 ^ 64) (marks_are 16 xs size) ∙ mask_l-mod (map is_separator xs) 64 (omega (arith, length-map xs is_separator, size))

-- one byte more
one_place : (b : Bool) (others place count : ℕ) → (0 < others → place < count) → 0 < cond b 1 0 + 2 * others → cond (not b) (1 + place) 0 < suc count
one_place true others place count more is = omega arith
one_place false others place count more is = let within = more (omega arith) in omega arith

-- where there is a mark there is a place
some_place : (p : ℕ → Bool) (xs : List ℕ) → 0 < mask_l (map p xs) → position_or_len p xs < length xs
some_place p [] some = absurd (omega arith)
some_place p (x ∷ xs) some = one_place (p x) (mask_l (map p xs)) (position_or_len p xs) (length xs) (λ others. some_place p xs others) some

-- a place in the front is the place in all
pub first_marked : (p : ℕ → Bool) (line front : List ℕ) (found : ℕ) → front ≡ take 16 line → 16 ≤ length line → found ≡ mask_l (map p front) → (found ≡ 0 → ⊥)
    → Some (count_trailing_zeros 64 found) ≡ position p line
first_marked p line front found front_is long found_is some =
    let size : length front ≡ 16 = ap length front_is ∙ length-take-le 16 line long in
    let any : 0 < mask_l (map p front) = omega (arith, found_is, some) in
    let within : position_or_len p front < length front = some_place p front any in
    let lowest = trailing_mask_l p 64 front (omega arith) any in
    let whole : front ++ drop 16 line ≡ line = ap (λ (t : List ℕ). t ++ drop 16 line) front_is ∙ take-append-drop 16 line in
    let same : position_or_len p line ≡ position_or_len p front =
    ap (position_or_len p) (sym whole) ∙ prefix_len-append (λ x. not (p x)) front (drop 16 line)
    ∙ ap (λ (b : Bool). cond b (length front + position_or_len p (drop 16 line)) (position_or_len p front))
    (ne_eqb (position_or_len p front) (length front) (λ e. omega arith)) in
    let inside : nat_lt (position_or_len p line) (length line) ≡ true = lt-ltb (position_or_len p line) (length line) (omega arith) in
    ap Some (ap (count_trailing_zeros 64) found_is ∙ lowest ∙ sym same) ∙ sym (ap (λ (b : Bool). cond b (Some (position_or_len p line)) None) inside)
