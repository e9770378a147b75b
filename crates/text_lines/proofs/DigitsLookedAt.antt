-- Whether all of some bytes are digits: what the operations on vectors make of a byte, of a block
-- of them, and one block after the other.
use Rattle.std.proofs.Common.{◌≡◌, ℕ, zero, suc, ◌+◌, ◌-◌, ◌%◌, ◌<◌, ◌&&◌, ltb, List, [], ◌∷◌, ◌++◌, map, length, take, drop, min, refl, sym, ap, ◌∙◌, arith, w8, Fits}
use Rattle.std.specs.List.{list_all}
use Rattle.std.specs.Simd.Lanes.{chunk}
use Rattle.std.proofs.lemmas.Bool.{agree_below_at}
use Rattle.std.proofs.lemmas.List.{take-append-drop}
use Rattle.std.proofs.lemmas.List.Folds.{list_all-append}
use lib.Lanes.{zip2, Each1}
use Rattle.hex.specs.Hex.{is_hex_digit}
use Rattle.text_lines.specs.Inside.DigitBlocks.{letter_from_10, are_below_16}
use Rattle.text_lines.proofs.DigitLanes.{both}

-- what these operations make of a byte
abbrev mark : ℕ → ℕ
mark x = min (min ((x + (256 - 48)) % 256 + 6) 255) (letter_from_10 x)

-- whether that is less than 16 is computed at each byte
one_mark : (x : ℕ) → x < 256 → ltb (mark x) 16 ≡ is_hex_digit x
one_mark x small = agree_below_at (λ y. ltb (mark y) 16) is_hex_digit 256 x refl small

-- the marks of a vector
pub marks_are : (n : ℕ) (xs : List ℕ) → length xs ≡ n → Each1 (Fits w8) xs
    → map (λ mark. ltb mark 16) (zip2 min (map (λ x. min (x + 6) 255) (map (λ x. (x + (256 - 48)) % 256) xs)) (map letter_from_10 xs)) ≡ map is_hex_digit xs
marks_are zero [] size fits = refl
marks_are zero (x ∷ xs) size fits = absurd (omega arith)
marks_are (suc n) [] size fits = absurd (omega arith)
marks_are (suc n) (x ∷ xs) size fits = both (one_mark x fits.0.fits) (marks_are n xs (omega arith) fits.1)

-- all are below 16 if all are digits
pub all_marked : (marks digits : List ℕ) → map (λ mark. ltb mark 16) marks ≡ map is_hex_digit digits → are_below_16 marks ≡ list_all is_hex_digit digits
all_marked [] [] same = refl
all_marked [] (d ∷ digits) same = absurd (cc same)
all_marked (m ∷ marks) [] same = absurd (cc same)
all_marked (m ∷ marks) (d ∷ digits) same =
    let first : ltb m 16 ≡ is_hex_digit d = cc same in
    let others : map (λ mark. ltb mark 16) marks ≡ map is_hex_digit digits = cc same in
    rw (first, all_marked marks digits others) refl

-- all of a block are if all of both its halves are
pub halves_are : (s : List ℕ) → length s ≡ 32
    → (list_all is_hex_digit (chunk 0 16 (take 16 s)) && list_all is_hex_digit (chunk 0 16 (take 16 (drop 16 s)))) ≡ list_all is_hex_digit s
halves_are (d0 ∷ d1 ∷ d2 ∷ d3 ∷ d4 ∷ d5 ∷ d6 ∷ d7 ∷ d8 ∷ d9 ∷ d10 ∷ d11 ∷ d12 ∷ d13 ∷ d14 ∷ d15 ∷ d16 ∷ d17 ∷ d18 ∷ d19 ∷ d20 ∷ d21 ∷ d22 ∷ d23 ∷ d24 ∷ d25 ∷ d26 ∷ d27 ∷ d28 ∷ d29 ∷ d30 ∷ d31 ∷ []) size =
    sym (list_all-append is_hex_digit (d0 ∷ d1 ∷ d2 ∷ d3 ∷ d4 ∷ d5 ∷ d6 ∷ d7 ∷ d8 ∷ d9 ∷ d10 ∷ d11 ∷ d12 ∷ d13 ∷ d14 ∷ d15 ∷ [])
    (d16 ∷ d17 ∷ d18 ∷ d19 ∷ d20 ∷ d21 ∷ d22 ∷ d23 ∷ d24 ∷ d25 ∷ d26 ∷ d27 ∷ d28 ∷ d29 ∷ d30 ∷ d31 ∷ []))
halves_are s size = absurd (omega arith)

-- a block was looked at: then the others are to be
pub block-looked_at : (rest block others : List ℕ) → block ≡ take 32 rest → others ≡ drop 32 rest
    → list_all is_hex_digit rest ≡ (list_all is_hex_digit block && list_all is_hex_digit others)
block-looked_at rest block others front others_are =
    let whole : block ++ others ≡ rest = ap (λ (t : List ℕ). t ++ others) front ∙ ap (λ (t : List ℕ). take 32 rest ++ t) others_are ∙ take-append-drop 32 rest in
    ap (list_all is_hex_digit) (sym whole) ∙ list_all-append is_hex_digit block others
