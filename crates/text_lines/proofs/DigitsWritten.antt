-- The digits of sixteen bytes at once: each is looked up, and those of a byte are put side by side.
use Rattle.std.proofs.Common.{◌≡◌, ℕ, zero, suc, ◌+◌, ◌-◌, ◌*◌, ◌/◌, ◌%◌, ◌^◌, ◌<◌, ◌≤◌, ◌==◌, true, List, [], ◌∷◌, ◌++◌, map, length, replicate, take, drop, slice_index, get_or, bit_and, refl, sym, ap, ◌∙◌, append_assoc, append-nil, length-drop, arith, w8, Fits}
use Rattle.std.proofs.lemmas.Bool.{agree_below_at, eqb-true, lt-leb}
use Rattle.std.proofs.lemmas.List.{take-append-drop, take-take, drop-take, drop_all, take_all}
use Rattle.std.proofs.lemmas.Nat.{and_le_r}
use Rattle.std.proofs.lemmas.Simd.{swz_l, SwzOk, SwzOk-from_below, Each1-all, Each1-zip2, Each2-splat, length-zip2, length-put_chunk, take_more_put_chunk}
use Rattle.std.specs.Simd.Lanes.{zip2, pick_l, chunk, put_chunk, Each1}
use Rattle.hex.specs.Hex.{lower_digits, encode_with, encode_lower}
use Rattle.text_lines.specs.Inside.DigitBlocks.{paired}
use Rattle.text_lines.proofs.DigitLanes.{both}
use Rattle.text_lines.proofs.SpelledBytes.{encode_lower_append}

-- the low four bits of a byte
low_bits : (x : ℕ) → x < 256 → bit_and x 15 ≡ x % 16
low_bits x small = eqb-true (bit_and x 15) (x % 16) (agree_below_at (λ y. bit_and y 15 == y % 16) (λ _. true) 256 x refl small)

-- each place in the table of digits is below 16
pub look_up_fits : (xs : List ℕ) → length xs ≡ 16 → SwzOk w8 16 16 0 (zip2 bit_and xs (replicate 16 15))
look_up_fits xs size =
    let small = Each1-all (λ a. bit_and a 15 < 16) (λ a. omega (arith, and_le_r a 15)) xs in
    SwzOk-from_below w8 16 1 16 0 (zip2 bit_and xs (replicate 16 15)) refl (omega (arith, length-zip2 bit_and xs (replicate 16 15) size))
    (Each1-zip2 bit_and (λ j. j < 16) xs (replicate 16 15) (Each2-splat (λ a b. bit_and a b < 16) xs 16 15 small))

-- what stands there is the digit
one_digit : (x i : ℕ) → x < 256 → i < 16 → get_or lower_digits (16 * (i / 16) + bit_and x 15) 0 ≡ slice_index lower_digits (x % 16)
one_digit x i small within =
    let first : i / 16 ≡ 0 = omega arith in
    let same : 16 * (i / 16) + bit_and x 15 ≡ x % 16 = omega (arith, low_bits x small) in
    ap (λ k. get_or lower_digits k 0) same

-- the digits from the i-th byte on
looked_up-from : (n i : ℕ) (xs : List ℕ) → length xs ≡ n → i + n ≤ 16 → Each1 (Fits w8) xs
    → swz_l w8 16 lower_digits i (zip2 bit_and xs (replicate n 15)) ≡ map (λ byte. slice_index lower_digits (byte % 16)) xs
looked_up-from zero i [] size within fits = refl
looked_up-from zero i (x ∷ xs) size within fits = absurd (omega arith)
looked_up-from (suc n) i [] size within fits = absurd (omega arith)
looked_up-from (suc n) i (x ∷ xs) size within fits =
    let low : bit_and x 15 < 128 = omega (arith, low_bits x fits.0.fits) in
    rw (lt-leb 128 (bit_and x 15) low) (both (one_digit x i fits.0.fits (omega arith)) (looked_up-from n (suc i) xs (omega arith) (omega arith) fits.1))

-- the digits of all sixteen
pub looked_up : (xs : List ℕ) → length xs ≡ 16 → Each1 (Fits w8) xs
    → swz_l w8 16 lower_digits 0 (zip2 bit_and xs (replicate 16 15)) ≡ map (λ byte. slice_index lower_digits (byte % 16)) xs
looked_up xs size fits = looked_up-from 16 0 xs size (omega arith) fits

-- two vectors put into one another
interleaved : (xs ys : List ℕ) → length xs ≡ 16 → length ys ≡ 16
    → pick_l 0 (xs ++ ys) (0 ∷ 16 ∷ 1 ∷ 17 ∷ 2 ∷ 18 ∷ 3 ∷ 19 ∷ 4 ∷ 20 ∷ 5 ∷ 21 ∷ 6 ∷ 22 ∷ 7 ∷ 23 ∷ []) ++ pick_l 0 (xs ++ ys) (8 ∷ 24 ∷ 9 ∷ 25 ∷ 10 ∷ 26 ∷ 11 ∷ 27 ∷ 12 ∷ 28 ∷ 13 ∷ 29 ∷ 14 ∷ 30 ∷ 15 ∷ 31 ∷ []) ≡ paired xs ys
interleaved (x0 ∷ x1 ∷ x2 ∷ x3 ∷ x4 ∷ x5 ∷ x6 ∷ x7 ∷ x8 ∷ x9 ∷ x10 ∷ x11 ∷ x12 ∷ x13 ∷ x14 ∷ x15 ∷ []) (y0 ∷ y1 ∷ y2 ∷ y3 ∷ y4 ∷ y5 ∷ y6 ∷ y7 ∷ y8 ∷ y9 ∷ y10 ∷ y11 ∷ y12 ∷ y13 ∷ y14 ∷ y15 ∷ []) p q = refl
interleaved (x0 ∷ x1 ∷ x2 ∷ x3 ∷ x4 ∷ x5 ∷ x6 ∷ x7 ∷ x8 ∷ x9 ∷ x10 ∷ x11 ∷ x12 ∷ x13 ∷ x14 ∷ x15 ∷ []) ys p q = absurd (omega arith)
interleaved xs ys p q = absurd (omega arith)

-- the digits of the upper and of the lower bits
in_pairs : (n : ℕ) (xs : List ℕ) → length xs ≡ n → Each1 (Fits w8) xs
    → paired (map (λ byte. slice_index lower_digits (byte % 16)) (zip2 (λ a b. a / 2 ^ b) xs (replicate n 4))) (map (λ byte. slice_index lower_digits (byte % 16)) xs) ≡ encode_lower xs
unfolding encode_with
in_pairs zero [] size fits = refl
in_pairs zero (x ∷ xs) size fits = absurd (omega arith)
in_pairs (suc n) [] size fits = absurd (omega arith)
in_pairs (suc n) (x ∷ xs) size fits =
    let small : x < 256 = fits.0.fits in
    let upper : x / 16 % 16 ≡ x / 16 = omega arith in
    both (ap (slice_index lower_digits) upper) (both refl (in_pairs n xs (omega arith) fits.1))

-- the digits of sixteen bytes
pub written : (xs high low : List ℕ) → length xs ≡ 16 → length high ≡ 16 → length low ≡ 16 → Each1 (Fits w8) xs
    → high ≡ map (λ byte. slice_index lower_digits (byte % 16)) (zip2 (λ a b. a / 2 ^ b) xs (replicate 16 4)) → low ≡ map (λ byte. slice_index lower_digits (byte % 16)) xs
    → pick_l 0 (high ++ low) (0 ∷ 16 ∷ 1 ∷ 17 ∷ 2 ∷ 18 ∷ 3 ∷ 19 ∷ 4 ∷ 20 ∷ 5 ∷ 21 ∷ 6 ∷ 22 ∷ 7 ∷ 23 ∷ []) ++ pick_l 0 (high ++ low) (8 ∷ 24 ∷ 9 ∷ 25 ∷ 10 ∷ 26 ∷ 11 ∷ 27 ∷ 12 ∷ 28 ∷ 13 ∷ 29 ∷ 14 ∷ 30 ∷ 15 ∷ 31 ∷ []) ≡ encode_lower xs
written xs high low size p q fits high_is low_is = interleaved high low p q ∙ ap (λ l. paired l low) high_is ∙ ap (paired _) low_is ∙ in_pairs 16 xs size fits

-- a front, and what follows it
take_more : (n m : ℕ) (xs : List ℕ) → take (n + m) xs ≡ take n xs ++ take m (drop n xs)
take_more n m xs =
    let whole = take-append-drop n (take (n + m) xs) in
    let front : take n (take (n + m) xs) ≡ take n xs = take-take n (n + m) xs (omega arith) in
    sym whole ∙ ap (λ (l : List ℕ). l ++ drop n (take (n + m) xs)) front ∙ ap (λ (l : List ℕ). take n xs ++ l) (drop-take n m xs)

-- one block more
pub block_written : (bytes digits front back : List ℕ) (i : ℕ) → length digits ≡ 2 * length bytes → 16 * (i + 1) ≤ length bytes → length front ≡ 16 → length back ≡ 16
    → front ++ back ≡ encode_lower (chunk (16 * i) 16 bytes) → take (32 * i) digits ≡ encode_lower (take (16 * i) bytes)
    → take (32 * (i + 1)) (put_chunk (32 * i + 16) (put_chunk (32 * i) digits front) back) ≡ encode_lower (take (16 * (i + 1)) bytes)
block_written bytes digits front back i size within p q spelled so_far =
    let first = put_chunk (32 * i) digits front in
    let kept : length first ≡ length digits = length-put_chunk (32 * i) digits front in
    let second = take_more_put_chunk (32 * i + 16) first back (32 * (i + 1)) (omega arith) (omega arith) in
    let before = take_more_put_chunk (32 * i) digits front (32 * i + 16) (omega arith) (omega arith) in
    let place : 16 * i + 16 ≡ 16 * (i + 1) = omega arith in
    second ∙ ap (λ (l : List ℕ). l ++ back) (before ∙ ap (λ (l : List ℕ). l ++ front) so_far) ∙ append_assoc (encode_lower (take (16 * i) bytes)) front back
    ∙ ap (λ (l : List ℕ). encode_lower (take (16 * i) bytes) ++ l) spelled ∙ sym (encode_lower_append (take (16 * i) bytes) (chunk (16 * i) 16 bytes))
    ∙ ap encode_lower (sym (take_more (16 * i) 16 bytes)) ∙ ap (λ (k : ℕ). encode_lower (take k bytes)) place

-- and the bytes behind the last one
pub all_written : (bytes digits last : List ℕ) (done k m : ℕ) → length digits ≡ 2 * length bytes → done ≤ length bytes → k ≡ length digits - 2 * done → m ≡ length bytes - done
    → last ≡ encode_lower (take m (drop done bytes)) → take (2 * done) digits ≡ encode_lower (take done bytes)
    → take (2 * done) digits ++ (last ++ drop k (drop (2 * done) digits)) ≡ encode_lower bytes
all_written bytes digits last done k m size within k_is m_is spelled so_far =
    let left : length (drop (2 * done) digits) ≤ k = omega (arith, length-drop (2 * done) digits) in
    let others : length (drop done bytes) ≤ m = omega (arith, length-drop done bytes) in
    ap (λ (l : List ℕ). take (2 * done) digits ++ (last ++ l)) (drop_all k (drop (2 * done) digits) left) ∙ ap (λ (l : List ℕ). take (2 * done) digits ++ l) (append-nil last)
    ∙ ap (λ (l : List ℕ). l ++ last) so_far ∙ ap (λ (l : List ℕ). encode_lower (take done bytes) ++ l) (spelled ∙ ap encode_lower (take_all m (drop done bytes) others))
    ∙ sym (encode_lower_append (take done bytes) (drop done bytes)) ∙ ap encode_lower (take-append-drop done bytes)
