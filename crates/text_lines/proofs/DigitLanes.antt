-- Vectors of hexadecimal digits, byte by byte: what each operation makes of a byte, and that
-- together they give its value.
use Rattle.std.proofs.Common.{◌≡◌, ℕ, zero, suc, ◌+◌, ◌-◌, ◌*◌, ◌%◌, ◌^◌, ◌<◌, ◌≤◌, ◌==◌, ◌&&◌, Bool, true, false, not, cond, eqb, ltb, leb, List, [], ◌∷◌, map, length, replicate, min, bit_and, refl, ap, ◌∙◌, arith, w8, Fits}
use Rattle.std.proofs.lemmas.Bool.{agree_below_at, eqb-true, eqb-false, eq-eqb, ltb-true, ltb-false, le-leb, lt-leb, ne_eqb}
use Rattle.std.proofs.lemmas.Simd.{mask_l-mod}
use lib.Lanes.{zip2, sel_l, mask_l, top, Each1}
use Rattle.text_lines.specs.Inside.DigitBlocks.{value_or_16, letter_from_10, are_below_16}

-- a difference from 255 on again below 0
abbrev pub less : ℕ → ℕ → ℕ
less a b = (a + (2 ^ 8 - b)) % 2 ^ 8

-- a sum from 0 on again above 255
abbrev pub plus : ℕ → ℕ → ℕ
plus a b = (a + b) % 2 ^ 8

-- what a comparison gives
abbrev pub below_mask : ℕ → ℕ → ℕ
below_mask a b = cond (ltb a b) 255 0

-- and one that lets the same through
abbrev pub at_most_mask : ℕ → ℕ → ℕ
at_most_mask a b = cond (leb a b) 255 0

-- one more byte
pub both : {A : Type 0} {x y : A} {xs ys : List A} → x ≡ y → xs ≡ ys → x ∷ xs ≡ y ∷ ys
both {A} {x} {y} {xs} {ys} p q = ap (λ (z : A). z ∷ xs) p ∙ ap (λ (zs : List A). y ∷ zs) q

-- a difference that stops at 0: the greater of the two, less the second
one_excess : (a b : ℕ) → a < 256 → b < 256 → less (cond (top 7 (below_mask a b)) b a) b ≡ a - b
one_excess a b small_a small_b = go (ltb a b) refl
  where
    go : (t : Bool) → ltb a b ≡ t → less (cond (top 7 (cond t 255 0)) b a) b ≡ a - b
    go true e = omega (arith, ltb-true a b e)
    go false e = omega (arith, ltb-false a b e)

-- the same of each byte of a vector
pub excess_is : (k n : ℕ) (xs : List ℕ) → k < 256 → length xs ≡ n → Each1 (Fits w8) xs
    → zip2 less (sel_l (map (top 7) (zip2 below_mask xs (replicate n k))) (replicate n k) xs) (replicate n k) ≡ map (λ x. x - k) xs
excess_is k zero [] small size fits = refl
excess_is k zero (x ∷ xs) small size fits = absurd (omega arith)
excess_is k (suc n) [] small size fits = absurd (omega arith)
excess_is k (suc n) (x ∷ xs) small size fits = both (one_excess x k fits.0.fits small) (excess_is k n xs small (omega arith) fits.1)

-- a sum that stops at 255: the lesser of a byte and what it may be, and the other
one_raised : (a b : ℕ) → a < 256 → b < 256 → plus (cond (top 7 (below_mask a (255 - b))) a (255 - b)) b ≡ min (a + b) 255
one_raised a b small_a small_b = go (ltb a (255 - b)) refl
  where
    go : (t : Bool) → ltb a (255 - b) ≡ t → plus (cond (top 7 (cond t 255 0)) a (255 - b)) b ≡ min (a + b) 255
    go true e = omega (arith, ltb-true a (255 - b) e)
    go false e = omega (arith, ltb-false a (255 - b) e)

-- the same of each byte of a vector
pub raised_is : (k n : ℕ) (xs : List ℕ) → k < 256 → length xs ≡ n → Each1 (Fits w8) xs
    → zip2 plus (sel_l (map (top 7) (zip2 below_mask xs (replicate n (255 - k)))) xs (replicate n (255 - k))) (replicate n k) ≡ map (λ x. min (x + k) 255) xs
raised_is k zero [] small size fits = refl
raised_is k zero (x ∷ xs) small size fits = absurd (omega arith)
raised_is k (suc n) [] small size fits = absurd (omega arith)
raised_is k (suc n) (x ∷ xs) small size fits = both (one_raised x k fits.0.fits small) (raised_is k n xs small (omega arith) fits.1)

-- the lesser of two bytes by a comparison
one_lesser : (a b : ℕ) → cond (top 7 (below_mask a b)) a b ≡ min a b
one_lesser a b = go (ltb a b) refl
  where
    go : (t : Bool) → ltb a b ≡ t → cond (top 7 (cond t 255 0)) a b ≡ min a b
    go true e = omega (arith, ltb-true a b e)
    go false e = omega (arith, ltb-false a b e)

-- the same of each two bytes of vectors
pub lesser_is : (xs ys : List ℕ) → sel_l (map (top 7) (zip2 below_mask xs ys)) xs ys ≡ zip2 min xs ys
lesser_is [] ys = refl
lesser_is (x ∷ xs) [] = refl
lesser_is (x ∷ xs) (y ∷ ys) = both (one_lesser x y) (lesser_is xs ys)

-- the letters of a vector
pub letters_are : (n : ℕ) (xs : List ℕ) → length xs ≡ n
    → map (λ x. min (x + 10) 255) (map (λ x. (x + (256 - 65)) % 256) (zip2 bit_and xs (replicate n 223))) ≡ map letter_from_10 xs
letters_are zero [] size = refl
letters_are zero (x ∷ xs) size = absurd (omega arith)
letters_are (suc n) [] size = absurd (omega arith)
letters_are (suc n) (x ∷ xs) size = both refl (letters_are n xs (omega arith))

-- the value of a byte by these operations, at each byte
abbrev by_moves : ℕ → ℕ
by_moves x = min (min (((x + (256 - 58)) % 256 - 6 + (256 - 240)) % 256) (letter_from_10 x)) 16

-- it is computed at each byte
one_value : (x : ℕ) → x < 256 → by_moves x ≡ value_or_16 x
one_value x small = eqb-true (by_moves x) (value_or_16 x) (agree_below_at (λ y. by_moves y == value_or_16 y) (λ _. true) 256 x refl small)

-- the values of a vector of digits
pub values_are : (n : ℕ) (xs : List ℕ) → length xs ≡ n → Each1 (Fits w8) xs
    → zip2 min (zip2 min (map (λ x. (x + (256 - 240)) % 256) (map (λ x. x - 6) (map (λ x. (x + (256 - 58)) % 256) xs)))
    (map letter_from_10 xs)) (replicate n 16)
    ≡ map value_or_16 xs
values_are zero [] size fits = refl
values_are zero (x ∷ xs) size fits = absurd (omega arith)
values_are (suc n) [] size fits = absurd (omega arith)
values_are (suc n) (x ∷ xs) size fits = both (one_value x fits.0.fits) (values_are n xs (omega arith) fits.1)

-- the greater of two bytes
abbrev pub greater_of : ℕ → ℕ → ℕ
greater_of a b = cond (top 7 (below_mask a b)) b a

-- a byte is flagged where one of the two is no value of a digit
flag_is : (a b : ℕ) → top 7 (at_most_mask 16 (greater_of a b)) ≡ not (ltb a 16 && ltb b 16)
flag_is a b = go (ltb a b) refl (ltb a 16) refl (ltb b 16) refl
  where
    go : (t : Bool) → ltb a b ≡ t → (p : Bool) → ltb a 16 ≡ p → (q : Bool) → ltb b 16 ≡ q → top 7 (at_most_mask 16 (cond (top 7 (cond t 255 0)) b a)) ≡ not (p && q)
    go true e true p true q = rw (lt-leb 16 b (ltb-true b 16 q)) refl
    go true e true p false q = rw (le-leb 16 b (ltb-false b 16 q)) refl
    go true e false p true q = absurd (omega (arith, ltb-true a b e, ltb-false a 16 p, ltb-true b 16 q))
    go true e false p false q = rw (le-leb 16 b (ltb-false b 16 q)) refl
    go false e true p true q = rw (lt-leb 16 a (ltb-true a 16 p)) refl
    go false e true p false q = absurd (omega (arith, ltb-false a b e, ltb-true a 16 p, ltb-false b 16 q))
    go false e false p true q = rw (le-leb 16 a (ltb-false a 16 p)) refl
    go false e false p false q = rw (le-leb 16 a (ltb-false a 16 p)) refl

-- a bit that is not set
unflagged : (m : ℕ) → eqb (0 + 2 * m) 0 ≡ eqb m 0
unflagged m = go (eqb m 0) refl
  where
    go : (t : Bool) → eqb m 0 ≡ t → eqb (0 + 2 * m) 0 ≡ t
    go true e = eq-eqb (0 + 2 * m) 0 (omega (arith, eqb-true m 0 e))
    go false e = ne_eqb (0 + 2 * m) 0 (λ is. eqb-false m 0 e (omega (arith, is)))

-- one more flag
one_more : (p q : Bool) (m : ℕ) (all others : Bool) → eqb m 0 ≡ (all && others) → eqb (cond (not (p && q)) 1 0 + 2 * m) 0 ≡ ((p && all) && (q && others))
one_more true true m all others e = unflagged m ∙ e
one_more true false m true others e = ne_eqb (1 + 2 * m) 0 (λ is. omega (arith, is))
one_more true false m false others e = ne_eqb (1 + 2 * m) 0 (λ is. omega (arith, is))
one_more false q m all others e = ne_eqb (1 + 2 * m) 0 (λ is. omega (arith, is))

-- the flags of two vectors
abbrev flags : ℕ → List ℕ → List ℕ → List Bool
flags n xs ys = map (top 7) (zip2 at_most_mask (replicate n 16) (sel_l (map (top 7) (zip2 below_mask xs ys)) ys xs))

-- no flag is set exactly if all are values
none_flagged : (n : ℕ) (xs ys : List ℕ) → length xs ≡ n → length ys ≡ n → eqb (mask_l (flags n xs ys)) 0 ≡ (are_below_16 xs && are_below_16 ys)
none_flagged zero [] [] p q = refl
none_flagged zero (x ∷ xs) ys p q = absurd (omega arith)
none_flagged zero [] (y ∷ ys) p q = absurd (omega arith)
none_flagged (suc n) [] ys p q = absurd (omega arith)
none_flagged (suc n) (x ∷ xs) [] p q = absurd (omega arith)
none_flagged (suc n) (x ∷ xs) (y ∷ ys) p q =
    rw (flag_is x y) (one_more (ltb x 16) (ltb y 16) (mask_l (flags n xs ys)) (are_below_16 xs) (are_below_16 ys) (none_flagged n xs ys (omega arith) (omega arith)))

-- there are as many flags
length-flags : (n : ℕ) (xs ys : List ℕ) → length xs ≡ n → length ys ≡ n → length (flags n xs ys) ≡ n
length-flags zero xs ys p q = refl
length-flags (suc n) [] ys p q = absurd (omega arith)
length-flags (suc n) (x ∷ xs) [] p q = absurd (omega arith)
length-flags (suc n) (x ∷ xs) (y ∷ ys) p q = ap suc (length-flags n xs ys (omega arith) (omega arith))

-- the test as the code makes it
pub test_is : (xs ys : List ℕ) → length xs ≡ 16 → length ys ≡ 16 → not (not (eqb (mask_l (flags 16 xs ys) % 2 ^ 64) 0)) ≡ (are_below_16 xs && are_below_16 ys)
test_is xs ys p q =
    let size : length (flags 16 xs ys) ≤ 64 = omega (arith, length-flags 16 xs ys p q) in
    ap (λ m. not (not (eqb m 0))) (mask_l-mod (flags 16 xs ys) 64 size) ∙ twice_not (eqb (mask_l (flags 16 xs ys)) 0) ∙ none_flagged 16 xs ys p q
  where
    twice_not : (b : Bool) → not (not b) ≡ b
    twice_not true = refl
    twice_not false = refl
