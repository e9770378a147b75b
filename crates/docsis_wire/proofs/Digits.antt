-- A division byte by byte, each by itself: a sum leaves the sum of what its parts leave.
use Rattle.std.proofs.Common.{◌≡◌, ℕ, zero, suc, ◌+◌, ◌*◌, ◌/◌, ◌%◌, ◌^◌, ◌<◌, List, [], ◌∷◌, length, ◌==◌, if◌then◌else◌, bit_xor, refl, sym, ap, ◌∙◌, arith}
use Rattle.std.proofs.lemmas.Nat.{xor_comm, xor_shr, xor_mod}
use Rattle.std.specs.Int.{from_le_bytes, w64}
use Rattle.std.specs.Int.Bits.{xor_assoc, xor_self, xor_zero_l, xor_shifted}
use Rattle.docsis_wire.specs.Division.{message, divide_once, remainder_after}
use Rattle.docsis_wire.proofs.Dividing.{remainder_after-add, remainder_after-xor}

-- a step where the leading coefficient is known
once_at : (divisor n leading : ℕ) → n % 2 ≡ leading → divide_once divisor n ≡ (if leading == 1 then bit_xor n divisor else n) / 2
once_at divisor n leading is = ap (λ m. (if m == 1 then bit_xor n divisor else n) / 2) is

-- the leading coefficient of a sum
leading_sum : (a b p q : ℕ) → a % 2 ≡ p → b % 2 ≡ q → bit_xor a b % 2 ≡ bit_xor p q
leading_sum a b p q pa qb = let e = xor_mod a b 1 in let f : bit_xor (a % 2) (b % 2) ≡ bit_xor p q = cc in e ∙ f

-- a divisor that is subtracted from both parts is not subtracted
both_subtracted : (a b d : ℕ) → bit_xor (bit_xor a d) (bit_xor b d) ≡ bit_xor a b
both_subtracted a b d =
    xor_assoc a d (bit_xor b d)
    ∙ ap (bit_xor a) (ap (bit_xor d) (xor_comm b d) ∙ sym (xor_assoc d d b) ∙ ap (λ m. bit_xor m b) (xor_self d) ∙ xor_zero_l b)

-- one that is subtracted from the first part, or from the second, is subtracted from the sum
first_subtracted : (a b d : ℕ) → bit_xor (bit_xor a d) b ≡ bit_xor (bit_xor a b) d
first_subtracted a b d = xor_assoc a d b ∙ ap (bit_xor a) (xor_comm d b) ∙ sym (xor_assoc a b d)

-- the sum of two steps, by their leading coefficients
once_sum : (divisor a b p q : ℕ) → p < 2 → q < 2 → a % 2 ≡ p → b % 2 ≡ q
    → divide_once divisor (bit_xor a b) ≡ bit_xor (divide_once divisor a) (divide_once divisor b)
once_sum divisor a b zero zero _ _ pa qb =
    let x = once_at divisor a 0 pa in
    let y = once_at divisor b 0 qb in
    let z = once_at divisor (bit_xor a b) 0 (leading_sum a b 0 0 pa qb) in
    let e = xor_shr a b 1 in cc
once_sum divisor a b (suc zero) zero _ _ pa qb =
    let x = once_at divisor a 1 pa in
    let y = once_at divisor b 0 qb in
    let z = once_at divisor (bit_xor a b) 1 (leading_sum a b 1 0 pa qb) in
    let s = first_subtracted a b divisor in
    let e = xor_shr (bit_xor a divisor) b 1 in cc
once_sum divisor a b zero (suc zero) _ _ pa qb =
    let x = once_at divisor a 0 pa in
    let y = once_at divisor b 1 qb in
    let z = once_at divisor (bit_xor a b) 1 (leading_sum a b 0 1 pa qb) in
    let s = xor_assoc a b divisor in
    let e = xor_shr a (bit_xor b divisor) 1 in cc
once_sum divisor a b (suc zero) (suc zero) _ _ pa qb =
    let x = once_at divisor a 1 pa in
    let y = once_at divisor b 1 qb in
    let z = once_at divisor (bit_xor a b) 0 (leading_sum a b 1 1 pa qb) in
    let s = both_subtracted a b divisor in
    let e = xor_shr (bit_xor a divisor) (bit_xor b divisor) 1 in cc
once_sum divisor a b (suc (suc p)) q small _ _ _ = absurd (omega arith)
once_sum divisor a b zero (suc (suc q)) _ small _ _ = absurd (omega arith)
once_sum divisor a b (suc zero) (suc (suc q)) _ small _ _ = absurd (omega arith)

-- What is left of a sum is the sum of what is left of its parts.
pub remainder_after-sum : (n divisor a b : ℕ) → remainder_after divisor n (bit_xor a b) ≡ bit_xor (remainder_after divisor n a) (remainder_after divisor n b)
unfolding remainder_after
remainder_after-sum zero divisor a b = refl
remainder_after-sum (suc n) divisor a b =
    let p : a % 2 < 2 = omega arith in
    let q : b % 2 < 2 = omega arith in
    ap (remainder_after divisor n) (once_sum divisor a b (a % 2) (b % 2) p q refl refl)
    ∙ remainder_after-sum n divisor (divide_once divisor a) (divide_once divisor b)

-- a dividend as its low byte and what stands behind it
low_byte : (n : ℕ) → n ≡ bit_xor (n % 256) (n / 256 * 2 ^ 8)
low_byte n =
    let small : n % 256 < 256 = omega arith in
    let sum : n ≡ n / 256 * 256 + n % 256 = omega arith in
    sum ∙ sym (xor_shifted (n / 256) 8 (n % 256) small) ∙ xor_comm (n / 256 * 2 ^ 8) (n % 256)

-- what stands behind the low byte is divided by itself, and the low byte with zeros behind it
by_low_byte : (divisor n dividend : ℕ)
    → remainder_after divisor (8 + n) dividend ≡ bit_xor (remainder_after divisor n (dividend / 256)) (remainder_after divisor (8 + n) (dividend % 256))
by_low_byte divisor n dividend =
    let low = dividend % 256 in
    let rest = dividend / 256 in
    ap (remainder_after divisor (8 + n)) (low_byte dividend)
    ∙ remainder_after-add 8 n divisor (bit_xor low (rest * 2 ^ 8))
    ∙ ap (remainder_after divisor n) (remainder_after-xor 8 divisor low rest)
    ∙ remainder_after-sum n divisor (remainder_after divisor 8 low) rest
    ∙ ap (λ m. bit_xor m (remainder_after divisor n rest)) (sym (remainder_after-add 8 n divisor low))
    ∙ xor_comm (remainder_after divisor (8 + n) low) (remainder_after divisor n rest)

-- eight bytes that so many coefficients follow, each by itself, the last one first
pub by_eight_bytes : (divisor n d : ℕ) → d < 2 ^ 64
    → bit_xor (bit_xor (bit_xor (bit_xor (bit_xor (bit_xor (bit_xor
    (remainder_after divisor (n + 8) (d / 0x100000000000000 % 256)) (remainder_after divisor (n + 16) (d / 0x1000000000000 % 256)))
    (remainder_after divisor (n + 24) (d / 0x10000000000 % 256))) (remainder_after divisor (n + 32) (d / 0x100000000 % 256)))
    (remainder_after divisor (n + 40) (d / 0x1000000 % 256))) (remainder_after divisor (n + 48) (d / 0x10000 % 256)))
    (remainder_after divisor (n + 56) (d / 0x100 % 256))) (remainder_after divisor (n + 64) (d % 256))
    ≡ remainder_after divisor (n + 64) d
by_eight_bytes divisor n d wide =
    let e1 = by_low_byte divisor (n + 56) d in
    let e2 = by_low_byte divisor (n + 48) (d / 0x100) in
    let e3 = by_low_byte divisor (n + 40) (d / 0x10000) in
    let e4 = by_low_byte divisor (n + 32) (d / 0x1000000) in
    let e5 = by_low_byte divisor (n + 24) (d / 0x100000000) in
    let e6 = by_low_byte divisor (n + 16) (d / 0x10000000000) in
    let e7 = by_low_byte divisor (n + 8) (d / 0x1000000000000) in
    let n1 : 8 + (n + 56) ≡ n + 64 = omega arith in
    let n2 : 8 + (n + 48) ≡ n + 56 = omega arith in
    let n3 : 8 + (n + 40) ≡ n + 48 = omega arith in
    let n4 : 8 + (n + 32) ≡ n + 40 = omega arith in
    let n5 : 8 + (n + 24) ≡ n + 32 = omega arith in
    let n6 : 8 + (n + 16) ≡ n + 24 = omega arith in
    let n7 : 8 + (n + 8) ≡ n + 16 = omega arith in
    let s2 : d / 0x100 / 256 ≡ d / 0x10000 = omega arith in
    let s3 : d / 0x10000 / 256 ≡ d / 0x1000000 = omega arith in
    let s4 : d / 0x1000000 / 256 ≡ d / 0x100000000 = omega arith in
    let s5 : d / 0x100000000 / 256 ≡ d / 0x10000000000 = omega arith in
    let s6 : d / 0x10000000000 / 256 ≡ d / 0x1000000000000 = omega arith in
    let s7 : d / 0x1000000000000 / 256 ≡ d / 0x100000000000000 = omega arith in
    let s8 : d / 0x100000000000000 ≡ d / 0x100000000000000 % 256 = omega arith in
    cc

-- two dividends of eight bytes, one behind the other, each by itself
pub by_two_words : (divisor a b : ℕ)
    → bit_xor (remainder_after divisor 64 b) (remainder_after divisor 128 a) ≡ remainder_after divisor 64 (bit_xor (remainder_after divisor 64 a) b)
by_two_words divisor a b =
    xor_comm (remainder_after divisor 64 b) (remainder_after divisor 128 a)
    ∙ ap (λ m. bit_xor m (remainder_after divisor 64 b)) (remainder_after-add 64 64 divisor a)
    ∙ sym (remainder_after-sum 64 divisor (remainder_after divisor 64 a) b)

-- the number of eight bytes, the low one first, is their message
pub word_is_message : (bytes : List ℕ) → length bytes ≡ 8 → from_le_bytes w64 bytes ≡ message bytes
word_is_message (a ∷ b ∷ c ∷ d ∷ e ∷ f ∷ g ∷ h ∷ []) size = omega arith
word_is_message bytes size = absurd (omega arith)
