-- Pairs of words as vectors have them, and their sums.
use Rattle.std.proofs.Common.{◌≡◌, ℕ, ◌+◌, ◌-◌, ◌*◌, ◌/◌, ◌%◌, ◌^◌, ◌<◌, List, [], ◌∷◌, ◌++◌, length, get_or, bit_xor, Fits, w8, w64, refl, sym, ap, ◌∙◌, arith}
use Rattle.std.proofs.Math.Nat.{mul_assoc, mul_comm}
use Rattle.std.proofs.lemmas.Nat.{xor_comm, xor_lt, pow_pos, shl-shr, shr-shr, shr_split, mod_below}
use Rattle.std.specs.Int.Bits.{xor_assoc, xor_shifted}
use Rattle.std.specs.Simd.Lanes.{zip2, Each1, number_l}
use Rattle.docsis_wire.specs.Division.{message}
use Rattle.docsis_wire.specs.Inside.Pending.{pair_sum}
use Rattle.docsis_wire.proofs.SparseMultiple.{xor_crossed, xor_moved, spread}

-- the sum of two pairs, word by word
pub pair_sum-xor : (xs ys : List ℕ) → length xs ≡ 2 → length ys ≡ 2 → pair_sum (zip2 bit_xor xs ys) ≡ bit_xor (pair_sum xs) (pair_sum ys)
pair_sum-xor (a ∷ b ∷ []) (c ∷ d ∷ []) p q =
    ap (bit_xor (bit_xor a c)) (sym (xor_moved 64 b d)) ∙ xor_crossed a c (b * 2 ^ 64) (d * 2 ^ 64)
pair_sum-xor (a ∷ b ∷ []) ys p q = absurd (omega arith)
pair_sum-xor xs ys p q = absurd (omega arith)

-- two words have 128 coefficients
pub pair_sum_fits : (a b : ℕ) → a < 2 ^ 64 → b < 2 ^ 64 → bit_xor a (b * 2 ^ 64) < 2 ^ 128
pair_sum_fits a b p q = xor_lt 128 a (b * 2 ^ 64) (omega arith) (omega arith)

pub pair_sum-xor_fits : (xs ys : List ℕ) → length xs ≡ 2 → length ys ≡ 2 → Each1 (Fits w64) xs → Each1 (Fits w64) ys → pair_sum (zip2 bit_xor xs ys) < 2 ^ 128
pair_sum-xor_fits (a ∷ b ∷ []) (c ∷ d ∷ []) p q fits more =
    pair_sum_fits (bit_xor a c) (bit_xor b d) (xor_lt 64 a c fits.0.fits more.0.fits) (xor_lt 64 b d fits.1.0.fits more.1.0.fits)
pair_sum-xor_fits (a ∷ b ∷ []) ys p q fits more = absurd (omega arith)
pair_sum-xor_fits xs ys p q fits more = absurd (omega arith)

-- the second word of a pair and the first of the next
pub pair_between : (xs ys : List ℕ) → length xs ≡ 2 → length ys ≡ 2
    → bit_xor (get_or (xs ++ ys) 1 0) (get_or (xs ++ ys) 2 0 * 2 ^ 64) ≡ bit_xor (get_or xs 1 0) (get_or ys 0 0 * 2 ^ 64)
pair_between (a ∷ b ∷ []) (c ∷ d ∷ []) p q = refl
pair_between (a ∷ b ∷ []) ys p q = absurd (omega arith)
pair_between xs ys p q = absurd (omega arith)

-- a word so many places further on, in its own place and in the next
word_moved : (w k : ℕ) → k < 64 → bit_xor (w * 2 ^ k % 2 ^ 64) (w / 2 ^ (64 - k) * 2 ^ 64) ≡ w * 2 ^ k
word_moved w k few =
    let all : 64 ≡ k + (64 - k) = omega arith in
    let over : w * 2 ^ k / 2 ^ 64 ≡ w / 2 ^ (64 - k) =
    ap (λ n. w * 2 ^ k / 2 ^ n) all ∙ sym (shr-shr (w * 2 ^ k) k (64 - k)) ∙ ap (λ m. m / 2 ^ (64 - k)) (shl-shr w k) in
    xor_comm (w * 2 ^ k % 2 ^ 64) (w / 2 ^ (64 - k) * 2 ^ 64)
    ∙ ap (λ m. bit_xor (m * 2 ^ 64) (w * 2 ^ k % 2 ^ 64)) (sym over)
    ∙ xor_shifted (w * 2 ^ k / 2 ^ 64) 64 (w * 2 ^ k % 2 ^ 64) (mod_below (w * 2 ^ k) (2 ^ 64) (pow_pos 64))
    ∙ shr_split (w * 2 ^ k) 64

pub pair_moved : (xs : List ℕ) (k : ℕ) → length xs ≡ 2 → k < 64
    → bit_xor (pair_sum (zip2 (λ w n. w * 2 ^ n % 2 ^ 64) xs (k ∷ k ∷ []))) (pair_sum (zip2 (λ w n. w / 2 ^ n) xs ((64 - k) ∷ (64 - k) ∷ [])) * 2 ^ 64) ≡ pair_sum xs * 2 ^ k
pair_moved (a ∷ b ∷ []) k size few =
    let a0 = a * 2 ^ k % 2 ^ 64 in
    let b0 = b * 2 ^ k % 2 ^ 64 in
    let a1 = a / 2 ^ (64 - k) in
    let b1 = b / 2 ^ (64 - k) in
    let turned : b * 2 ^ k * 2 ^ 64 ≡ b * 2 ^ 64 * 2 ^ k = mul_assoc b (2 ^ k) (2 ^ 64) ∙ ap (λ m. b * m) (mul_comm (2 ^ k) (2 ^ 64)) ∙ sym (mul_assoc b (2 ^ 64) (2 ^ k)) in
    ap (bit_xor (bit_xor a0 (b0 * 2 ^ 64))) (sym (xor_moved 64 a1 (b1 * 2 ^ 64)))
    ∙ xor_crossed a0 (b0 * 2 ^ 64) (a1 * 2 ^ 64) (b1 * 2 ^ 64 * 2 ^ 64)
    ∙ ap (bit_xor (bit_xor a0 (a1 * 2 ^ 64))) (xor_moved 64 b0 (b1 * 2 ^ 64) ∙ ap (λ m. m * 2 ^ 64) (word_moved b k few) ∙ turned)
    ∙ ap (λ m. bit_xor m (b * 2 ^ 64 * 2 ^ k)) (word_moved a k few)
    ∙ xor_moved k a (b * 2 ^ 64)
pair_moved xs k size few = absurd (omega arith)

-- sixteen bytes as two words
number_is_message : (bytes : List ℕ) → number_l 256 bytes ≡ message bytes
number_is_message [] = refl
number_is_message (byte ∷ bytes) = ap (λ m. byte + 256 * m) (number_is_message bytes)

number_below : (bytes : List ℕ) → length bytes ≡ 16 → Each1 (Fits w8) bytes → number_l 256 bytes < 2 ^ 128
number_below (a ∷ b ∷ c ∷ d ∷ e ∷ f ∷ g ∷ h ∷ i ∷ j ∷ k ∷ l ∷ m ∷ n ∷ o ∷ p ∷ []) size fits = omega arith
number_below bytes size fits = absurd (omega arith)

split_words : (m : ℕ) → m < 2 ^ 128 → bit_xor (m % 2 ^ 64) (m / 2 ^ 64 % 2 ^ 64 * 2 ^ 64) ≡ m
split_words m wide =
    let high : m / 2 ^ 64 % 2 ^ 64 ≡ m / 2 ^ 64 = omega arith in
    let low : m % 2 ^ 64 < 2 ^ 64 = omega arith in
    let sum : m / 2 ^ 64 * 2 ^ 64 + m % 2 ^ 64 ≡ m = omega arith in
    xor_comm (m % 2 ^ 64) (m / 2 ^ 64 % 2 ^ 64 * 2 ^ 64) ∙ ap (λ n. bit_xor (n * 2 ^ 64) (m % 2 ^ 64)) high ∙ xor_shifted (m / 2 ^ 64) 64 (m % 2 ^ 64) low ∙ sum

pub bytes_as_pair : (bytes : List ℕ) → length bytes ≡ 16 → Each1 (Fits w8) bytes
    → bit_xor (number_l 256 bytes % 2 ^ 64) (number_l 256 bytes / 2 ^ 64 % 2 ^ 64 * 2 ^ 64) ≡ message bytes
bytes_as_pair bytes size fits = split_words (number_l 256 bytes) (number_below bytes size fits) ∙ number_is_message bytes

-- The sums that a step makes, gathered by what they come of: p, q, r and s is what stays of the
-- four pairs that are moved, po, qo, ro and so what goes over.
regrouped : (p q l h b0 b1 ro s so po qo r la : ℕ) → bit_xor b0 b1 ≡ bit_xor (bit_xor po qo) (bit_xor r la)
    → bit_xor (bit_xor (bit_xor p q) (bit_xor l (bit_xor h b0))) (bit_xor (bit_xor b1 (bit_xor ro s)) so)
    ≡ bit_xor (bit_xor (bit_xor h l) la) (bit_xor (bit_xor (bit_xor p po) (bit_xor q qo)) (bit_xor (bit_xor r ro) (bit_xor s so)))
regrouped p q l h b0 b1 ro s so po qo r la halves =
    let a = bit_xor p q in
    let e = bit_xor po qo in
    let c = bit_xor h l in
    let d = bit_xor ro (bit_xor s so) in
    let f = bit_xor r la in
    let l1 : bit_xor l (bit_xor h b0) ≡ bit_xor c b0 = sym (xor_assoc l h b0) ∙ ap (λ m. bit_xor m b0) (xor_comm l h) in
    let l2 : bit_xor (bit_xor b1 (bit_xor ro s)) so ≡ bit_xor b1 d = xor_assoc b1 (bit_xor ro s) so ∙ ap (bit_xor b1) (xor_assoc ro s so) in
    let l3 : bit_xor a (bit_xor c b0) ≡ bit_xor (bit_xor a c) b0 = sym (xor_assoc a c b0) in
    let l4 : bit_xor (bit_xor (bit_xor a c) b0) (bit_xor b1 d) ≡ bit_xor (bit_xor a c) (bit_xor (bit_xor b0 b1) d) =
    xor_assoc (bit_xor a c) b0 (bit_xor b1 d) ∙ ap (bit_xor (bit_xor a c)) (sym (xor_assoc b0 b1 d)) in
    let l5 : bit_xor (bit_xor a c) (bit_xor (bit_xor e f) d) ≡ bit_xor (bit_xor (bit_xor a c) (bit_xor e f)) d = sym (xor_assoc (bit_xor a c) (bit_xor e f) d) in
    let l6 : bit_xor (bit_xor a c) (bit_xor e f) ≡ bit_xor (bit_xor a e) (bit_xor c f) = xor_crossed a c e f in
    let r1 = xor_crossed p po q qo in
    let r2 : bit_xor (bit_xor r ro) (bit_xor s so) ≡ bit_xor r d = xor_assoc r ro (bit_xor s so) in
    let r3 : bit_xor (bit_xor c la) (bit_xor (bit_xor a e) (bit_xor r d)) ≡ bit_xor (bit_xor c (bit_xor a e)) (bit_xor la (bit_xor r d)) = xor_crossed c la (bit_xor a e) (bit_xor r d) in
    let r4 : bit_xor la (bit_xor r d) ≡ bit_xor f d = sym (xor_assoc la r d) ∙ ap (λ m. bit_xor m d) (xor_comm la r) in
    let r5 : bit_xor (bit_xor c (bit_xor a e)) (bit_xor f d) ≡ bit_xor (bit_xor (bit_xor a e) (bit_xor c f)) d =
    ap (λ m. bit_xor m (bit_xor f d)) (xor_comm c (bit_xor a e)) ∙ sym (xor_assoc (bit_xor (bit_xor a e) c) f d) ∙ ap (λ m. bit_xor m d) (xor_assoc (bit_xor a e) c f) in
    cc

-- a sum of three, moved
moved_three : (k a b c : ℕ) → bit_xor (bit_xor (a * 2 ^ k) (b * 2 ^ k)) (c * 2 ^ k) ≡ bit_xor (bit_xor a b) c * 2 ^ k
moved_three k a b c = ap (λ m. bit_xor m (c * 2 ^ k)) (xor_moved k a b) ∙ xor_moved k (bit_xor a b) c

-- What a step makes is what was to be added behind the pair, and what the pair that is taken away
-- adds there.
pub step_adds : (pair p po q qo r ro s so h later last b0 b1 next after : ℕ)
    → bit_xor p (po * 2 ^ 64) ≡ pair * 2 ^ 17 → bit_xor q (qo * 2 ^ 64) ≡ pair * 2 ^ 55
    → bit_xor r (ro * 2 ^ 64) ≡ pair * 2 ^ 19 → bit_xor s (so * 2 ^ 64) ≡ pair * 2 ^ 44
    → bit_xor b0 (b1 * 2 ^ 64) ≡ bit_xor (bit_xor po qo) (bit_xor r last)
    → next ≡ bit_xor (bit_xor p q) (bit_xor later (bit_xor h (b0 * 2 ^ 64))) → after ≡ bit_xor ro s
    → bit_xor next (bit_xor (bit_xor b1 after) (so * 2 ^ 64) * 2 ^ 128) ≡ bit_xor (bit_xor (bit_xor h later) (last * 2 ^ 64)) (spread pair)
step_adds pair p po q qo r ro s so h later last b0 b1 next after e1 e2 e3 e4 halves next_is after_is =
    let halves_moved : bit_xor (b0 * 2 ^ 64) (b1 * 2 ^ 64 * 2 ^ 64) ≡ bit_xor (bit_xor (po * 2 ^ 64) (qo * 2 ^ 64)) (bit_xor (r * 2 ^ 64) (last * 2 ^ 64)) =
    xor_moved 64 b0 (b1 * 2 ^ 64) ∙ ap (λ m. m * 2 ^ 64) halves ∙ sym (xor_moved 64 (bit_xor po qo) (bit_xor r last))
    ∙ ap (λ m. bit_xor m (bit_xor r last * 2 ^ 64)) (sym (xor_moved 64 po qo)) ∙ ap (bit_xor (bit_xor (po * 2 ^ 64) (qo * 2 ^ 64))) (sym (xor_moved 64 r last)) in
    let third : bit_xor (r * 2 ^ 64) (ro * 2 ^ 64 * 2 ^ 64) ≡ pair * 2 ^ 83 = xor_moved 64 r (ro * 2 ^ 64) ∙ ap (λ m. m * 2 ^ 64) e3 ∙ omega arith in
    let fourth : bit_xor (s * 2 ^ 128) (so * 2 ^ 64 * 2 ^ 128) ≡ pair * 2 ^ 172 = xor_moved 128 s (so * 2 ^ 64) ∙ ap (λ m. m * 2 ^ 128) e4 ∙ omega arith in
    let ro_at : ro * 2 ^ 64 * 2 ^ 64 ≡ ro * 2 ^ 128 = omega arith in
    let b1_at : b1 * 2 ^ 64 * 2 ^ 64 ≡ b1 * 2 ^ 128 = omega arith in
    let apart = sym (moved_three 128 b1 after (so * 2 ^ 64)) in
    let after_moved = sym (xor_moved 128 ro s) in
    let e = regrouped p q later h (b0 * 2 ^ 64) (b1 * 2 ^ 64 * 2 ^ 64) (ro * 2 ^ 64 * 2 ^ 64) (s * 2 ^ 128) (so * 2 ^ 64 * 2 ^ 128) (po * 2 ^ 64) (qo * 2 ^ 64) (r * 2 ^ 64) (last * 2 ^ 64) halves_moved in
    cc

-- what stands behind the next two words, as the pairs behind them have it
pub pairs_behind : (h later first second pair : ℕ) → pair ≡ bit_xor later (bit_xor h (first * 2 ^ 64))
    → bit_xor (bit_xor h later) (bit_xor first (second * 2 ^ 64) * 2 ^ 64) ≡ bit_xor pair (second * 2 ^ 128)
pairs_behind h later first second pair is =
    let at : second * 2 ^ 64 * 2 ^ 64 ≡ second * 2 ^ 128 = omega arith in
    ap (bit_xor (bit_xor h later)) (sym (xor_moved 64 first (second * 2 ^ 64)) ∙ ap (bit_xor (first * 2 ^ 64)) at)
    ∙ sym (xor_assoc (bit_xor h later) (first * 2 ^ 64) (second * 2 ^ 128))
    ∙ ap (λ m. bit_xor m (second * 2 ^ 128)) (ap (λ m. bit_xor m (first * 2 ^ 64)) (xor_comm h later) ∙ xor_assoc later h (first * 2 ^ 64) ∙ sym is)
