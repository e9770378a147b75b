-- A multiple of the generator of frames that has few powers of x. Where it is added as often as the
-- front of a dividend says, the front is taken away, and a few sums stand further on.
use Rattle.std.proofs.Common.{◌≡◌, ℕ, zero, suc, ◌+◌, ◌-◌, ◌*◌, ◌/◌, ◌%◌, ◌^◌, ◌<◌, ◌≤◌, [], ◌∷◌, bit_xor, refl, sym, ap, ◌∙◌, arith, add-zero, pow-suc}
use Rattle.std.proofs.lemmas.Nat.{xor_comm, xor_block, pow_pos}
use Rattle.std.specs.Int.Bits.{xor_assoc, xor_self, xor_zero_l, xor_zero_r, xor_shifted}
use Rattle.docsis_wire.specs.Division.{polynomial, divide_once, remainder_after}
use Rattle.docsis_wire.specs.Checks.{frame_generator}
use Rattle.docsis_wire.proofs.Dividing.{xor_swap, divide_once-xor, remainder_after-add, remainder_after-xor}
use Rattle.docsis_wire.proofs.Digits.{remainder_after-sum}

-- the sum of two sums, in another order
pub xor_crossed : (a b c d : ℕ) → bit_xor (bit_xor a b) (bit_xor c d) ≡ bit_xor (bit_xor a c) (bit_xor b d)
xor_crossed a b c d =
    xor_assoc a b (bit_xor c d)
    ∙ ap (bit_xor a) (sym (xor_assoc b c d) ∙ ap (λ m. bit_xor m d) (xor_comm b c) ∙ xor_assoc c b d)
    ∙ sym (xor_assoc a c (bit_xor b d))

-- a sum that stands further on
pub xor_moved : (k a b : ℕ) → bit_xor (a * 2 ^ k) (b * 2 ^ k) ≡ bit_xor a b * 2 ^ k
xor_moved k a b =
    ap (λ m. bit_xor m (b * 2 ^ k)) (sym (add-zero (a * 2 ^ k))) ∙ ap (bit_xor (a * 2 ^ k + 0)) (sym (add-zero (b * 2 ^ k)))
    ∙ xor_block k a b 0 0 (pow_pos k) (pow_pos k) ∙ add-zero (bit_xor a b * 2 ^ k)

-- two numbers whose sum is nothing
xor_none : (a b : ℕ) → bit_xor a b ≡ 0 → b ≡ a
xor_none a b none =
    sym (xor_zero_l b) ∙ ap (λ m. bit_xor m b) (sym (xor_self a)) ∙ xor_assoc a a b ∙ ap (bit_xor a) none ∙ xor_zero_r a

-- nothing leaves nothing
nothing_left : (n divisor : ℕ) → remainder_after divisor n 0 ≡ 0
unfolding remainder_after
nothing_left zero divisor = refl
nothing_left (suc n) divisor = nothing_left n divisor

-- a dividend whose leading coefficient is 0
after_zero : (n divisor a : ℕ) → remainder_after divisor (suc n) (a * 2) ≡ remainder_after divisor n a
unfolding remainder_after
after_zero n divisor a =
    ap (λ m. remainder_after divisor n (divide_once divisor m)) (sym (xor_zero_l (a * 2)))
    ∙ ap (remainder_after divisor n) (divide_once-xor divisor 0 a ∙ xor_zero_l a)

sparse_multiple : ℕ
sparse_multiple = polynomial 300 (300 ∷ 155 ∷ 117 ∷ 89 ∷ 0 ∷ [])

-- it is a multiple, by computing
is_multiple : remainder_after frame_generator 269 sparse_multiple ≡ 0
unfolding sparse_multiple remainder_after
is_multiple = refl

-- a dividend times the sparse multiple
times : ℕ → ℕ
times a = bit_xor a (bit_xor (bit_xor (a * 2 ^ 145) (a * 2 ^ 183)) (bit_xor (a * 2 ^ 211) (a * 2 ^ 300)))

times-xor : (a b : ℕ) → times (bit_xor a b) ≡ bit_xor (times a) (times b)
unfolding times
times-xor a b =
    let e145 = xor_moved 145 a b in
    let e183 = xor_moved 183 a b in
    let e211 = xor_moved 211 a b in
    let e300 = xor_moved 300 a b in
    let first = xor_crossed (a * 2 ^ 145) (b * 2 ^ 145) (a * 2 ^ 183) (b * 2 ^ 183) in
    let second = xor_crossed (a * 2 ^ 211) (b * 2 ^ 211) (a * 2 ^ 300) (b * 2 ^ 300) in
    let both = xor_crossed (bit_xor (a * 2 ^ 145) (a * 2 ^ 183)) (bit_xor (b * 2 ^ 145) (b * 2 ^ 183)) (bit_xor (a * 2 ^ 211) (a * 2 ^ 300)) (bit_xor (b * 2 ^ 211) (b * 2 ^ 300)) in
    let all = xor_crossed a b (bit_xor (bit_xor (a * 2 ^ 145) (a * 2 ^ 183)) (bit_xor (a * 2 ^ 211) (a * 2 ^ 300))) (bit_xor (bit_xor (b * 2 ^ 145) (b * 2 ^ 183)) (bit_xor (b * 2 ^ 211) (b * 2 ^ 300))) in
    cc

times-twice : (a : ℕ) → times (a * 2) ≡ times a * 2
unfolding times
times-twice a =
    let t145 : a * 2 * 2 ^ 145 ≡ a * 2 ^ 145 * 2 = omega arith in
    let t183 : a * 2 * 2 ^ 183 ≡ a * 2 ^ 183 * 2 = omega arith in
    let t211 : a * 2 * 2 ^ 211 ≡ a * 2 ^ 211 * 2 = omega arith in
    let t300 : a * 2 * 2 ^ 300 ≡ a * 2 ^ 300 * 2 = omega arith in
    let first = xor_moved 1 (a * 2 ^ 145) (a * 2 ^ 183) in
    let second = xor_moved 1 (a * 2 ^ 211) (a * 2 ^ 300) in
    let both = xor_moved 1 (bit_xor (a * 2 ^ 145) (a * 2 ^ 183)) (bit_xor (a * 2 ^ 211) (a * 2 ^ 300)) in
    let all = xor_moved 1 a (bit_xor (bit_xor (a * 2 ^ 145) (a * 2 ^ 183)) (bit_xor (a * 2 ^ 211) (a * 2 ^ 300))) in
    cc

-- of one coefficient times the multiple nothing is left
coefficient_left : (a n : ℕ) → a < 2 → 269 ≤ n → remainder_after frame_generator n (times a) ≡ 0
unfolding times sparse_multiple
coefficient_left zero n small enough = nothing_left n frame_generator
coefficient_left (suc zero) n small enough =
    let steps : n ≡ 269 + (n - 269) = omega arith in
    ap (λ m. remainder_after frame_generator m sparse_multiple) steps
    ∙ remainder_after-add 269 (n - 269) frame_generator sparse_multiple
    ∙ ap (remainder_after frame_generator (n - 269)) is_multiple
    ∙ nothing_left (n - 269) frame_generator
coefficient_left (suc (suc a)) n small enough = absurd (omega arith)

-- a dividend as its leading coefficient and the others
by_leading : (a : ℕ) → a ≡ bit_xor (a % 2) (a / 2 * 2)
by_leading a =
    let small : a % 2 < 2 ^ 1 = omega arith in
    let sum : a ≡ a / 2 * 2 + a % 2 = omega arith in
    sum ∙ sym (xor_shifted (a / 2) 1 (a % 2) small) ∙ xor_comm (a / 2 * 2) (a % 2)

-- So nothing is left of k coefficients times the multiple.
times_left : (k a n : ℕ) → a < 2 ^ k → 269 + k ≤ n → remainder_after frame_generator n (times a) ≡ 0
unfolding times
times_left zero a n small enough =
    let none : a ≡ 0 = omega arith in
    ap (λ m. remainder_after frame_generator n (times m)) none ∙ nothing_left n frame_generator
times_left (suc k) a zero small enough = absurd (omega arith)
times_left (suc k) a (suc n) small enough =
    let half : a / 2 < 2 ^ k = omega (arith, pow-suc 2 k) in
    let leading : a % 2 < 2 = omega arith in
    let parts = ap times (by_leading a) ∙ times-xor (a % 2) (a / 2 * 2) ∙ ap (bit_xor (times (a % 2))) (times-twice (a / 2)) in
    ap (remainder_after frame_generator (suc n)) parts
    ∙ remainder_after-sum (suc n) frame_generator (times (a % 2)) (times (a / 2) * 2)
    ∙ ap (λ m. bit_xor m (remainder_after frame_generator (suc n) (times (a / 2) * 2))) (coefficient_left (a % 2) (suc n) leading (omega arith))
    ∙ xor_zero_l (remainder_after frame_generator (suc n) (times (a / 2) * 2))
    ∙ after_zero n frame_generator (times (a / 2))
    ∙ times_left k (a / 2) n half (omega arith)

-- What stands behind a front of 128 coefficients once it is taken away.
abbrev pub spread : ℕ → ℕ
spread a = bit_xor (bit_xor (a * 2 ^ 17) (a * 2 ^ 55)) (bit_xor (a * 2 ^ 83) (a * 2 ^ 172))

times_is : (a : ℕ) → times a ≡ bit_xor a (spread a * 2 ^ 128)
unfolding times
times_is a =
    let t145 : a * 2 ^ 145 ≡ a * 2 ^ 17 * 2 ^ 128 = omega arith in
    let t183 : a * 2 ^ 183 ≡ a * 2 ^ 55 * 2 ^ 128 = omega arith in
    let t211 : a * 2 ^ 211 ≡ a * 2 ^ 83 * 2 ^ 128 = omega arith in
    let t300 : a * 2 ^ 300 ≡ a * 2 ^ 172 * 2 ^ 128 = omega arith in
    let first = xor_moved 128 (a * 2 ^ 17) (a * 2 ^ 55) in
    let second = xor_moved 128 (a * 2 ^ 83) (a * 2 ^ 172) in
    let both = xor_moved 128 (bit_xor (a * 2 ^ 17) (a * 2 ^ 55)) (bit_xor (a * 2 ^ 83) (a * 2 ^ 172)) in
    cc

-- it leaves what the front leaves
spread_left : (a n : ℕ) → a < 2 ^ 128 → 269 ≤ n → remainder_after frame_generator n (spread a) ≡ remainder_after frame_generator (128 + n) a
spread_left a n small enough =
    let after = remainder_after frame_generator n in
    let front = remainder_after frame_generator 128 a in
    let none : bit_xor (after front) (after (spread a)) ≡ 0 =
    sym (remainder_after-sum n frame_generator front (spread a))
    ∙ ap after (sym (remainder_after-xor 128 frame_generator a (spread a)))
    ∙ sym (remainder_after-add 128 n frame_generator (bit_xor a (spread a * 2 ^ 128)))
    ∙ ap (remainder_after frame_generator (128 + n)) (sym (times_is a))
    ∙ times_left 128 a (128 + n) small (omega arith) in
    xor_none (after front) (after (spread a)) none ∙ sym (remainder_after-add 128 n frame_generator a)

-- A front is taken away, and what it adds further on is added to what stands there.
pub front_taken_away : (front others n : ℕ) → front < 2 ^ 128 → 269 ≤ n
    → remainder_after frame_generator n (bit_xor others (spread front)) ≡ remainder_after frame_generator (128 + n) (bit_xor front (others * 2 ^ 128))
front_taken_away front others n small enough =
    let after = remainder_after frame_generator n in
    remainder_after-sum n frame_generator others (spread front)
    ∙ ap (bit_xor (after others)) (spread_left front n small enough ∙ remainder_after-add 128 n frame_generator front)
    ∙ xor_comm (after others) (after (remainder_after frame_generator 128 front))
    ∙ sym (remainder_after-sum n frame_generator (remainder_after frame_generator 128 front) others)
    ∙ ap after (sym (remainder_after-xor 128 frame_generator front others))
    ∙ sym (remainder_after-add 128 n frame_generator (bit_xor front (others * 2 ^ 128)))

-- the same where the front is a sum
pub front_sum_taken_away : (front first second others n : ℕ) → front ≡ bit_xor first second → front < 2 ^ 128 → 269 ≤ n
    → remainder_after frame_generator n (bit_xor others (spread front))
    ≡ remainder_after frame_generator (128 + n) (bit_xor (bit_xor first (others * 2 ^ 128)) second)
front_sum_taken_away front first second others n is small enough =
    front_taken_away front others n small enough
    ∙ ap (λ m. remainder_after frame_generator (128 + n) (bit_xor m (others * 2 ^ 128))) is
    ∙ ap (remainder_after frame_generator (128 + n)) (xor_swap first second (others * 2 ^ 128))
