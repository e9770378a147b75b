-- What a long division leaves is the remainder, and no other number is.
use Rattle.std.proofs.Common.{◌≡◌, ℕ, zero, suc, ◌+◌, ◌*◌, ◌/◌, ◌%◌, ◌^◌, Bool, true, false, ◌==◌, ◌↔◌, if◌then◌else◌, List, [], ◌∷◌, length, bit_xor, refl, sym, ap, ◌∙◌, arith}
use Rattle.std.proofs.Math.Nat.{pow-suc, mul_assoc}
use Rattle.std.proofs.lemmas.Bool.{eqb-true, eqb-false}
use Rattle.std.proofs.lemmas.Nat.{xor_comm, xor_mod, xor_block}
use Rattle.std.specs.Int.Bits.{xor_assoc, xor_self}
use Rattle.docsis_wire.specs.Division.{divide_once, remainder_after, product, IsRemainder}
use Rattle.docsis_wire.proofs.Dividing.{divide_once-xor}

-- what is one place behind in both parts of a sum
twice-xor : (a b : ℕ) → 2 * bit_xor a b ≡ bit_xor (2 * a) (2 * b)
twice-xor a b =
    let left : 2 * bit_xor a b ≡ bit_xor a b * 2 + 0 = omega arith in
    let first : a * 2 + 0 ≡ 2 * a = omega arith in
    let second : b * 2 + 0 ≡ 2 * b = omega arith in
    left ∙ sym (xor_block 1 a b 0 0 (omega arith) (omega arith)) ∙ ap (λ m. bit_xor m (b * 2 + 0)) first ∙ ap (bit_xor (2 * a)) second

twice-pow : (a n : ℕ) → 2 * (a * 2 ^ n) ≡ a * 2 ^ suc n
twice-pow a n =
    let turned : 2 * (a * 2 ^ n) ≡ a * 2 ^ n * 2 = omega arith in
    turned ∙ mul_assoc a (2 ^ n) 2 ∙ ap (λ m. a * m) (sym (pow-suc 2 n))

-- a sum whose first coefficient stands apart
first_apart : (first others remainder n : ℕ)
    → bit_xor (bit_xor first (2 * others)) (remainder * 2 ^ suc n) ≡ bit_xor first (2 * bit_xor others (remainder * 2 ^ n))
first_apart first others remainder n =
    xor_assoc first (2 * others) (remainder * 2 ^ suc n)
    ∙ ap (λ m. bit_xor first (bit_xor (2 * others) m)) (sym (twice-pow remainder n))
    ∙ ap (bit_xor first) (sym (twice-xor others (remainder * 2 ^ n)))

-- what is subtracted from an odd number is odd, so nothing is halved away
undone_by : (subtracted : Bool) (divisor dividend : ℕ) → divisor % 2 ≡ 1 → (dividend % 2 == 1) ≡ subtracted
    → dividend ≡ bit_xor (if subtracted then divisor else 0) (2 * ((if subtracted then bit_xor dividend divisor else dividend) / 2))
undone_by true divisor dividend odd is =
    let leading : dividend % 2 ≡ 1 = eqb-true (dividend % 2) 1 is in
    let even : bit_xor dividend divisor % 2 ≡ 0 =
    xor_mod dividend divisor 1 ∙ ap (λ m. bit_xor m (divisor % 2)) leading ∙ ap (bit_xor 1) odd in
    let whole : 2 * (bit_xor dividend divisor / 2) ≡ bit_xor dividend divisor = omega arith in
    let back : bit_xor divisor (bit_xor dividend divisor) ≡ dividend =
    xor_comm divisor (bit_xor dividend divisor) ∙ xor_assoc dividend divisor divisor ∙ ap (bit_xor dividend) (xor_self divisor) ∙ xor_comm dividend 0 in
    sym (ap (bit_xor divisor) whole ∙ back)
undone_by false divisor dividend odd is =
    let leading : dividend % 2 ≡ 1 → ⊥ = eqb-false (dividend % 2) 1 is in
    omega arith

undone : (divisor dividend : ℕ) → divisor % 2 ≡ 1
    → dividend ≡ bit_xor (if dividend % 2 == 1 then divisor else 0) (2 * divide_once divisor dividend)
undone divisor dividend odd = undone_by (dividend % 2 == 1) divisor dividend odd refl

-- what a long division leaves is the remainder: each step gives a coefficient of the quotient
left_is_remainder : (steps divisor dividend : ℕ) → divisor % 2 ≡ 1 → IsRemainder divisor steps dividend (remainder_after divisor steps dividend)
unfolding remainder_after
left_is_remainder zero divisor dividend odd = record { quotient = []; one_each = refl; dividend_is = omega arith }
left_is_remainder (suc n) divisor dividend odd =
    let rest = left_is_remainder n divisor (divide_once divisor dividend) odd in
    let left = remainder_after divisor n (divide_once divisor dividend) in
    let first = (if dividend % 2 == 1 then divisor else 0) in
    record {
      quotient = (dividend % 2 == 1) ∷ rest.quotient;
      one_each = ap suc rest.one_each;
      dividend_is = undone divisor dividend odd ∙ ap (λ m. bit_xor first (2 * m)) rest.dividend_is ∙ sym (first_apart first (product rest.quotient divisor) left n);
    }

-- a step on a quotient's coefficient times the divisor
spent : (coefficient : Bool) (divisor : ℕ) → divisor % 2 ≡ 1 → divide_once divisor (if coefficient then divisor else 0) ≡ 0
spent true divisor odd =
    ap (λ leading. (if leading == 1 then bit_xor divisor divisor else divisor) / 2) odd ∙ ap (λ n. n / 2) (xor_self divisor)
spent false divisor odd = refl

-- so a step takes the quotient's first coefficient away
step_of-sum : (coefficient : Bool) (divisor others : ℕ) → divisor % 2 ≡ 1
    → divide_once divisor (bit_xor (if coefficient then divisor else 0) (2 * others)) ≡ others
step_of-sum coefficient divisor others odd =
    let first = (if coefficient then divisor else 0) in
    let turned : 2 * others ≡ others * 2 = omega arith in
    ap (λ m. divide_once divisor (bit_xor first m)) turned ∙ divide_once-xor divisor first others ∙ ap (λ m. bit_xor m others) (spent coefficient divisor odd)

-- and a remainder, by whichever quotient, is what a long division leaves
remainder_is_left : (steps divisor dividend remainder : ℕ) (quotient : List Bool) → divisor % 2 ≡ 1 → length quotient ≡ steps
    → dividend ≡ bit_xor (product quotient divisor) (remainder * 2 ^ steps) → remainder ≡ remainder_after divisor steps dividend
unfolding remainder_after
remainder_is_left zero divisor dividend remainder [] odd size is = omega (arith, is)
remainder_is_left zero divisor dividend remainder (coefficient ∷ quotient) odd size is = absurd (omega (arith, size))
remainder_is_left (suc n) divisor dividend remainder [] odd size is = absurd (omega (arith, size))
remainder_is_left (suc n) divisor dividend remainder (coefficient ∷ quotient) odd size is =
    let first = (if coefficient then divisor else 0) in
    let others = bit_xor (product quotient divisor) (remainder * 2 ^ n) in
    let step : divide_once divisor dividend ≡ others =
    ap (divide_once divisor) (is ∙ first_apart first (product quotient divisor) remainder n) ∙ step_of-sum coefficient divisor others odd in
    remainder_is_left n divisor others remainder quotient odd (omega (arith, size)) refl ∙ ap (remainder_after divisor n) (sym step)

pub remainder_exactly : (divisor steps dividend remainder : ℕ) → divisor % 2 ≡ 1
    → IsRemainder divisor steps dividend remainder ↔ (remainder ≡ remainder_after divisor steps dividend)
remainder_exactly divisor steps dividend remainder odd = (
  λ is. remainder_is_left steps divisor dividend remainder is.quotient odd is.one_each is.dividend_is,
  λ same. rw same (left_is_remainder steps divisor dividend odd),
)
