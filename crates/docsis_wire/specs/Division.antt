-- Polynomials modulo 2 and their division, by which check sequences are defined (ITU-T X.25 and
-- IEEE 802.3, frame check sequence). A polynomial is a number: the bit of weight 1 is its leading
-- coefficient, which is sent first, and each bit of twice the weight is the coefficient of the next
-- lower power of x. So the sum of two, which is their difference too, is `bit_xor`.
use Rattle.std.specs.Prelude.{◌≡◌, ℕ, zero, suc, ◌+◌, ◌-◌, ◌*◌, ◌/◌, ◌%◌, ◌^◌, ◌==◌, Bool, List, [], ◌∷◌, length, bit_xor, if◌then◌else◌}

-- the polynomial of this degree that has these powers of x
abbrev pub polynomial : ℕ → List ℕ → ℕ
polynomial degree [] = 0
polynomial degree (power ∷ powers) = 2 ^ (degree - power) + polynomial degree powers

-- the polynomial of a message: its first byte leads, and in each byte the bit of weight 1, which is
-- sent first
abbrev pub message : List ℕ → ℕ
message [] = 0
message (byte ∷ bytes) = byte + 256 * message bytes

-- One step of a long division: where the leading coefficient is 1 the divisor is subtracted, which
-- makes it 0. Then it is left out.
abbrev pub divide_once : ℕ → ℕ → ℕ
divide_once divisor dividend = (if dividend % 2 == 1 then bit_xor dividend divisor else dividend) / 2

-- What a long division leaves after so many steps: the remainder, where the dividend has as many
-- coefficients more than it.
unfoldable pub remainder_after : ℕ → ℕ → ℕ → ℕ
remainder_after divisor zero dividend = dividend
remainder_after divisor (suc steps) dividend = remainder_after divisor steps (divide_once divisor dividend)

-- the product of two polynomials, the first by its coefficients, the leading one first
abbrev pub product : List Bool → ℕ → ℕ
product [] factor = 0
product (coefficient ∷ coefficients) factor = bit_xor (if coefficient then factor else 0) (2 * product coefficients factor)

-- What is the remainder, whichever way one divides: the dividend is a quotient times the divisor,
-- and the remainder, which begins behind the quotient.
pub record IsRemainder (divisor steps dividend remainder : ℕ) : Type 0 where
  pub quotient : List Bool
  pub one_each : length quotient ≡ steps
  pub dividend_is : dividend ≡ bit_xor (product quotient divisor) (remainder * 2 ^ steps)
