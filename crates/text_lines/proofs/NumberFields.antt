-- The digits of a field that were read so far, and what the field then is.
use Rattle.std.proofs.Common.{◌≡◌, ℕ, zero, suc, ◌<◌, List, [], ◌∷◌, length, get_or, take, ◌+◌, ◌*◌, arith, subst, sym, refl, lit≤}
use Rattle.std.specs.Char.{digit_value}
use Rattle.std.specs.Str.Parse.{AllDigits, digits_value}
use Rattle.std.proofs.lemmas.Str.Parse.{digits_value-take-le}
use Rattle.std.proofs.lemmas.Int.Digits.{digits_more, digits_value_more}
use Rattle.text_lines.specs.Number.{IsNoNumber}

-- each byte of a numeral is a digit
digit_within : (ds : List ℕ) (i : ℕ) → AllDigits 10 ds → i < length ds → digit_value (get_or ds i 0) < 10
digit_within [] i all within = absurd (omega arith)
digit_within (d ∷ ds) zero all within = all.0
digit_within (d ∷ ds) (suc i) all within = digit_within ds i all.1 (omega arith)

-- a field with a byte that is no digit is no number
pub IsNoNumber-byte : (field : List ℕ) (most i byte : ℕ) → i < length field → byte ≡ get_or field i 0 → ¬ (digit_value byte < 10) → IsNoNumber field most
IsNoNumber-byte field most i byte within is no_digit number n =
    no_digit (subst (λ b. digit_value b < 10) (sym is) (digit_within field i n.digits.1 within))

-- nor is one whose first digits are too great
pub IsNoNumber-past : (field : List ℕ) (most i next : ℕ) → next ≡ digits_value 10 (take i field) → most < next → IsNoNumber field most
IsNoNumber-past field most i next is past number n =
    omega (arith, digits_value-take-le 10 field i (lit≤ tt), n.value, n.within, is)

-- one more digit
pub record ReadsDigit (field : List ℕ) (i value : ℕ) : Type 0 where
  pub digits : AllDigits 10 (take (i + 1) field)
  pub value_is : value ≡ digits_value 10 (take (i + 1) field)

pub ReadsDigit-more : (field : List ℕ) (i number byte digit : ℕ) → i < length field → AllDigits 10 (take i field) → number ≡ digits_value 10 (take i field)
    → byte ≡ get_or field i 0 → (digit_value byte < 10) × (digit ≡ digit_value byte) → ReadsDigit field i (number * 10 + digit)
ReadsDigit-more field i number byte digit within all is at h = record {
  digits = digits_more 10 field i within all (rw (← at) h.0);
  value_is = rw (digits_value_more 10 field i within, ← at, ← is, h.1) refl;
}
