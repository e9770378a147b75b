-- What pairs of hexadecimal digits spell.
use Rattle.std.specs.Prelude.{◌≡◌, ◌<◌, ℕ, Option, Some, None, List, Ok, Err}
use Rattle.hex.specs.Hex.{hex_digit_value, decode_pairs}
use Rattle.hex.specs.declared.error.FromHexError.{FromHexError}

-- an entry is the value of a digit, which is below 16, or 16 where there is none
abbrev pub IsValueOr16 : Option ℕ → ℕ → Type 0
IsValueOr16 (Some value) entry = (entry ≡ value) × (value < 16)
IsValueOr16 None entry = entry ≡ 16

-- what a table says of a byte: the value of the digit that it is, in either case, or 16
abbrev pub IsDigitEntry : ℕ → ℕ → Type 0
IsDigitEntry byte entry = IsValueOr16 (hex_digit_value byte) entry

-- these digits spell these bytes
abbrev pub SpellsPairs : List ℕ → List ℕ → Type 0
SpellsPairs digits bytes = decode_pairs 0 digits ≡ Ok bytes

-- one of them is no digit
abbrev pub SpellsNothing : List ℕ → Type 0
SpellsNothing digits = (fault : FromHexError) × (decode_pairs 0 digits ≡ Err fault)
