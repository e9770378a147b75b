-- What vectors of hexadecimal digits have, and how far digits were read.
use Rattle.std.specs.Prelude.{◌≡◌, ◌+◌, ◌-◌, ◌*◌, ◌%◌, ◌++◌, ℕ, Bool, List, [], ◌∷◌, length, drop, min, bit_and, nat_lt, Result, Ok, Err, unwrap_or}
use Rattle.std.specs.List.{list_all}
use Rattle.hex.specs.Hex.{hex_digit_value, decode_pairs}
use Rattle.hex.specs.declared.error.FromHexError.{FromHexError}

-- pairs of these, one after the other
abbrev pub paired : List ℕ → List ℕ → List ℕ
paired (first ∷ firsts) (second ∷ seconds) = first ∷ second ∷ paired firsts seconds
paired firsts seconds = []

-- the value of the digit that a byte is, in either case, or 16 where it is none
abbrev pub value_or_16 : ℕ → ℕ
value_or_16 byte = unwrap_or (hex_digit_value byte) 16

-- 10 for the byte of an A, in either case, 11 for that of a B and so on, at most 255
abbrev pub letter_from_10 : ℕ → ℕ
letter_from_10 byte = min ((bit_and byte 223 + (256 - 65)) % 256 + 10) 255

-- whether each of these is the value of a digit, and not 16
abbrev pub are_below_16 : List ℕ → Bool
are_below_16 values = list_all (λ value. nat_lt value 16) values

-- these bytes, and behind them those that the other digits spell, if they spell any
abbrev pub behind : List ℕ → Result (List ℕ) FromHexError → Result (List ℕ) FromHexError
behind bytes (Ok others) = Ok (bytes ++ others)
behind bytes (Err fault) = Err fault

-- The first of these digits, two for each byte, spell these bytes.
abbrev pub SpellsFront : List ℕ → List ℕ → Type 0
SpellsFront digits bytes = decode_pairs 0 digits ≡ behind bytes (decode_pairs (2 * length bytes) (drop (2 * length bytes) digits))
