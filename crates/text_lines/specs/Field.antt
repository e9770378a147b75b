-- Hexadecimal fields.
use Rattle.std.specs.Prelude.{◌≡◌, ◌⊎◌, ℕ, List, [], codes, Ok}
use Rattle.hex.specs.Hex.{decode_of}

-- the field spells these bytes: two digits for each, in either case, or `-` for none
abbrev pub SpellsBytes : List ℕ → List ℕ → Type 0
SpellsBytes field bytes = ((field ≡ codes "-") × (bytes ≡ [])) ⊎ (decode_of field ≡ Ok bytes)

-- the field spells some bytes
abbrev pub IsHex : List ℕ → Type 0
IsHex field = (bytes : List ℕ) × SpellsBytes field bytes
