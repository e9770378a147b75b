-- The TLVs of a packet. Bytes that are known to be bytes are the TLVs of one list only.
use Rattle.std.specs.Prelude.{◌≡◌, ℕ, List, ◌∷◌, length, reverse, find, Option, option_map, ◌==◌}
use Rattle.std.specs.List.{flat_map}

-- a TLV, without where it lies in memory: its type and its value
pub record Field : Type 0 where
  pub kind : ℕ
  pub value : List ℕ

-- type, length, value
abbrev pub field_bytes : Field → List ℕ
field_bytes field = field.kind ∷ length field.value ∷ field.value

-- the bytes of some TLVs, end to end
abbrev pub fields_bytes : List Field → List ℕ
fields_bytes fields = flat_map field_bytes fields

-- bytes that are whole TLVs, end to end
abbrev pub AreFields : List ℕ → Type 0
AreFields bytes = (fields : List Field) × (bytes ≡ fields_bytes fields)

-- the value of the last of some TLVs that has a type: the first one from the end
abbrev pub last_value : ℕ → List Field → Option (List ℕ)
last_value kind fields = option_map (λ field. field.value) (find (λ field. field.kind == kind) (reverse fields))
