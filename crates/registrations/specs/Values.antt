-- The list of TLVs that some bytes are, and the numbers in their values.
use Rattle.std.specs.Prelude.{ℕ, zero, suc, nat_le, List, [], ◌∷◌, length, take, drop, Option, Some, None, option_map, if◌then◌else◌}
use Rattle.std.specs.Int.{w16, w32, from_be_bytes}
use Rattle.capture.specs.Fields.{Field, last_value}

-- one after another, while there is something
infixl 10 ◌>>=◌
abbrev pub ◌>>=◌ : {A B : Type 0} → Option A → (A → Option B) → Option B
(Some x) >>= next = next x
None >>= next = None

-- the TLV at the front, and what follows it
abbrev pub front_field : List ℕ → Option (Field × List ℕ)
front_field (kind ∷ size ∷ rest) =
    if nat_le size (length rest) then Some (record { kind = kind; value = take size rest }, drop size rest) else None
front_field _ = None

-- the TLVs that the bytes are, if they are whole TLVs, and at most so many
abbrev pub fields_within : ℕ → List ℕ → Option (List Field)
fields_within most [] = Some []
fields_within zero (byte ∷ bytes) = None
fields_within (suc most) (byte ∷ bytes) = do
  front ← front_field (byte ∷ bytes)
  fields ← fields_within most front.1
  Some (front.0 ∷ fields)

-- the TLVs that the bytes are: not more of them than there are bytes
abbrev pub fields_of : List ℕ → Option (List Field)
fields_of bytes = fields_within (length bytes) bytes

-- the value of the last of the TLVs that has a type, if there is one
abbrev pub value_if_there : ℕ → List ℕ → Option (Option (List ℕ))
value_if_there kind bytes = fields_of bytes >>= (λ fields. Some (last_value kind fields))

-- the same where there has to be one
abbrev pub value_at : ℕ → List ℕ → Option (List ℕ)
value_at kind bytes = value_if_there kind bytes >>= (λ value. value)

-- numbers of one, two and four bytes, the most significant first
abbrev pub byte_in : List ℕ → Option ℕ
byte_in (byte ∷ []) = Some byte
byte_in _ = None

abbrev pub word_in : List ℕ → Option ℕ
word_in (high ∷ low ∷ []) = Some (from_be_bytes w16 (high ∷ low ∷ []))
word_in _ = None

abbrev pub long_in : List ℕ → Option ℕ
long_in (a ∷ b ∷ c ∷ d ∷ []) = Some (from_be_bytes w32 (a ∷ b ∷ c ∷ d ∷ []))
long_in _ = None

-- a number that need not be there, but is one where it is
abbrev pub if_said : (List ℕ → Option ℕ) → Option (List ℕ) → Option (Option ℕ)
if_said read None = Some None
if_said read (Some value) = option_map Some (read value)

abbrev pub word_if_there : ℕ → List ℕ → Option (Option ℕ)
word_if_there kind bytes = value_if_there kind bytes >>= if_said word_in

abbrev pub long_if_there : ℕ → List ℕ → Option (Option ℕ)
long_if_there kind bytes = value_if_there kind bytes >>= if_said long_in

-- the numbers that the last values of a type are
abbrev pub byte_at : ℕ → List ℕ → Option ℕ
byte_at kind bytes = value_at kind bytes >>= byte_in

abbrev pub word_at : ℕ → List ℕ → Option ℕ
word_at kind bytes = value_at kind bytes >>= word_in

abbrev pub long_at : ℕ → List ℕ → Option ℕ
long_at kind bytes = value_at kind bytes >>= long_in
