-- Inputs as bytes, and what a read of one takes of a reader whose bytes are known.
use Rattle.std.specs.Prelude.{ℕ, Bool, true, false, Option, Some, None, List, [], ◌∷◌, ◌++◌, length, flat_map}
use Rattle.std.specs.Int.{w16, w32, to_be_bytes}
use Rattle.std.specs.Io.KnownBytes.{Consumes, IsAtEnd}
use Rattle.lane.specs.declared.input.Input.{Input}
use Rattle.lane.specs.declared.input.Input.TheVariants.{Grant, Burst}
use Rattle.workers.specs.declared.channel_input.ChannelInput.{ChannelInput}

-- the byte of a check: 1 if it is right
abbrev pub check_byte : Bool → ℕ
check_byte true = 1
check_byte false = 0

abbrev pub kind_of : Input → ℕ
kind_of (Grant number sid bytes) = 0
kind_of (Burst grant hcs_ok bytes) = 1

-- what follows the kind
abbrev pub behind_kind : Input → List ℕ
behind_kind (Grant number sid bytes) = (to_be_bytes w32 number ++ to_be_bytes w16 sid) ++ to_be_bytes w32 bytes
behind_kind (Burst grant hcs_ok bytes) = (to_be_bytes w32 grant ++ (check_byte hcs_ok ∷ [])) ++ (to_be_bytes w32 (length bytes) ++ bytes)

-- an input with its channel as bytes, and inputs one behind the other
abbrev pub form_of : ChannelInput → List ℕ
form_of one = one.channel ∷ kind_of one.input ∷ behind_kind one.input

abbrev pub forms_of : List ChannelInput → List ℕ
forms_of inputs = flat_map form_of inputs

-- a byte was read, or the reader was at its end
abbrev pub ReadsByte : Option (List ℕ) → Option (List ℕ) → Option ℕ → Type 0
ReadsByte old new (Some byte) = Consumes old new (byte ∷ [])
ReadsByte old new None = IsAtEnd old

-- an input was read, or the reader was at its end
abbrev pub ReadsInput : Option (List ℕ) → Option (List ℕ) → Option ChannelInput → Type 0
ReadsInput old new (Some input) = Consumes old new (form_of input)
ReadsInput old new None = IsAtEnd old
