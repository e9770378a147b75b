-- What is known of the frame check sequence in a frame.
use Rattle.std.specs.Prelude.{ℕ, ◌-◌, ◌%◌, ◌==◌, ◌&&◌, ◌||◌, nat_le, Bool, false, List, ◌∷◌, length, take, drop, if◌then◌else◌}
use Rattle.std.specs.Int.{w32, from_le_bytes}
use Rattle.std.specs.List.{list_any}
use Rattle.docsis_wire.specs.Checks.{frame_check_sequence}
use Rattle.capture_summary.specs.Elements.{Element, elements_of}
use Rattle.capture_summary.specs.declared.sequence.FrameSequence.{FrameSequence}
use Rattle.capture_summary.specs.declared.sequence.FrameSequence.TheVariants.{Right, Wrong, Encrypted, NotThere}

-- the top bit of the second byte of a value is set: ENABLE
abbrev pub is_enabled : List ℕ → Bool
is_enabled (first ∷ second ∷ others) = nat_le 128 second
is_enabled _ = false

-- an element of type 3 or 7, of upstream privacy, says that the frame is encrypted
abbrev pub says_encrypted : Element → Bool
says_encrypted element = (element.kind == 3 || element.kind == 7) && is_enabled element.value

abbrev pub is_encrypted : List ℕ → Bool
is_encrypted extended = list_any says_encrypted (elements_of extended)

-- an Ethernet frame ends with the check sequence of what stands before, the low byte first
abbrev pub ends_with_its_sequence : List ℕ → Bool
ends_with_its_sequence ethernet =
    nat_le 4 (length ethernet) && frame_check_sequence (take (length ethernet - 4) ethernet) == from_le_bytes w32 (drop (length ethernet - 4) ethernet)

-- what is known of a packet's frame with this extended header and this Ethernet frame
abbrev pub sequence_in : List ℕ → List ℕ → FrameSequence
sequence_in extended ethernet =
    if is_encrypted extended then Encrypted else (if ends_with_its_sequence ethernet then Right else Wrong)

-- MAC_PARM is the extended header's length where FC's last bit, EHDR_ON, is set; else there is none
abbrev pub extended_length : ℕ → ℕ → ℕ
extended_length fc parm = if fc % 2 == 1 then parm else 0

-- **What is known of the frame check sequence in a frame.** Its header is FC, MAC_PARM, two bytes
-- of LEN, the extended header, and two bytes of HCS. FC is 0 or 1 in a packet's frame, in which an
-- Ethernet frame follows the header.
abbrev pub sequence_of : List ℕ → FrameSequence
sequence_of (fc ∷ parm ∷ high ∷ low ∷ others) =
    if nat_le fc 1 then sequence_in (take (extended_length fc parm) others) (drop 2 (drop (extended_length fc parm) others)) else NotThere
sequence_of _ = NotThere
