-- A MAC management message and its frame, as grammars.
use Rattle.std.specs.Prelude.{◌≡◌, ℕ, ◌+◌, List, ◌∷◌, ◌++◌, length, IsTrue}
use Rattle.byteorder.specs.Endian.{big_number, little_number}
use Rattle.docsis_wire.specs.Checks.{ends_with_its_sequence, frame_check_sequence}
use Rattle.capture.specs.Packet.{two_bytes}
use Rattle.registrations.specs.Message.{ManagementParts}

-- a frame's header but for its check sequence: frame control 0xC2, a parameter, and how many bytes
-- follow the header
abbrev pub header_front : ℕ → ℕ → List ℕ
header_front parameter count = 0xC2 ∷ parameter ∷ two_bytes count

-- A frame: header, message, and the frame check sequence of four bytes, the low one first. Both
-- check sequences are right.
pub record IsMessageFrame (frame message : List ℕ) : Type 0 where
  pub parameter : ℕ
  pub sequence : List ℕ
  pub last : List ℕ
  pub spelled : frame ≡ (header_front parameter (length message + 4) ++ sequence) ++ message ++ last
  pub sequence_is : length sequence ≡ 2
  pub last_is : length last ≡ 4
  pub header_right : IsTrue (ends_with_its_sequence (header_front parameter (length message + 4) ++ sequence))
  pub message_right : frame_check_sequence message ≡ little_number 4 last

-- A message: destination and source of six bytes, the length of what follows that, DSAP, SSAP,
-- control and version, type, a reserved byte, the body.
pub record IsManagement (message : List ℕ) (parts : ManagementParts) : Type 0 where
  pub destination : List ℕ
  pub source : List ℕ
  pub control : List ℕ
  pub reserved : ℕ
  pub spelled : message ≡ destination ++ source ++ two_bytes (6 + length parts.body) ++ control ++ parts.kind ∷ reserved ∷ parts.body
  pub destination_is : length destination ≡ 6
  pub source_is : length source ≡ 6
  pub control_is : length control ≡ 4
  pub modem_is : parts.modem ≡ big_number 6 destination
