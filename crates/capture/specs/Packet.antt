use Rattle.std.specs.Prelude.{◌≡◌, ℕ, ◌/◌, ◌%◌, List, [], ◌∷◌, ◌++◌, length}
use Rattle.capture.specs.Fields.{Field, fields_bytes}
use Rattle.capture.specs.declared.packet.Packet.{Packet}

-- the parts of a packet of link type 273
pub record Parts : Type 0 where
  pub version : ℕ
  pub kind : ℕ
  pub fields : List Field
  pub payload : List ℕ

-- a number in two bytes, the more significant one first
abbrev pub two_bytes : ℕ → List ℕ
two_bytes n = n / 256 ∷ n % 256 ∷ []

-- Version, type, the length of all TLVs in two bytes, the most significant first; TLVs; payload.
abbrev pub packet_bytes : Parts → List ℕ
packet_bytes parts =
    parts.version ∷ parts.kind ∷ two_bytes (length (fields_bytes parts.fields)) ++ fields_bytes parts.fields ++ parts.payload

-- what was read is the packet of these parts
pub record IsPacket (parts : Parts) (packet : Packet) : Type 0 where
  pub version : packet.version ≡ parts.version
  pub kind : packet.kind ≡ parts.kind
  pub tlvs : packet.tlvs.now ≡ fields_bytes parts.fields
  pub payload : packet.payload.now ≡ parts.payload

-- the bytes spell this packet, all of them
pub record SpellsPacket (bytes : List ℕ) (packet : Packet) : Type 0 where
  pub parts : Parts
  pub spelled : bytes ≡ packet_bytes parts
  pub packet_is : IsPacket parts packet
