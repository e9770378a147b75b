-- The part of a message that a packet of link type 273 holds, or why it holds none.
use Rattle.std.specs.Prelude.{◌≡◌, ℕ, ◌==◌, ◌||◌, ◌&&◌, nat_le, List, ◌∷◌, [], Result, Ok, Err, if◌then◌else◌}
use Rattle.std.specs.Int.{w16, from_be_bytes}
use Rattle.capture.specs.Packet.{Parts, packet_bytes}
use Rattle.registrations.specs.Message.{◌>>=◌, Gives, ManagementParts, message_in, management_in}
use Rattle.registrations.specs.declared.message.NoPart.{NoPart}
use Rattle.registrations.specs.declared.message.NoPart.TheVariants.{OtherType, OtherMessage, Malformed}
use Rattle.registrations.specs.declared.part.MessageName.{MessageName}
use Rattle.registrations.specs.declared.part.MessageName.TheVariants.{RegRspMp, DbcReq}
use Rattle.registrations.specs.declared.part.Part.{Part}

-- a part, without where its TLVs lie in memory
pub record PartParts : Type 0 where
  pub modem : ℕ
  pub message : MessageName
  pub of : ℕ
  pub number : ℕ
  pub tlvs : List ℕ

abbrev pub part_seen : Part → PartParts
part_seen part = record { modem = part.modem; message = part.message; of = part.of; number = part.number; tlvs = part.tlvs.now }

-- the number in two bytes
abbrev pub word : ℕ → ℕ → ℕ
word high low = from_be_bytes w16 (high ∷ low ∷ [])

-- parts are numbered from 1 on
abbrev pub numbered : PartParts → Result PartParts NoPart
numbered part = if nat_le 1 part.number && nat_le part.number part.of then Ok part else Err Malformed

-- A REG-RSP-MP: SID, response, number of parts, part, TLVs.
abbrev pub response_in : ℕ → List ℕ → Result PartParts NoPart
response_in modem (high ∷ low ∷ response ∷ of ∷ number ∷ tlvs) = numbered (record {
  modem = modem;
  message = RegRspMp (word high low) response;
  of = of;
  number = number;
  tlvs = tlvs;
})
response_in modem _ = Err Malformed

-- A DBC-REQ: transaction, number of parts, part, TLVs.
abbrev pub change_in : ℕ → List ℕ → Result PartParts NoPart
change_in modem (high ∷ low ∷ of ∷ number ∷ tlvs) = numbered (record {
  modem = modem;
  message = DbcReq (word high low);
  of = of;
  number = number;
  tlvs = tlvs;
})
change_in modem _ = Err Malformed

-- message types 45, REG-RSP-MP, and 36, DBC-REQ
abbrev pub part_in : ManagementParts → Result PartParts NoPart
part_in message =
    if message.kind == 45 then response_in message.modem message.body
    else (if message.kind == 36 then change_in message.modem message.body else Err OtherMessage)

-- packet types 1, 8 and 11 are frames of the downstream
abbrev pub part_of : Parts → Result PartParts NoPart
part_of packet =
    if packet.kind == 1 || packet.kind == 8 || packet.kind == 11
    then (do
      message ← message_in packet.payload
      management ← management_in message
      part_in management)
    else Err OtherType

-- the bytes spell a packet that holds this part
pub record SpellsPart (bytes : List ℕ) (part : Part) : Type 0 where
  pub parts : Parts
  pub spelled : bytes ≡ packet_bytes parts
  pub part_is : part_of parts ≡ Ok (part_seen part)

-- what was read of a packet's bytes: what its type and payload say, or that they spell no packet
pub record IsAnswer (bytes : List ℕ) (answer : Result Part NoPart) : Type 0 where
  pub spelled : (parts : Parts) → bytes ≡ packet_bytes parts → Gives part_seen answer (part_of parts)
  pub unspelled : ((parts : Parts) → bytes ≡ packet_bytes parts → ⊥) → answer ≡ Err Malformed
