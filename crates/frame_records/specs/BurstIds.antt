-- The bursts that a frame came from.
use Rattle.std.specs.Prelude.{◌≡◌, ℕ, ◌⊎◌, List, [], ◌∷◌, take, Option, Some, None, option_map}
use Rattle.capture.specs.Fields.{Field, fields_bytes, last_value}
use Rattle.capture.specs.Numbers.{number_in}
use Rattle.capture.specs.Packet.{Parts}
use Rattle.capture.specs.PcapngBlocks.{CaptureParts}
use Rattle.frame_records.specs.Recorded.{◌>>=◌, HoldsPacket}
use Rattle.frame_records.specs.declared.named_bursts.BurstIds.{BurstIds}

-- **A TLV names a burst**: it is TLV 14, and its value is TLVs, the last one of type 1 of which is
-- the analyser's number of the burst, of 1 to 8 bytes
pub record NamesBurst (field : Field) (id : ℕ) : Type 0 where
  pub kind : field.kind ≡ 14
  pub parts : List Field
  pub spelled : field.value ≡ fields_bytes parts
  pub id_is : (last_value 1 parts >>= number_in 8) ≡ Some id

abbrev pub NamesNone : Field → Type 0
NamesNone field = (id : ℕ) → NamesBurst field id → ⊥

-- the numbers of the bursts that some TLVs name, in order
abbrev pub AreBurstIds : List Field → List ℕ → Type 0
AreBurstIds [] ids = ids ≡ []
AreBurstIds (field ∷ fields) ids =
    ((id : ℕ) × (later : List ℕ) × NamesBurst field id × (ids ≡ id ∷ later) × AreBurstIds fields later) ⊎ (NamesNone field × AreBurstIds fields ids)

-- so many of them are looked at
abbrev pub most_bursts : ℕ
most_bursts = 16

-- these are the first of the bursts that the packet in a record names
abbrev pub AreFirstBursts : CaptureParts → List ℕ → Type 0
AreFirstBursts one ids = (parts : Parts) (all : List ℕ) → HoldsPacket one parts → AreBurstIds parts.fields all → ids ≡ take most_bursts all

-- the first of them, with the bytes of the TLVs behind the one that names it
abbrev pub IsFirstId : List Field → Option (ℕ × List ℕ) → Type 0
IsFirstId [] found = found ≡ None
IsFirstId (field ∷ fields) found =
    ((id : ℕ) × NamesBurst field id × (found ≡ Some (id, fields_bytes fields))) ⊎ (NamesNone field × IsFirstId fields found)

-- what was given is the first, and the others are named by the TLVs that are left; where none was
-- given, all are left
pub record GivesId (old : BurstIds) (given : Option ℕ) (new : BurstIds) : Type 0 where
  pub first : (fields : List Field) → old.tlvs.now ≡ fields_bytes fields → IsFirstId fields (option_map (λ id. (id, new.tlvs.now)) given)
  pub ended : given ≡ None → new.tlvs.now ≡ old.tlvs.now
