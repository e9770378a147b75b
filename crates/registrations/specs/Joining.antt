-- Messages whose parts come one after another.
use Rattle.std.specs.Prelude.{◌≡◌, ◌+◌, ℕ, ◌==◌, ◌&&◌, nat_lt, Bool, false, List, [], ◌++◌, length, Option, Some, None, Result, Ok, Err, if◌then◌else◌, ◌∷◌}
use Rattle.registrations.specs.Part.{PartParts}
use Rattle.registrations.specs.declared.part.MessageName.{MessageName}
use Rattle.registrations.specs.declared.part.MessageName.TheVariants.{RegRspMp, DbcReq}
use Rattle.registrations.specs.declared.joining.UnderWay.{UnderWay}
use Rattle.registrations.specs.declared.joining.WholeMessage.{WholeMessage}
use Rattle.registrations.specs.declared.joining.JoinFault.{JoinFault}
use Rattle.registrations.specs.declared.joining.JoinFault.TheVariants.{NoBeginning, OutOfTurn, TooLong}

-- so many messages may be under way, and the TLVs of one may have so many bytes
abbrev pub most_under_way : ℕ
most_under_way = 256

abbrev pub longest_message : ℕ
longest_message = 65536

-- a message whose parts 1 to `taken` came, and a whole one, without where their TLVs lie in memory
pub record OpenParts : Type 0 where
  pub message : MessageName
  pub of : ℕ
  pub taken : ℕ
  pub tlvs : List ℕ

pub record WholeParts : Type 0 where
  pub modem : ℕ
  pub message : MessageName
  pub tlvs : List ℕ

abbrev pub open_seen : UnderWay → OpenParts
open_seen held = record { message = held.message; of = held.of; taken = held.taken; tlvs = held.tlvs.items }

abbrev pub whole_seen : WholeMessage → WholeParts
whole_seen whole = record { modem = whole.modem; message = whole.message; tlvs = whole.tlvs.items }

-- two messages go by one name
abbrev pub same_message : MessageName → MessageName → Bool
same_message (RegRspMp sid response) (RegRspMp other_sid other_response) = sid == other_sid && response == other_response
same_message (DbcReq transaction) (DbcReq other_transaction) = transaction == other_transaction
same_message (RegRspMp sid response) (DbcReq transaction) = false
same_message (DbcReq transaction) (RegRspMp sid response) = false

-- the part is the next one of the message
abbrev pub precedes : OpenParts → PartParts → Bool
precedes held part = same_message held.message part.message && held.of == part.of && held.taken + 1 == part.number

-- a message with this part more
abbrev pub grown : OpenParts → PartParts → OpenParts
grown held part = record held { taken = part.number; tlvs = held.tlvs ++ part.tlvs }

-- a message of which no part came yet
abbrev pub begun : PartParts → OpenParts
begun part = record { message = part.message; of = part.of; taken = 0; tlvs = [] }

-- the message to which a part belongs, by what is under way for its modem: a first part begins it
abbrev pub next_one : OpenParts → PartParts → Result OpenParts JoinFault
next_one held part = if precedes held part then Ok held else Err OutOfTurn

abbrev pub message_of : Option OpenParts → PartParts → Result OpenParts JoinFault
message_of None part = if part.number == 1 then Ok (begun part) else Err NoBeginning
message_of (Some held) part = if part.number == 1 then Ok (begun part) else next_one held part

-- A message grows by a part if that belongs to it and it doesn't become too long.
abbrev pub within : Result OpenParts JoinFault → PartParts → Result OpenParts JoinFault
within (Ok held) part = if nat_lt longest_message (length held.tlvs + length part.tlvs) then Err TooLong else Ok (grown held part)
within (Err why) part = Err why

abbrev pub joined : Option OpenParts → PartParts → Result OpenParts JoinFault
joined before part = within (message_of before part) part

-- after its last part a message is given, and before that it stays under way
abbrev pub given_of : ℕ → OpenParts → Option WholeParts
given_of modem held =
    if held.taken == held.of then Some (record { modem = modem; message = held.message; tlvs = held.tlvs }) else None

abbrev pub left_of : OpenParts → Option OpenParts
left_of held = if held.taken == held.of then None else Some held

-- parts of one message, from this number on up to the last one
abbrev pub AreInTurn : ℕ → MessageName → ℕ → ℕ → List PartParts → Type 0
AreInTurn modem message of number [] = number ≡ of + 1
AreInTurn modem message of number (part ∷ more) =
    (part.modem ≡ modem) × (part.message ≡ message) × (part.of ≡ of) × (part.number ≡ number) × AreInTurn modem message of (number + 1) more

-- nothing was given before the last one, and this with it
abbrev pub GivesAtLast : WholeParts → List (Option WholeParts) → Type 0
GivesAtLast whole [] = ⊥
GivesAtLast whole (given ∷ []) = given ≡ Some whole
GivesAtLast whole (given ∷ next ∷ more) = (given ≡ None) × GivesAtLast whole (next ∷ more)

-- ---- inside

-- so many bytes of the message came before
abbrev pub IsHeldBefore : Result OpenParts JoinFault → ℕ → Type 0
IsHeldBefore message bytes = (held : OpenParts) × (message ≡ Ok held) × (bytes ≡ length held.tlvs)

-- the message to which a part belongs that fits
abbrev pub base_of : Option OpenParts → PartParts → OpenParts
base_of None part = begun part
base_of (Some held) part = if part.number == 1 then begun part else held
