-- A MAC management message in its frame.
use Rattle.std.specs.Prelude.{◌≡◌, ℕ, ◌+◌, ◌-◌, ◌==◌, ◌&&◌, nat_le, Bool, List, length, take, drop, slice_index, Result, Ok, Err, if◌then◌else◌}
use Rattle.byteorder.specs.Endian.{big_number, little_number}
use Rattle.docsis_wire.specs.Checks.{ends_with_its_sequence, frame_check_sequence}
use Rattle.registrations.specs.declared.message.NoPart.{NoPart}
use Rattle.registrations.specs.declared.message.NoPart.TheVariants.{OtherFrame, Damaged, Malformed}
use Rattle.registrations.specs.declared.message.Management.{Management}

-- one after another, up to the first reason that there is no part
infixl 10 ◌>>=◌
abbrev pub ◌>>=◌ : {A B : Type 0} → Result A NoPart → (A → Result B NoPart) → Result B NoPart
(Ok x) >>= next = next x
(Err why) >>= next = Err why

-- what was returned, seen by view, is what is to be read
abbrev pub Gives : {X Y : Type 0} → (X → Y) → Result X NoPart → Result Y NoPart → Type 0
Gives view (Ok x) read = read ≡ Ok (view x)
Gives view (Err why) read = read ≡ Err why

-- the length in two bytes of a list, from this place on
abbrev pub length_at : ℕ → List ℕ → ℕ
length_at k bytes = big_number 2 (drop k bytes)

-- the message in a frame: what lies between the six bytes of its header and the four of its frame
-- check sequence
abbrev pub message_of : List ℕ → List ℕ
message_of frame = drop 6 (take (length frame - 4) frame)

-- the frame check sequence at a frame's end, the low byte first
abbrev pub last_sequence : List ℕ → ℕ
last_sequence frame = little_number 4 (drop (length frame - 4) frame)

-- both check sequences are right
abbrev pub is_right : List ℕ → Bool
is_right frame = ends_with_its_sequence (take 6 frame) && frame_check_sequence (message_of frame) == last_sequence frame

-- a frame is as long as its header says, and both its check sequences are right
abbrev pub is_whole : List ℕ → Bool
is_whole frame = nat_le 10 (length frame) && length frame == 6 + length_at 2 frame && is_right frame

-- Frame control 0xC2 is that of a MAC management message.
abbrev pub message_in : List ℕ → Result (List ℕ) NoPart
message_in frame =
    if slice_index frame 0 == 0xC2 then (if is_whole frame then Ok (message_of frame) else Err Damaged) else Err OtherFrame

-- a message, without where its body lies in memory
pub record ManagementParts : Type 0 where
  pub modem : ℕ
  pub kind : ℕ
  pub body : List ℕ

-- Destination and source of six bytes; the length of what follows it in two; DSAP, SSAP, control,
-- version, type, a reserved byte; the body.
abbrev pub management_in : List ℕ → Result ManagementParts NoPart
management_in message =
    if nat_le 20 (length message) && length message == 14 + length_at 12 message
    then Ok (record { modem = big_number 6 message; kind = slice_index message 18; body = drop 20 message })
    else Err Malformed

abbrev pub management_seen : Management → ManagementParts
management_seen message = record { modem = message.modem; kind = message.kind; body = message.body.now }
