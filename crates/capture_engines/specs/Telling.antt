-- What the records of a capture tell of the SIDs of modems.
use Rattle.std.specs.Prelude.{◌≡◌, ◌≢◌, ◌≤◌, ◌-◌, ◌^◌, min, ℕ, List, [], ◌∷◌, ◌++◌, length, Option, Some, None, Ok}
use Rattle.capture.specs.Packet.{Parts, packet_bytes}
use Rattle.capture.specs.Burst.{BurstParts, burst_of}
use Rattle.capture.specs.PcapngBlocks.{CaptureParts}
use Rattle.registrations.specs.Part.{PartParts, part_of}
use Rattle.registrations.specs.Joining.{WholeParts}
use Rattle.registrations.specs.UnderWay.{held_at, count_of, Takes, Refused}
use Rattle.registrations.specs.declared.joining.JoinFault.{JoinFault}
use Rattle.registrations.specs.declared.joining.JoinFault.TheVariants.{OutOfMemory}
use Rattle.registrations.specs.declared.unfinished.Unfinished.{Unfinished}
use Rattle.registered_map.specs.Registered.{CapturedMessage}
use Rattle.seen_sids.specs.Seen.{Seen, nothing_seen, with_burst}

-- the link type of an XRA analyser's packets
abbrev pub xra : ℕ
xra = 273

-- a record of that type, of which nothing was cut off, counts
pub record Counts (one : CaptureParts) : Type 0 where
  pub of_xra : one.link_type ≡ xra
  pub whole : one.original ≤ length one.bytes

-- and holds this part of a message, or this burst
pub record HoldsPart (one : CaptureParts) (part : PartParts) : Type 0 where
  pub counts : Counts one
  pub packet : Parts
  pub spelled : one.bytes ≡ packet_bytes packet
  pub part_is : part_of packet ≡ Ok part

pub record HoldsBurst (one : CaptureParts) (burst : BurstParts) : Type 0 where
  pub counts : Counts one
  pub packet : Parts
  pub spelled : one.bytes ≡ packet_bytes packet
  pub burst_is : burst_of packet ≡ Ok burst

-- how many records there are, up to 2^64 − 1
abbrev pub counted : List CaptureParts → ℕ
counted records = min (length records) (2 ^ 64 - 1)

-- the message that a record completes, with the record's time and its number, counted from 1
abbrev pub completed : Option WholeParts → ℕ → ℕ → List CapturedMessage
completed None nanoseconds place = []
completed (Some whole) nanoseconds place = record { whole = whole; nanoseconds = nanoseconds; place = place } ∷ []

-- nothing changed of other modems than this one
abbrev pub KeepsOthers : Unfinished → Unfinished → ℕ → Type 0
KeepsOthers old new modem = (other : ℕ) → other ≢ modem → held_at new other ≡ held_at old other

-- What a record tells, by what was under way before it: its part is the next one of a message,
-- which may be whole with it; or the part is refused; or it has none.
pub data Tells (one : CaptureParts) (place : ℕ) (old new : Unfinished) (told : List CapturedMessage) : Type 0 where
  no_part : ((part : PartParts) → ¬ HoldsPart one part) → new ≡ old → told ≡ [] → Tells one place old new told
  refused : (part : PartParts) (why : JoinFault) → HoldsPart one part → why ≢ OutOfMemory → Refused old new part why → KeepsOthers old new part.modem
      → told ≡ [] → Tells one place old new told
  joined : (part : PartParts) (given : Option WholeParts) → HoldsPart one part → Takes old new (record { part = part; given = given })
      → told ≡ completed given one.nanoseconds place → Tells one place old new told

-- What a record shows of SIDs: its burst, if it holds one.
pub data Shows (one : CaptureParts) (old new : Seen) : Type 0 where
  no_burst : ((burst : BurstParts) → ¬ HoldsBurst one burst) → new ≡ old → Shows one old new
  shown : (burst : BurstParts) → HoldsBurst one burst → new ≡ with_burst old burst → Shows one old new

-- nothing is under way
pub record IsNew (unfinished : Unfinished) : Type 0 where
  pub none : (modem : ℕ) → held_at unfinished modem ≡ None
  pub count : count_of unfinished ≡ 0

-- **The messages that records tell**, one after another, what is under way behind them, and what
-- they show of SIDs.
pub data TellAll : List CaptureParts → Unfinished → List CapturedMessage → Seen → Type 0 where
  none_told : {begun : Unfinished} → IsNew begun → TellAll [] begun [] nothing_seen
  one_told : {records : List CaptureParts} {between end : Unfinished} {messages more : List CapturedMessage} {before seen : Seen} (one : CaptureParts)
      → TellAll records between messages before → Tells one (counted (records ++ one ∷ [])) between end more → Shows one before seen
      → TellAll (records ++ one ∷ []) end (messages ++ more) seen
