-- The bursts among the records of a capture.
use Rattle.std.specs.Prelude.{◌≡◌, ◌≢◌, ◌<◌, ◌≤◌, ◌/◌, ◌-◌, ◌^◌, min, ℕ, Bool, List, [], ◌∷◌, ◌++◌, length, take, unwrap_or, Result, Ok, Err}
use Rattle.docsis_wire.specs.Checks.{ends_with_its_sequence}
use Rattle.docsis_wire.specs.Limits.{header_length}
use Rattle.capture.specs.Packet.{Parts, packet_bytes}
use Rattle.capture.specs.Burst.{BurstParts, burst_of}
use Rattle.capture.specs.PcapngBlocks.{CaptureParts}
use Rattle.capture.specs.declared.burst.Passed.{Passed}
use Rattle.capture.specs.declared.burst.Passed.TheVariants.{CutShort, Malformed}
use Rattle.captured_flows.specs.declared.captured_burst.CapturedBurst.{CapturedBurst}
use Rattle.capture_summary.specs.declared.passed.PassedReason.{PassedReason}
use Rattle.capture_summary.specs.declared.passed.PassedReason.TheVariants.{OtherLinkType, Packet}

-- the link type of an XRA analyser's packets
abbrev pub xra : ℕ
xra = 273

-- the greatest service identifier of 16 bits, which no map has
abbrev pub greatest_sid : ℕ
greatest_sid = 65535

-- a burst with its record's time, as it comes to the flows of a map: its grant has the bytes that
-- its bits make up, and of a service identifier of more than 16 bits it is enough that no map has
-- it
abbrev pub captured_burst : ℕ → BurstParts → CapturedBurst
captured_burst nanoseconds burst = record {
  time = nanoseconds;
  channel = burst.channel;
  sid = min burst.sid greatest_sid;
  granted = unwrap_or burst.grant_bits 0 / 8;
  burst_id = burst.burst_id;
  check = ends_with_its_sequence (take header_length burst.bytes);
  bytes = burst.bytes;
}

-- the burst that was found, whether or not it is above its grant
abbrev pub burst_in : Result (CapturedBurst × Bool) PassedReason → Result CapturedBurst PassedReason
burst_in (Ok found) = Ok found.0
burst_in (Err why) = Err why

-- **What a record is**: a burst, or passed over for this.
pub data IsBurstOf (one : CaptureParts) : Result CapturedBurst PassedReason → Type 0 where
  other_link_type : one.link_type ≢ xra → IsBurstOf one (Err OtherLinkType)
  cut_short : one.link_type ≡ xra → length one.bytes < one.original → IsBurstOf one (Err (Packet CutShort))
  no_burst : (why : Passed) → one.link_type ≡ xra → one.original ≤ length one.bytes
      → ((parts : Parts) → one.bytes ≡ packet_bytes parts → burst_of parts ≡ Err why)
      → (((parts : Parts) → one.bytes ≡ packet_bytes parts → ⊥) → why ≡ Malformed) → IsBurstOf one (Err (Packet why))
  is_burst : (parts : Parts) (burst : BurstParts) → one.link_type ≡ xra → one.original ≤ length one.bytes → one.bytes ≡ packet_bytes parts
      → burst_of parts ≡ Ok burst → IsBurstOf one (Ok (captured_burst one.nanoseconds burst))

-- the bursts among these records, in order
pub data AreBurstsOf : List CaptureParts → List CapturedBurst → Type 0 where
  no_records : AreBurstsOf [] []
  passed_over : {records : List CaptureParts} {bursts : List CapturedBurst} (one : CaptureParts) (why : PassedReason) → AreBurstsOf records bursts
      → IsBurstOf one (Err why) → AreBurstsOf (records ++ one ∷ []) bursts
  one_burst : {records : List CaptureParts} {bursts : List CapturedBurst} (one : CaptureParts) (burst : CapturedBurst) → AreBurstsOf records bursts
      → IsBurstOf one (Ok burst) → AreBurstsOf (records ++ one ∷ []) (bursts ++ burst ∷ [])

-- how many records there are, up to 2^64 − 1
abbrev pub counted : List CaptureParts → ℕ
counted records = min (length records) (2 ^ 64 - 1)
