-- Which bursts of a capture their lanes will admit.
use Rattle.std.specs.Prelude.{◌≡◌, ℕ, ◌<◌, ◌≤◌, true, false, List, length, take, min, max}
use Rattle.docsis_wire.specs.declared.header.SegmentHeader.{SegmentHeader}
use Rattle.docsis_wire.specs.Header.{header_bytes}
use Rattle.docsis_wire.specs.Limits.{header_length}
use Rattle.docsis_wire.specs.SegmentBytes.{PointsPast}
use Rattle.lane.specs.Limits.{grant_max}
use Rattle.capture_rules.specs.declared.arrival.Arrival.{Arrival}
use Rattle.captured_flows.specs.declared.sound_burst.SoundBurst.{SoundBurst}
use Rattle.captured_flows.specs.declared.captured_burst.CapturedBurst.{CapturedBurst}

-- How many bytes a burst's grant is taken to have: as many as are said, as the burst has, and 8, at
-- least.
abbrev pub granted_to : ℕ → List ℕ → ℕ
granted_to granted bytes = max (max granted header_length) (min (length bytes) 4294967295)

-- **A burst that its lane will admit**, as it waits: its check is right, its grant isn't too great,
-- and its bytes spell a segment.
pub record IsSound (channel : ℕ) (burst : CapturedBurst) (one : Arrival SoundBurst) : Type 0 where
  pub check : burst.check ≡ true
  pub small : granted_to burst.granted burst.bytes ≤ grant_max
  pub long : header_length ≤ length burst.bytes
  pub inside : ¬ (PointsPast burst.bytes)
  pub head : SegmentHeader
  pub spelled : header_bytes head ≡ take header_length burst.bytes
  pub time : one.time ≡ burst.time
  pub channel_is : one.channel ≡ channel
  pub number : one.number ≡ head.sequence
  pub sid_is : one.item.sid ≡ burst.sid
  pub burst_id : one.item.burst_id ≡ burst.burst_id
  pub granted : one.item.granted ≡ granted_to burst.granted burst.bytes
  pub bytes : one.item.bytes ≡ burst.bytes

-- any other: the first that holds
pub data IsUnsound (burst : CapturedBurst) : Type 0 where
  bad_check : burst.check ≡ false → IsUnsound burst
  too_great : grant_max < granted_to burst.granted burst.bytes → IsUnsound burst
  too_short : length burst.bytes < header_length → IsUnsound burst
  pointer_past : PointsPast burst.bytes → IsUnsound burst
