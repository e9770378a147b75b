-- A burst that was read, its numbers and its values, without where they lie in memory.
use Rattle.std.specs.Prelude.{◌≡◌, List, ℕ, Result, Ok, Err}
use Rattle.capture.specs.Seen.{value_seen}
use Rattle.capture.specs.Packet.{Parts, packet_bytes}
use Rattle.capture.specs.Burst.{BurstParts, Numbers, Values, Gives, burst_of}
use Rattle.capture.specs.declared.burst.Burst.{Burst}
use Rattle.capture.specs.declared.burst.Passed.{Passed}
use Rattle.capture.specs.declared.burst.Passed.TheVariants.{Malformed}
use Rattle.capture.specs.declared.burst.BurstNumbers.{BurstNumbers}
use Rattle.capture.specs.declared.burst.LastValues.{LastValues}

abbrev pub burst_parts : Burst → BurstParts
burst_parts burst = record {
  kind = burst.kind;
  channel = burst.channel;
  sid = burst.sid;
  grant_bits = burst.grant_bits;
  burst_id = burst.burst_id;
  bytes = burst.bytes.now;
}

abbrev pub numbers_seen : BurstNumbers → Numbers
numbers_seen numbers = record {
  segment_header = numbers.segment_header;
  channel = numbers.channel;
  sid = numbers.sid;
  grant = numbers.grant;
  burst_id = numbers.burst_id;
}

abbrev pub values_seen : LastValues → Values
values_seen values = record {
  segment_header = value_seen values.segment_header;
  channel = value_seen values.channel;
  sid = value_seen values.sid;
  grant = value_seen values.grant;
  burst_id = value_seen values.burst_id;
}

-- the bytes spell a packet that holds this burst
pub record SpellsBurst (bytes : List ℕ) (burst : Burst) : Type 0 where
  pub parts : Parts
  pub spelled : bytes ≡ packet_bytes parts
  pub burst_is : burst_of parts ≡ Ok (burst_parts burst)

-- what was read of a packet's bytes: what the list of its TLVs says, or that they spell no packet
pub record IsAnswer (bytes : List ℕ) (answer : Result Burst Passed) : Type 0 where
  pub spelled : (parts : Parts) → bytes ≡ packet_bytes parts → Gives burst_parts answer (burst_of parts)
  pub unspelled : ((parts : Parts) → bytes ≡ packet_bytes parts → ⊥) → answer ≡ Err Malformed
