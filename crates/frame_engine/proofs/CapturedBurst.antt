-- The burst in a record.
use Rattle.std.proofs.Common.{◌≡◌, ◌≤◌, ◌-◌, ℕ, Bool, true, false, List, ◌∷◌, ◌++◌, length, Result, Ok, Err, refl, sym, ap, subst, ◌∙◌, cond, arith, length-append}
use Rattle.std.specs.Prelude.{drop, take, min, ◌/◌, nat_lt, unwrap_or, ◌==◌}
use Rattle.docsis_wire.specs.Checks.{ends_with_its_sequence}
use Rattle.docsis_wire.specs.Limits.{header_length}
use Rattle.capture.specs.PcapngBlocks.{CaptureParts}
use Rattle.frame_engine.specs.Records.{greatest_sid, captured_burst, IsBurstOf}
use Rattle.std.proofs.lemmas.Bool.{ltb-false}
use Rattle.std.proofs.Math.Seq.{drop-append_seam}
use Rattle.capture.specs.Fields.{fields_bytes}
use Rattle.capture.specs.Packet.{Parts, packet_bytes, two_bytes}
use Rattle.capture.specs.Burst.{BurstParts, Numbers, burst_of, burst_from, kind_of, numbers_of, values_of, address_of, ◌>>=◌, low_24_bits}
use Rattle.capture.specs.declared.burst.BurstKind.{BurstKind}
use Rattle.capture.specs.declared.burst.Passed.{Passed}
use Rattle.capture.specs.declared.burst.Passed.TheVariants.{Malformed, NoSegmentHeader}

-- a burst is long enough for a header, and its bytes are the payload
pub record IsPayload (payload : List ℕ) (burst : BurstParts) : Type 0 where
  pub bytes : burst.bytes ≡ payload
  pub long : 8 ≤ length payload

-- one that follows an address
addressed : (kind : BurstKind) (numbers : Numbers) (bytes : List ℕ) (burst : BurstParts) (address : Result (ℕ × ℕ) Passed)
    → (address >>= (λ address. Ok (record {
      kind = kind;
      channel = address.0;
      sid = address.1;
      grant_bits = low_24_bits numbers.grant;
      burst_id = numbers.burst_id;
      bytes = bytes;
    }))) ≡ Ok burst → burst.bytes ≡ bytes
addressed kind numbers bytes burst (Err why) is = absurd cc
addressed kind numbers bytes burst (Ok address) is = cc

from_numbers : (kind : BurstKind) (numbers : Numbers) (bytes : List ℕ) (burst : BurstParts) (none small : Bool) → nat_lt (length bytes) 8 ≡ small
    → cond none (Err NoSegmentHeader)
    (cond small (Err Malformed)
    (address_of numbers.channel numbers.sid >>= (λ address. Ok (record {
      kind = kind;
      channel = address.0;
      sid = address.1;
      grant_bits = low_24_bits numbers.grant;
      burst_id = numbers.burst_id;
      bytes = bytes;
    })))) ≡ Ok burst → IsPayload bytes burst
from_numbers kind numbers bytes burst true small is e = absurd cc
from_numbers kind numbers bytes burst false true is e = absurd cc
from_numbers kind numbers bytes burst false false is e =
    record { bytes = addressed kind numbers bytes burst (address_of numbers.channel numbers.sid) e; long = ltb-false (length bytes) 8 is }

by_kind : (kind : Result BurstKind Passed) (numbers : Result Numbers Passed) (payload : List ℕ) (burst : BurstParts)
    → (kind >>= (λ how. numbers >>= (λ found. burst_from how found payload))) ≡ Ok burst → IsPayload payload burst
by_kind (Err why) numbers payload burst e = absurd cc
by_kind (Ok how) (Err why) payload burst e = absurd cc
by_kind (Ok how) (Ok found) payload burst e =
    from_numbers how found payload burst (unwrap_or found.segment_header 0 == 0) (nat_lt (length payload) 8) refl e

pub payload_of : (parts : Parts) (burst : BurstParts) → burst_of parts ≡ Ok burst → IsPayload parts.payload burst
payload_of parts burst e = by_kind (kind_of parts.kind) (numbers_of (values_of parts.fields)) parts.payload burst e

-- what stands before the payload
abbrev front_of : Parts → List ℕ
front_of parts = parts.version ∷ parts.kind ∷ two_bytes (length (fields_bytes parts.fields)) ++ fields_bytes parts.fields

module _ (bytes : List ℕ) (parts : Parts) (burst : BurstParts) (spelled : bytes ≡ packet_bytes parts) (found : burst_of parts ≡ Ok burst) where
  abbrev payload : IsPayload parts.payload burst
  payload = payload_of parts burst found

  parts_of : bytes ≡ front_of parts ++ burst.bytes
  parts_of = spelled ∙ ap (λ (behind : List ℕ). front_of parts ++ behind) (sym payload.bytes)

  -- a burst is no longer than its packet, and as long as a header at least
  pub burst_within : length burst.bytes ≤ length bytes
  burst_within = omega (arith, ap length parts_of, length-append (front_of parts) burst.bytes)

  pub burst_long : 8 ≤ length burst.bytes
  burst_long = omega (arith, payload.long, ap length payload.bytes)

  -- and what is left of the packet behind what stands before it
  pub burst_left : drop (length bytes - length burst.bytes) bytes ≡ burst.bytes
  burst_left =
      let n : length bytes - length burst.bytes ≡ length (front_of parts) = omega (arith, ap length parts_of, length-append (front_of parts) burst.bytes) in
      ap (λ (k : ℕ). drop k bytes) n ∙ ap (λ (all : List ℕ). drop (length (front_of parts)) all) parts_of ∙ drop-append_seam (front_of parts) burst.bytes

-- the same by its parts
pub burst-made : (one : CaptureParts) (burst : BurstParts) (sid granted : ℕ) (check : Bool) (bytes : List ℕ) → sid ≡ min burst.sid greatest_sid
    → granted ≡ unwrap_or burst.grant_bits 0 / 8 → check ≡ ends_with_its_sequence (take header_length burst.bytes) → bytes ≡ burst.bytes
    → IsBurstOf one (Ok (captured_burst one.nanoseconds burst))
    → IsBurstOf one (Ok (record {
      time = one.nanoseconds;
      channel = burst.channel;
      sid = sid;
      granted = granted;
      burst_id = burst.burst_id;
      check = check;
      bytes = bytes;
    }))
burst-made one burst sid granted check bytes s g c b is =
    subst
    (λ (sid : ℕ). IsBurstOf one (Ok (record { time = one.nanoseconds; channel = burst.channel; sid = sid; granted = granted; burst_id = burst.burst_id; check = check; bytes = bytes })))
    (sym s)
    (subst
    (λ (granted : ℕ). IsBurstOf one (Ok (record { time = one.nanoseconds; channel = burst.channel; sid = min burst.sid greatest_sid; granted = granted; burst_id = burst.burst_id; check = check; bytes = bytes })))
    (sym g)
    (subst
    (λ (check : Bool). IsBurstOf one (Ok (record {
      time = one.nanoseconds;
      channel = burst.channel;
      sid = min burst.sid greatest_sid;
      granted = unwrap_or burst.grant_bits 0 / 8;
      burst_id = burst.burst_id;
      check = check;
      bytes = bytes;
    }))) (sym c)
    (subst
    (λ (bytes : List ℕ). IsBurstOf one (Ok (record {
      time = one.nanoseconds;
      channel = burst.channel;
      sid = min burst.sid greatest_sid;
      granted = unwrap_or burst.grant_bits 0 / 8;
      burst_id = burst.burst_id;
      check = ends_with_its_sequence (take header_length burst.bytes);
      bytes = bytes;
    }))) (sym b) is)))
