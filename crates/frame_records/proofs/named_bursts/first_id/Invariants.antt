use Rattle.std.proofs.Common.{◌≡◌, ◌≤◌, List, length}
use Rattle.capture.specs.Fields.{Field, fields_bytes}
use Rattle.frame_records.proofs.FirstIds.{AreLeft}
use Rattle.frame_records.proofs.named_bursts.first_id.Given as goal

-- what was passed names no burst
abbrev pub invariant-loop-tlv : goal.invariant-loop-tlv
invariant-loop-tlv l = record {
  left : (fields : List Field) → l.tlvs ≡ fields_bytes fields → AreLeft fields l.rest;
  shorter : length l.rest ≤ length l.tlvs;
}

abbrev pub decreases-loop-tlv : goal.decreases-loop-tlv
decreases-loop-tlv l = length l.rest
