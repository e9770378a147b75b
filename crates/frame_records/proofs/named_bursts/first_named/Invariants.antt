use Rattle.std.proofs.Common.{◌≡◌, ◌≤◌, ◌-◌, ℕ, List, length}
use Rattle.capture.specs.Fields.{Field, fields_bytes}
use Rattle.frame_records.specs.BurstIds.{AreBurstIds}
use Rattle.frame_records.proofs.FirstIds.{AreGivenOf}
use Rattle.frame_records.proofs.named_bursts.first_named.Given as goal

-- those that were given are the first of all
abbrev pub invariant-loop-ids : goal.invariant-loop-ids
invariant-loop-ids l = record {
  given : (fields : List Field) (all : List ℕ) → l.tlvs ≡ fields_bytes fields → AreBurstIds fields all → AreGivenOf all l.first.items l.ids.tlvs.now;
  few : length l.first.items ≤ 16;
}

abbrev pub decreases-loop-ids : goal.decreases-loop-ids
decreases-loop-ids l = 16 - length l.first.items
