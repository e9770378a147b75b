use Rattle.std.proofs.Common.{◌≡◌, ◌++◌, List, length}
use Rattle.capture.specs.Fields.{Field, fields_bytes}
use Rattle.capture.specs.Burst.{values_of}
use Rattle.capture.specs.SeenBurst.{values_seen}
use Rattle.capture.proofs.burst.last_values.Given as goal

-- what was passed are whole TLVs, and the last values among them are known
abbrev pub invariant-loop-tlv : goal.invariant-loop-tlv
invariant-loop-tlv l = (front : List Field) × (l.tlvs ≡ fields_bytes front ++ l.rest) × (values_seen l.values ≡ values_of front)

abbrev pub decreases-loop-tlv : goal.decreases-loop-tlv
decreases-loop-tlv l = length l.rest
