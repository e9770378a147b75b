use Rattle.std.proofs.Common.{◌≡◌, ◌++◌, List, length}
use Rattle.capture.specs.Fields.{Field, fields_bytes, last_value}
use Rattle.capture.specs.Seen.{value_seen}
use Rattle.capture.proofs.tlv.last_value.Given as goal

-- what was passed are whole TLVs, and the last value among them is known
abbrev pub invariant-loop-tlv : goal.invariant-loop-tlv
invariant-loop-tlv l = (front : List Field) × (l.tlvs ≡ fields_bytes front ++ l.rest) × (value_seen l.last ≡ last_value l.kind front)

abbrev pub decreases-loop-tlv : goal.decreases-loop-tlv
decreases-loop-tlv l = length l.rest
