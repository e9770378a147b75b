use Rattle.std.proofs.Common.{◌≡◌, ◌++◌, List, length}
use Rattle.capture.specs.Fields.{Field, fields_bytes}
use Rattle.capture.proofs.tlv.are_tlvs.Given as goal

-- what was passed are whole TLVs
abbrev pub invariant-loop-after : goal.invariant-loop-after
invariant-loop-after l = (front : List Field) × (l.bytes ≡ fields_bytes front ++ l.rest)

abbrev pub decreases-loop-after : goal.decreases-loop-after
decreases-loop-after l = length l.rest
