-- What the fault of a segment's bytes is to the line that they stand on.
use Rattle.std.proofs.Common.{◌≡◌, ◌<◌, ℕ, List, length, Err, Result}
use Rattle.docsis_wire.specs.declared.segment.Segment.{Segment}
use Rattle.docsis_wire.specs.declared.segment.SegmentFault.{SegmentFault}
use Rattle.docsis_wire.specs.declared.segment.SegmentFault.TheVariants.{TooShort, PointerPast, OutOfMemory}
use Rattle.docsis_wire.specs.Limits.{header_length}
use Rattle.docsis_wire.specs.SegmentBytes.{PointsPast}
use Rattle.text_lines.specs.Inside.LineFault.{IsLineFault, line_fault_of_segment}
use Rattle.texts.specs.Join.Line.{OnlySpells, HasFault}

-- the only field spells bytes that are no segment
pub no_segment : (fields : List (List ℕ)) (bytes : List ℕ) (read : Result Segment SegmentFault) (fault : SegmentFault) → OnlySpells fields bytes
    → read ≡ Err fault → (read ≡ Err TooShort → length bytes < header_length) → (read ≡ Err PointerPast → PointsPast bytes)
    → IsLineFault (HasFault fields) (line_fault_of_segment fault)
no_segment fields bytes read TooShort spelled is short past = record { bytes = bytes; spelled = spelled; short = short is }
no_segment fields bytes read PointerPast spelled is short past = record { bytes = bytes; spelled = spelled; past = past is }
no_segment fields bytes read OutOfMemory spelled is short past = tt
