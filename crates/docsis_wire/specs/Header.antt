use Rattle.std.specs.Prelude.{ℕ, ◌+◌, ◌*◌, List, ◌++◌}
use Rattle.docsis_wire.specs.declared.header.SegmentHeader.{SegmentHeader}
use Rattle.docsis_wire.specs.Words.{two_bytes, bit}

-- the eight bytes of a segment header: four words, each field at its place by a sum
abbrev pub header_bytes : SegmentHeader → List ℕ
header_bytes h =
    two_bytes (bit h.pfi * 32768 + bit h.reserved * 16384 + h.pointer)
    ++ two_bytes (h.sequence * 8 + h.cluster)
    ++ two_bytes h.request
    ++ two_bytes h.hcs
