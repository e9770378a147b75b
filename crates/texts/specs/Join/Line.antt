-- The lines of `join`: each carries one segment, or has a fault.
use Rattle.std.specs.Prelude.{◌≡◌, ◌<◌, ℕ, List, [], ◌∷◌, ◌++◌, length}
use Rattle.docsis_wire.specs.declared.segment.Segment.{Segment}
use Rattle.docsis_wire.specs.Limits.{header_length}
use Rattle.docsis_wire.specs.Ready.{IsReady}
use Rattle.docsis_wire.specs.SegmentBytes.{segment_bytes}
use Rattle.docsis_wire.specs.SegmentBytes as segment
use Rattle.text_lines.specs.declared.fault.TraceKind.{TraceKind}
use Rattle.text_lines.specs.declared.fault.TraceKind.TheVariants.{UnknownLine, SetupLate, FieldCount, BadNumber, BadWord, NotHex, UnknownFlow, TooManyFlows, SameFlow, SameSid, TooShort, PointerPast}
use Rattle.text_lines.specs.Field.{SpellsBytes, IsHex}
use Rattle.text_lines.specs.Format.{Format}

-- the only field spells these bytes
pub record OnlySpells (fields : List (List ℕ)) (bytes : List ℕ) : Type 0 where
  pub field : List ℕ
  pub alone : fields ≡ field ∷ []
  pub spelled : SpellsBytes field bytes

-- the only field spells the bytes of a segment whose pointer stays within its payload
pub record Carries (fields : List (List ℕ)) (segment : Segment) : Type 0 where
  pub spelled : OnlySpells fields (segment_bytes segment)
  pub ready : IsReady segment

-- the only field is no hexadecimal field
pub record IsNotHex (fields : List (List ℕ)) : Type 0 where
  pub field : List ℕ
  pub alone : fields ≡ field ∷ []
  pub no_bytes : ¬ IsHex field

-- the only field spells fewer bytes than a header has
pub record IsTooShort (fields : List (List ℕ)) : Type 0 where
  pub bytes : List ℕ
  pub spelled : OnlySpells fields bytes
  pub short : length bytes < header_length

-- the only field spells the bytes of a segment whose pointer leads past its payload
pub record PointsPast (fields : List (List ℕ)) : Type 0 where
  pub bytes : List ℕ
  pub spelled : OnlySpells fields bytes
  pub past : segment.PointsPast bytes

-- The faults of a line's fields. No line has two of them, so that the least is the one that it has:
-- with a wrong number of fields there is no field to look at, what is no hexadecimal field has no
-- bytes, and too few bytes have no header.
abbrev pub HasFault : List (List ℕ) → TraceKind → Type 0
HasFault fields UnknownLine = ⊥
HasFault fields SetupLate = ⊥
HasFault fields FieldCount = 1 < length fields
HasFault fields BadNumber = ⊥
HasFault fields BadWord = ⊥
HasFault fields NotHex = IsNotHex fields
HasFault fields UnknownFlow = ⊥
HasFault fields TooManyFlows = ⊥
HasFault fields SameFlow = ⊥
HasFault fields SameSid = ⊥
HasFault fields TooShort = IsTooShort fields
HasFault fields PointerPast = PointsPast fields

-- the fields carry one more segment, after these
pub record AddsSegment (before : List Segment) (fields : List (List ℕ)) (after : List Segment) : Type 0 where
  pub segment : Segment
  pub carries : Carries fields segment
  pub added : after ≡ before ++ segment ∷ []

-- Lines say the segments that they carry, in order. A line's faults don't depend on lines above it.
abbrev pub join_format : Format (List Segment)
join_format = record {
  Takes = AddsSegment;
  HasFault = λ above. HasFault;
}
