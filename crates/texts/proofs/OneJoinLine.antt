-- A line of `join` carries one segment, or has one fault.
use Rattle.std.proofs.Common.{◌≡◌, ℕ, ◌<◌, ◌≤◌, List, [], ◌∷◌, ◌++◌, length, Ok, Err, inl, inr, refl, sym, ap, ◌∙◌, subst, arith}
use Rattle.std.specs.Prelude.{codes}
use Rattle.docsis_wire.specs.declared.header.SegmentHeader.{SegmentHeader}
use Rattle.docsis_wire.specs.declared.segment.Segment.{Segment}
use Rattle.docsis_wire.specs.Header.{header_bytes}
use Rattle.docsis_wire.specs.Ready.{IsReady}
use Rattle.docsis_wire.specs.SegmentBytes.{segment_bytes}
use Rattle.hex.specs.Hex.{decode_of}
use Rattle.hex.specs.declared.error.FromHexError.TheVariants.{OddLength}
use Rattle.text_lines.specs.declared.fault.TraceKind.{TraceKind}
use Rattle.text_lines.specs.declared.fault.TraceKind.TheVariants.{FieldCount, NotHex, TooShort, PointerPast}
use Rattle.text_lines.specs.Field.{SpellsBytes}
use Rattle.text_lines.proofs.LinesReadOneWay.{IsDetermined}
use Rattle.texts.specs.Join.Line.{OnlySpells, Carries, HasFault, IsNotHex, IsTooShort, PointsPast, AddsSegment, join_format}

-- ---- one field, one reading

-- a dash is no digits
dash : (bytes : List ℕ) → decode_of (codes "-") ≡ Ok bytes → ⊥
dash bytes h = let odd : decode_of (codes "-") ≡ Err OddLength = refl in let no : Ok bytes ≡ Err OddLength = sym h ∙ odd in cc no

pub one_spelling : (field bytes other : List ℕ) → SpellsBytes field bytes → SpellsBytes field other → bytes ≡ other
one_spelling field bytes other (inl a) (inl b) = a.1 ∙ sym b.1
one_spelling field bytes other (inl a) (inr b) = absurd (dash other (subst (λ f. decode_of f ≡ Ok other) a.0 b))
one_spelling field bytes other (inr a) (inl b) = absurd (dash bytes (subst (λ f. decode_of f ≡ Ok bytes) b.0 a))
one_spelling field bytes other (inr a) (inr b) = let same : Ok bytes ≡ Ok other = sym a ∙ b in cc same

-- an only field is one field
one_field : (fields : List (List ℕ)) (field other : List ℕ) → fields ≡ field ∷ [] → fields ≡ other ∷ [] → field ≡ other
one_field fields field other a b = let same : field ∷ [] ≡ other ∷ [] = sym a ∙ b in cc same

-- which spells the same bytes each time
one_bytes : (fields : List (List ℕ)) (bytes other : List ℕ) → OnlySpells fields bytes → OnlySpells fields other → bytes ≡ other
one_bytes fields bytes other a b =
    one_spelling b.field bytes other (subst (λ f. SpellsBytes f bytes) (one_field fields a.field b.field a.alone b.alone) a.spelled) b.spelled

-- and then is a hexadecimal field
spells_or_not : (fields : List (List ℕ)) (bytes : List ℕ) → OnlySpells fields bytes → IsNotHex fields → ⊥
spells_or_not fields bytes a b =
    b.no_bytes (bytes, subst (λ f. SpellsBytes f bytes) (one_field fields a.field b.field a.alone b.alone) a.spelled)

-- and the only one
spells_or_more : (fields : List (List ℕ)) (bytes : List ℕ) → OnlySpells fields bytes → 1 < length fields → ⊥
spells_or_more fields bytes a many = let one : length fields ≡ 1 = ap length a.alone in omega arith

not_hex_or_more : (fields : List (List ℕ)) → IsNotHex fields → 1 < length fields → ⊥
not_hex_or_more fields a many = let one : length fields ≡ 1 = ap length a.alone in omega arith

-- a segment has the bytes of its header
segment_long : (s : Segment) → 8 ≤ length (segment_bytes s)
segment_long s = omega arith

-- ---- one line, one answer

-- headers of the same bytes are the same
abbrev pub OneHeader : Type 0
OneHeader = (head other : SegmentHeader) → header_bytes head ≡ header_bytes other → head ≡ other

module _ (one_header : OneHeader) where
  -- the bytes of a segment determine it
  one_segment : (s t : Segment) → segment_bytes s ≡ segment_bytes t → s ≡ t
  one_segment s t same =
      let head : header_bytes s.head ≡ header_bytes t.head = cc in
      let payload : s.payload ≡ t.payload = cc in
      let make : SegmentHeader → List ℕ → Segment = λ head payload. record { head = head; payload = payload } in
      ap (λ head. make head s.payload) (one_header s.head t.head head) ∙ ap (make t.head) payload

  one_carried : (fields : List (List ℕ)) (s t : Segment) → Carries fields s → Carries fields t → s ≡ t
  one_carried fields s t a b = one_segment s t (one_bytes fields (segment_bytes s) (segment_bytes t) a.spelled b.spelled)

  one_state : (before : List Segment) (fields : List (List ℕ)) (after other : List Segment) → AddsSegment before fields after → AddsSegment before fields other → after ≡ other
  one_state before fields after other a b =
      a.added ∙ ap (λ s. before ++ s ∷ []) (one_carried fields a.segment b.segment a.carries b.carries) ∙ sym b.added

  carried_without_fault : (fields : List (List ℕ)) (s : Segment) (kind : TraceKind) → Carries fields s → HasFault fields kind → ⊥
  carried_without_fault fields s FieldCount a b = spells_or_more fields (segment_bytes s) a.spelled b
  carried_without_fault fields s NotHex a b = spells_or_not fields (segment_bytes s) a.spelled b
  carried_without_fault fields s TooShort a b =
      omega (arith, segment_long s, ap length (one_bytes fields (segment_bytes s) b.bytes a.spelled b.spelled), b.short)
  carried_without_fault fields s PointerPast a b =
      let same : segment_bytes s ≡ segment_bytes b.past.segment = one_bytes fields (segment_bytes s) b.bytes a.spelled b.spelled ∙ sym b.past.spelled in
      b.past.past (subst (λ t. IsReady t) (one_segment s b.past.segment same) a.ready)
  carried_without_fault fields s _ a b = absurd b

-- bytes that are too few are no segment
too_few : (fields : List (List ℕ)) → IsTooShort fields → PointsPast fields → ⊥
too_few fields a b =
    let same : a.bytes ≡ segment_bytes b.past.segment = one_bytes fields a.bytes b.bytes a.spelled b.spelled ∙ sym b.past.spelled in
    omega (arith, segment_long b.past.segment, ap length same, a.short)

one_kind : (fields : List (List ℕ)) (kind other : TraceKind) → HasFault fields kind → HasFault fields other → kind ≡ other
one_kind fields FieldCount FieldCount a b = refl
one_kind fields FieldCount NotHex a b = absurd (not_hex_or_more fields b a)
one_kind fields FieldCount TooShort a b = absurd (spells_or_more fields b.bytes b.spelled a)
one_kind fields FieldCount PointerPast a b = absurd (spells_or_more fields b.bytes b.spelled a)
one_kind fields FieldCount _ a b = absurd b
one_kind fields NotHex FieldCount a b = absurd (not_hex_or_more fields a b)
one_kind fields NotHex NotHex a b = refl
one_kind fields NotHex TooShort a b = absurd (spells_or_not fields b.bytes b.spelled a)
one_kind fields NotHex PointerPast a b = absurd (spells_or_not fields b.bytes b.spelled a)
one_kind fields NotHex _ a b = absurd b
one_kind fields TooShort FieldCount a b = absurd (spells_or_more fields a.bytes a.spelled b)
one_kind fields TooShort NotHex a b = absurd (spells_or_not fields a.bytes a.spelled b)
one_kind fields TooShort TooShort a b = refl
one_kind fields TooShort PointerPast a b = absurd (too_few fields a b)
one_kind fields TooShort _ a b = absurd b
one_kind fields PointerPast FieldCount a b = absurd (spells_or_more fields a.bytes a.spelled b)
one_kind fields PointerPast NotHex a b = absurd (spells_or_not fields a.bytes a.spelled b)
one_kind fields PointerPast TooShort a b = absurd (too_few fields b a)
one_kind fields PointerPast PointerPast a b = refl
one_kind fields PointerPast _ a b = absurd b
one_kind fields _ _ a b = absurd a

-- no fields carry nothing
none_carries : (s : Segment) → Carries [] s → ⊥
none_carries s a = let no : [] ≡ a.spelled.field ∷ [] = a.spelled.alone in cc no

-- and have no fault
none_spells : (bytes : List ℕ) → OnlySpells [] bytes → ⊥
none_spells bytes a = let no : [] ≡ a.field ∷ [] = a.alone in cc no

none_without_fault : (kind : TraceKind) → HasFault [] kind → ⊥
none_without_fault FieldCount b = omega arith
none_without_fault NotHex b = let no : [] ≡ b.field ∷ [] = b.alone in cc no
none_without_fault TooShort b = none_spells b.bytes b.spelled
none_without_fault PointerPast b = none_spells b.bytes b.spelled
none_without_fault _ b = absurd b

-- the lines of `join` leave nothing open
pub join_is_determined : OneHeader → IsDetermined join_format
join_is_determined one_header = record {
  one_state = one_state one_header;
  one_kind = λ before. one_kind;
  not_both = λ before fields after kind adds fault. carried_without_fault one_header fields adds.segment kind adds.carries fault;
  takes_fields = λ before after adds. none_carries adds.segment adds.carries;
  faults_have_fields = λ before. none_without_fault;
}
