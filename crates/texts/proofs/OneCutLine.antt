-- A line of `cut` carries one frame or one piece, or has one fault.
use Rattle.std.proofs.Common.{◌≡◌, ℕ, List, [], ◌∷◌, ◌++◌, ◌⊎◌, length, get_or, inl, inr, refl, sym, ap, ◌∙◌, subst, arith}
use Rattle.std.specs.Prelude.{codes}
use Rattle.docsis_wire.specs.declared.pieces.Piece.{Piece}
use Rattle.text_lines.specs.declared.fault.TraceKind.{TraceKind}
use Rattle.text_lines.specs.declared.fault.TraceKind.TheVariants.{UnknownLine, FieldCount, BadNumber, NotHex}
use Rattle.text_lines.specs.Field.{SpellsBytes}
use Rattle.text_lines.specs.Number.{IsNumber}
use Rattle.text_lines.proofs.LinesReadOneWay.{IsDetermined}
use Rattle.texts.specs.Cut.Line.{CarriesFrame, CarriesPiece, HasOtherCount, HasBadNumber, HasFault, FramesAndPieces, AddsFrame, AddsPiece, cut_format}
use Rattle.texts.proofs.FirstField.{none_or_some, one_word, same_after}
use Rattle.texts.proofs.OneJoinLine.{one_spelling}

-- ---- fields that are there twice

-- the first word is not both of the two
frame_or_piece : (fields more others : List (List ℕ)) → fields ≡ codes "frame" ∷ more → fields ≡ codes "piece" ∷ others → ⊥
frame_or_piece fields more others a b =
    let first : 102 ≡ 112 = ap (λ word. get_or word 0 0) (one_word fields (codes "frame") (codes "piece") more others a b) in
    omega (arith, first)

-- after one word there are not two counts of fields
one_count : (fields : List (List ℕ)) (word : List ℕ) (more : List (List ℕ)) (count : ℕ) → fields ≡ word ∷ more → length more ≡ count → HasOtherCount fields word count → ⊥
one_count fields word more count a is b = b.other (ap length (sym (same_after fields word word more b.more a b.are)) ∙ is)

-- two lists of one element have the same one
same_one : (x y : List ℕ) → x ∷ [] ≡ y ∷ [] → x ≡ y
same_one x y h = cc h

-- and of two elements the same first one
same_first : (x y z w : List ℕ) → x ∷ z ∷ [] ≡ y ∷ w ∷ [] → x ≡ y
same_first x y z w h = cc h

-- and the same second one
same_second : (x y z w : List ℕ) → x ∷ z ∷ [] ≡ y ∷ w ∷ [] → z ≡ w
same_second x y z w h = cc h

-- ---- what a line carries

-- the one field after `frame`
one_field : (fields : List (List ℕ)) (field other : List ℕ) → fields ≡ codes "frame" ∷ field ∷ [] → fields ≡ codes "frame" ∷ other ∷ [] → field ≡ other
one_field fields field other a b = same_one field other (same_after fields (codes "frame") (codes "frame") (field ∷ []) (other ∷ []) a b)

one_frame : (fields : List (List ℕ)) (frame other : List ℕ) → CarriesFrame fields frame → CarriesFrame fields other → frame ≡ other
one_frame fields frame other a b =
    one_spelling b.field frame other (subst (λ f. SpellsBytes f frame) (one_field fields a.field b.field a.are b.are) a.spelled) b.spelled

-- a field is one number
one_number : (field other : List ℕ) (most n m : ℕ) → field ≡ other → IsNumber field most n → IsNumber other most m → n ≡ m
one_number field other most n m same a b = let P : List ℕ → Type 0 = λ f. IsNumber f most n in sym (subst P same a).value ∙ b.value

-- pieces of the same numbers are the same
same_piece : (piece other : Piece) → piece.bytes ≡ other.bytes → piece.fill ≡ other.fill → piece ≡ other
same_piece piece other bytes fill =
    let make : ℕ → ℕ → Piece = λ bytes fill. record { bytes = bytes; fill = fill } in
    ap (λ n. make n piece.fill) bytes ∙ ap (make other.bytes) fill

one_piece : (fields : List (List ℕ)) (piece other : Piece) → CarriesPiece fields piece → CarriesPiece fields other → piece ≡ other
one_piece fields piece other a b =
    let after = same_after fields (codes "piece") (codes "piece") (a.bytes ∷ a.fill ∷ []) (b.bytes ∷ b.fill ∷ []) a.are b.are in
    same_piece piece other
    (one_number a.bytes b.bytes 65535 piece.bytes other.bytes (same_first a.bytes b.bytes a.fill b.fill after) a.bytes_is b.bytes_is)
    (one_number a.fill b.fill 65535 piece.fill other.fill (same_second a.bytes b.bytes a.fill b.fill after) a.fill_is b.fill_is)

no_frame_and_piece : (fields : List (List ℕ)) (frame : List ℕ) (piece : Piece) → CarriesFrame fields frame → CarriesPiece fields piece → ⊥
no_frame_and_piece fields frame piece a b = frame_or_piece fields (a.field ∷ []) (b.bytes ∷ b.fill ∷ []) a.are b.are

-- ---- what has no fault

none_without_fault : (fields : List (List ℕ)) (kind : TraceKind) → fields ≡ [] → HasFault fields kind → ⊥
none_without_fault fields UnknownLine a b = none_or_some fields b.word b.more a b.are
none_without_fault fields FieldCount a (inl b) = none_or_some fields (codes "frame") b.more a b.are
none_without_fault fields FieldCount a (inr b) = none_or_some fields (codes "piece") b.more a b.are
none_without_fault fields BadNumber a b = none_or_some fields (codes "piece") (b.bytes ∷ b.fill ∷ []) a b.are
none_without_fault fields NotHex a b = none_or_some fields (codes "frame") (b.field ∷ []) a b.are
none_without_fault fields _ a b = absurd b

frame_without_fault : (fields : List (List ℕ)) (frame : List ℕ) (kind : TraceKind) → CarriesFrame fields frame → HasFault fields kind → ⊥
frame_without_fault fields frame UnknownLine a b = b.no_frame (one_word fields b.word (codes "frame") b.more (a.field ∷ []) b.are a.are)
frame_without_fault fields frame FieldCount a (inl b) = one_count fields (codes "frame") (a.field ∷ []) 1 a.are refl b
frame_without_fault fields frame FieldCount a (inr b) = frame_or_piece fields (a.field ∷ []) b.more a.are b.are
frame_without_fault fields frame BadNumber a b = frame_or_piece fields (a.field ∷ []) (b.bytes ∷ b.fill ∷ []) a.are b.are
frame_without_fault fields frame NotHex a b =
    b.no_bytes (frame, subst (λ f. SpellsBytes f frame) (one_field fields a.field b.field a.are b.are) a.spelled)
frame_without_fault fields frame _ a b = absurd b

-- after `piece` two numbers are two numbers
numbers_without_fault : (fields : List (List ℕ)) (piece : Piece) → CarriesPiece fields piece → HasBadNumber fields → ⊥
numbers_without_fault fields piece a b =
    let after = same_after fields (codes "piece") (codes "piece") (a.bytes ∷ a.fill ∷ []) (b.bytes ∷ b.fill ∷ []) a.are b.are in
    elim b.bad [
      | inl bad ↦ let P : List ℕ → Type 0 = λ f. IsNumber f 65535 piece.bytes in bad piece.bytes (subst P (same_first a.bytes b.bytes a.fill b.fill after) a.bytes_is)
      | inr bad ↦ let P : List ℕ → Type 0 = λ f. IsNumber f 65535 piece.fill in bad piece.fill (subst P (same_second a.bytes b.bytes a.fill b.fill after) a.fill_is)
    ]

piece_without_fault : (fields : List (List ℕ)) (piece : Piece) (kind : TraceKind) → CarriesPiece fields piece → HasFault fields kind → ⊥
piece_without_fault fields piece UnknownLine a b = b.no_piece (one_word fields b.word (codes "piece") b.more (a.bytes ∷ a.fill ∷ []) b.are a.are)
piece_without_fault fields piece FieldCount a (inl b) = frame_or_piece fields b.more (a.bytes ∷ a.fill ∷ []) b.are a.are
piece_without_fault fields piece FieldCount a (inr b) = one_count fields (codes "piece") (a.bytes ∷ a.fill ∷ []) 2 a.are refl b
piece_without_fault fields piece BadNumber a b = numbers_without_fault fields piece a b
piece_without_fault fields piece NotHex a b = frame_or_piece fields (b.field ∷ []) (a.bytes ∷ a.fill ∷ []) b.are a.are
piece_without_fault fields piece _ a b = absurd b

-- ---- one kind of fault

unknown_or_count : (fields : List (List ℕ)) → HasFault fields UnknownLine → HasFault fields FieldCount → ⊥
unknown_or_count fields a (inl b) = a.no_frame (one_word fields a.word (codes "frame") a.more b.more a.are b.are)
unknown_or_count fields a (inr b) = a.no_piece (one_word fields a.word (codes "piece") a.more b.more a.are b.are)

unknown_or_number : (fields : List (List ℕ)) → HasFault fields UnknownLine → HasFault fields BadNumber → ⊥
unknown_or_number fields a b = a.no_piece (one_word fields a.word (codes "piece") a.more (b.bytes ∷ b.fill ∷ []) a.are b.are)

unknown_or_hex : (fields : List (List ℕ)) → HasFault fields UnknownLine → HasFault fields NotHex → ⊥
unknown_or_hex fields a b = a.no_frame (one_word fields a.word (codes "frame") a.more (b.field ∷ []) a.are b.are)

count_or_number : (fields : List (List ℕ)) → HasFault fields FieldCount → HasFault fields BadNumber → ⊥
count_or_number fields (inl a) b = frame_or_piece fields a.more (b.bytes ∷ b.fill ∷ []) a.are b.are
count_or_number fields (inr a) b = one_count fields (codes "piece") (b.bytes ∷ b.fill ∷ []) 2 b.are refl a

count_or_hex : (fields : List (List ℕ)) → HasFault fields FieldCount → HasFault fields NotHex → ⊥
count_or_hex fields (inl a) b = one_count fields (codes "frame") (b.field ∷ []) 1 b.are refl a
count_or_hex fields (inr a) b = frame_or_piece fields (b.field ∷ []) a.more b.are a.are

number_or_hex : (fields : List (List ℕ)) → HasFault fields BadNumber → HasFault fields NotHex → ⊥
number_or_hex fields a b = frame_or_piece fields (b.field ∷ []) (a.bytes ∷ a.fill ∷ []) b.are a.are

one_kind : (fields : List (List ℕ)) (kind other : TraceKind) → HasFault fields kind → HasFault fields other → kind ≡ other
one_kind fields UnknownLine UnknownLine a b = refl
one_kind fields UnknownLine FieldCount a b = absurd (unknown_or_count fields a b)
one_kind fields UnknownLine BadNumber a b = absurd (unknown_or_number fields a b)
one_kind fields UnknownLine NotHex a b = absurd (unknown_or_hex fields a b)
one_kind fields UnknownLine _ a b = absurd b
one_kind fields FieldCount UnknownLine a b = absurd (unknown_or_count fields b a)
one_kind fields FieldCount FieldCount a b = refl
one_kind fields FieldCount BadNumber a b = absurd (count_or_number fields a b)
one_kind fields FieldCount NotHex a b = absurd (count_or_hex fields a b)
one_kind fields FieldCount _ a b = absurd b
one_kind fields BadNumber UnknownLine a b = absurd (unknown_or_number fields b a)
one_kind fields BadNumber FieldCount a b = absurd (count_or_number fields b a)
one_kind fields BadNumber BadNumber a b = refl
one_kind fields BadNumber NotHex a b = absurd (number_or_hex fields a b)
one_kind fields BadNumber _ a b = absurd b
one_kind fields NotHex UnknownLine a b = absurd (unknown_or_hex fields b a)
one_kind fields NotHex FieldCount a b = absurd (count_or_hex fields b a)
one_kind fields NotHex BadNumber a b = absurd (number_or_hex fields b a)
one_kind fields NotHex NotHex a b = refl
one_kind fields NotHex _ a b = absurd b
one_kind fields _ _ a b = absurd a

-- ---- what a line makes of those above it

one_state : (before : FramesAndPieces) (fields : List (List ℕ)) (after other : FramesAndPieces)
    → AddsFrame before fields after ⊎ AddsPiece before fields after → AddsFrame before fields other ⊎ AddsPiece before fields other → after ≡ other
one_state before fields after other (inl a) (inl b) =
    a.added ∙ ap (λ f. record before { frames = before.frames ++ f ∷ [] }) (one_frame fields a.frame b.frame a.carries b.carries) ∙ sym b.added
one_state before fields after other (inl a) (inr b) = absurd (no_frame_and_piece fields a.frame b.piece a.carries b.carries)
one_state before fields after other (inr a) (inl b) = absurd (no_frame_and_piece fields b.frame a.piece b.carries a.carries)
one_state before fields after other (inr a) (inr b) =
    a.added ∙ ap (λ p. record before { pieces = before.pieces ++ p ∷ [] }) (one_piece fields a.piece b.piece a.carries b.carries) ∙ sym b.added

not_both : (before : FramesAndPieces) (fields : List (List ℕ)) (after : FramesAndPieces) (kind : TraceKind)
    → AddsFrame before fields after ⊎ AddsPiece before fields after → HasFault fields kind → ⊥
not_both before fields after kind (inl a) fault = frame_without_fault fields a.frame kind a.carries fault
not_both before fields after kind (inr a) fault = piece_without_fault fields a.piece kind a.carries fault

takes_fields : (before after : FramesAndPieces) → AddsFrame before [] after ⊎ AddsPiece before [] after → ⊥
takes_fields before after (inl a) = none_or_some [] (codes "frame") (a.carries.field ∷ []) refl a.carries.are
takes_fields before after (inr a) = none_or_some [] (codes "piece") (a.carries.bytes ∷ a.carries.fill ∷ []) refl a.carries.are

-- the lines of `cut` leave nothing open
pub cut_is_determined : IsDetermined cut_format
cut_is_determined = record {
  one_state = one_state;
  one_kind = λ before. one_kind;
  not_both = not_both;
  takes_fields = takes_fields;
  faults_have_fields = λ before kind fault. none_without_fault [] kind refl fault;
}
