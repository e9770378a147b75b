-- The least fault of a trace's line, from what its first faulty field is.
use Rattle.std.proofs.Common.{◌≡◌, ◌≢◌, ℕ, List, ◌∷◌, length, get_or, refl, sym, ap, subst, arith}
use Rattle.text_lines.specs.declared.fault.TraceKind.{TraceKind}
use Rattle.text_lines.specs.declared.fault.TraceKind.TheVariants.{FieldCount, BadNumber, BadWord, NotHex}
use Rattle.text_lines.specs.declared.fault.LineFault.{LineFault}
use Rattle.text_lines.specs.declared.fault.LineFault.TheVariants as line_fault
use Rattle.text_lines.specs.Inside.LineFault.{IsLineFault}
use Rattle.text_lines.specs.Field.{IsHex}
use Rattle.text_lines.specs.Inside.LineFault.{HasHexFault}
use Rattle.texts.specs.Trace.Line.{TraceShape, hex_field, LineForm, flow_line, sid_line, grant_line, burst_line, gap_line, gap_to_line, word_of, fields_after, some_bytes, IsBadField, HasBadField, HasFaultByItself}
use Rattle.texts.specs.Inside.TraceLine.{IsLeastFaultByItself}
use Rattle.texts.proofs.TraceFields.{IsFirstBad, least_bad, least_count}

-- ---- a wrong number of fields

-- the word begins lines of one form alone
abbrev pub IsAlone : LineForm → Type 0
IsAlone gap_line = ⊥
IsAlone gap_to_line = ⊥
IsAlone _ = Unit {0}

one_count : (shape : TraceShape) (form other : LineForm) → IsAlone form → word_of form ≡ word_of other → length (fields_after shape other) ≡ length (fields_after shape form)
one_count shape flow_line flow_line alone words = refl
one_count shape sid_line sid_line alone words = refl
one_count shape grant_line grant_line alone words = refl
one_count shape burst_line burst_line alone words = refl
one_count shape gap_line other alone words = absurd alone
one_count shape gap_to_line other alone words = absurd alone
one_count shape _ _ alone words = absurd (omega (arith, ap (λ word. get_or word 1 0) words))

pub miscounted : (shape : TraceShape) (form : LineForm) (after : List (List ℕ)) → IsAlone form → length after ≢ length (fields_after shape form)
    → IsLeastFaultByItself shape (word_of form ∷ after) FieldCount
miscounted shape form after alone wrong =
    let P : ℕ → Type 0 = λ count. length after ≢ count in
    least_count shape form after (λ other words. subst P (sym (one_count shape form other alone words)) wrong)

-- a gap has one field or two
pub miscounted_gap : (shape : TraceShape) (after : List (List ℕ)) → length after ≢ 1 → length after ≢ 2 → IsLeastFaultByItself shape (word_of gap_line ∷ after) FieldCount
miscounted_gap shape after one two = least_count shape gap_line after wrong where
  wrong : (other : LineForm) → word_of gap_line ≡ word_of other → length after ≢ length (fields_after shape other)
  wrong gap_line words = one
  wrong gap_to_line words = two
  wrong _ words = absurd (omega (arith, ap (λ word. get_or word 1 0) words))

-- ---- a bad field

-- the fields after the word, of which the first bad one has this fault
first_fault : (shape : TraceShape) (form : LineForm) (after fields : List (List ℕ)) (kind : TraceKind) (fault : LineFault)
    → (HasBadField shape (word_of form ∷ fields) kind → HasFaultByItself shape (word_of form ∷ fields) kind)
    → after ≡ fields → length fields ≡ length (fields_after shape form) → fault ≡ line_fault.Kind kind → IsFirstBad (fields_after shape form) fields kind
    → IsLineFault (IsLeastFaultByItself shape (word_of form ∷ after)) fault
first_fault shape form after fields kind fault same are count is first =
    let P : LineFault → Type 0 = IsLineFault (IsLeastFaultByItself shape (word_of form ∷ fields)) in
    let Q : List (List ℕ) → Type 0 = λ after. IsLineFault (IsLeastFaultByItself shape (word_of form ∷ after)) fault in
    subst Q (sym are) (subst P (sym is) (least_bad shape form fields kind count same first))

-- where it is no number
pub number_fault : (shape : TraceShape) (form : LineForm) (after fields : List (List ℕ)) (fault : LineFault) → after ≡ fields → length fields ≡ length (fields_after shape form)
    → fault ≡ line_fault.Kind BadNumber → IsFirstBad (fields_after shape form) fields BadNumber → IsLineFault (IsLeastFaultByItself shape (word_of form ∷ after)) fault
number_fault shape form after fields fault = first_fault shape form after fields BadNumber fault (λ bad. bad)

-- no word for a check
pub check_fault : (shape : TraceShape) (form : LineForm) (after fields : List (List ℕ)) (fault : LineFault) → after ≡ fields → length fields ≡ length (fields_after shape form)
    → fault ≡ line_fault.Kind BadWord → IsFirstBad (fields_after shape form) fields BadWord → IsLineFault (IsLeastFaultByItself shape (word_of form ∷ after)) fault
check_fault shape form after fields fault = first_fault shape form after fields BadWord fault (λ bad. bad)

-- a field that spells no bytes is no hexadecimal field
pub IsBadField-hex : (field : List ℕ) → ¬ (IsHex field) → IsBadField hex_field field
IsBadField-hex field none (some_bytes bytes) spelled = none (bytes, spelled)
IsBadField-hex field none _ spelled = absurd spelled

-- not hexadecimal, or its bytes got no memory
pub hex_fault : (shape : TraceShape) (form : LineForm) (after fields : List (List ℕ)) (field : List ℕ) (fault : LineFault) → after ≡ fields → length fields ≡ length (fields_after shape form)
    → (¬ (IsHex field) → IsFirstBad (fields_after shape form) fields NotHex) → IsLineFault (HasHexFault field) fault
    → IsLineFault (IsLeastFaultByItself shape (word_of form ∷ after)) fault
hex_fault shape form after fields field (line_fault.Kind kind) are count first is =
    first_fault shape form after fields NotHex (line_fault.Kind kind) (λ bad. bad) are count (ap line_fault.Kind is.0) (first is.1)
hex_fault shape form after fields field line_fault.OutOfMemory are count first is = tt
