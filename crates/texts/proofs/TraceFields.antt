-- The fields of a trace's line: they have one form, and of the fields without their form the first
-- has the least fault.
use Rattle.std.proofs.Common.{◌≡◌, ◌≢◌, ℕ, ◌<◌, ◌≤◌, List, [], ◌∷◌, ◌⊎◌, length, get_or, inl, inr, refl, sym, ap, ◌∙◌, subst, arith}
use Rattle.text_lines.specs.declared.fault.TraceKind.{TraceKind}
use Rattle.text_lines.specs.declared.fault.TraceKind.TheVariants.{UnknownLine, SetupLate, FieldCount, BadNumber, BadWord, NotHex}
use Rattle.text_lines.specs.Kinds.{kind_number}
use Rattle.texts.specs.Trace.Line.{TraceShape, FieldForm, LineForm, flow_line, sid_line, grant_line, burst_line, gap_line, gap_to_line, word_of, fields_after, Value, IsField, IsUnknown, HasWrongCount, fault_of, IsBadField, HasBadAmong, HasBadField, HasFaultByItself}
use Rattle.texts.specs.Inside.TraceLine.{IsLeastFaultByItself}
use Rattle.texts.proofs.FirstField.{one_word, same_after}

-- ---- one form

-- a word and a count of fields belong to one form
pub one_form : (shape : TraceShape) (form other : LineForm) → word_of form ≡ word_of other → length (fields_after shape form) ≡ length (fields_after shape other) → form ≡ other
one_form shape flow_line flow_line words counts = refl
one_form shape sid_line sid_line words counts = refl
one_form shape grant_line grant_line words counts = refl
one_form shape burst_line burst_line words counts = refl
one_form shape gap_line gap_line words counts = refl
one_form shape gap_to_line gap_to_line words counts = refl
one_form shape _ _ words counts = absurd (omega (arith, ap (λ word. get_or word 1 0) words, counts))

-- ---- as many fields as a form has

module _ (shape : TraceShape) (form : LineForm) (after : List (List ℕ)) (count : length after ≡ length (fields_after shape form)) where
  -- their first word is known
  pub not_unknown : IsUnknown (word_of form ∷ after) → ⊥
  not_unknown b = b.unknown form (one_word (word_of form ∷ after) b.word (word_of form) b.after after b.are refl)

  -- their count is right
  pub not_miscounted : HasWrongCount shape (word_of form ∷ after) → ⊥
  not_miscounted b =
      let word = one_word (word_of form ∷ after) (word_of b.form) (word_of form) b.after after b.are refl in
      b.wrong form word (ap length (same_after (word_of form ∷ after) (word_of b.form) (word_of form) b.after after b.are refl) ∙ count)

  -- a bad field is one of theirs
  pub bad_among : (kind : TraceKind) → HasBadField shape (word_of form ∷ after) kind → HasBadAmong (fields_after shape form) after kind
  bad_among kind b =
      let word = one_word (word_of form ∷ after) (word_of b.form) (word_of form) b.after after b.are refl in
      let rest = same_after (word_of form ∷ after) (word_of b.form) (word_of form) b.after after b.are refl in
      let same = one_form shape b.form form word (sym b.count ∙ ap length rest ∙ count) in
      let After : List (List ℕ) → Type 0 = λ after. HasBadAmong (fields_after shape b.form) after kind in
      let Form : LineForm → Type 0 = λ form. HasBadAmong (fields_after shape form) after kind in
      subst Form same (subst After rest b.bad)

-- ---- the first bad field

-- the first field that does not have the form of its place has a fault of this kind
abbrev pub IsFirstBad : List FieldForm → List (List ℕ) → TraceKind → Type 0
IsFirstBad (form ∷ forms) (field ∷ fields) kind =
    ((fault_of form ≡ kind) × IsBadField form field) ⊎ ((value : Value) × IsField form field value × IsFirstBad forms fields kind)
IsFirstBad _ _ kind = ⊥

-- the forms stand in the order of their faults' numbers
abbrev pub Ascend : List FieldForm → Type 0
Ascend (form ∷ next ∷ more) = (kind_number (fault_of form) ≤ kind_number (fault_of next)) × Ascend (next ∷ more)
Ascend _ = Unit {0}

-- it is a bad field
first_is_bad : (forms : List FieldForm) (fields : List (List ℕ)) (kind : TraceKind) → IsFirstBad forms fields kind → HasBadAmong forms fields kind
first_is_bad (form ∷ forms) (field ∷ fields) kind (inl bad) = inl bad
first_is_bad (form ∷ forms) (field ∷ fields) kind (inr more) = inr (first_is_bad forms fields kind more.2)
first_is_bad _ _ kind bad = absurd bad

-- those that follow a form have no lesser faults
none_less : (form : FieldForm) (forms : List FieldForm) (fields : List (List ℕ)) (kind : TraceKind) → Ascend (form ∷ forms) → HasBadAmong forms fields kind
    → kind_number (fault_of form) ≤ kind_number kind
none_less form (next ∷ more) (field ∷ fields) kind order (inl bad) = subst (λ kind. kind_number (fault_of form) ≤ kind_number kind) bad.0 order.0
none_less form (next ∷ more) (field ∷ fields) kind order (inr bad) =
    let rest = none_less next more fields kind order.1 bad in
    omega (arith, order.0, rest)
none_less form _ _ kind order bad = absurd bad

-- the forms after the first are in order too
Ascend-rest : (form : FieldForm) (forms : List FieldForm) → Ascend (form ∷ forms) → Ascend forms
Ascend-rest form [] order = tt
Ascend-rest form (next ∷ more) order = order.1

-- so that no bad field has a lesser fault than the first one
first_is_least : (forms : List FieldForm) (fields : List (List ℕ)) (kind other : TraceKind) → Ascend forms → IsFirstBad forms fields kind
    → HasBadAmong forms fields other → kind_number kind ≤ kind_number other
first_is_least (form ∷ forms) (field ∷ fields) kind other order (inl first) (inl bad) = omega (arith, ap kind_number (sym first.0 ∙ bad.0))
first_is_least (form ∷ forms) (field ∷ fields) kind other order (inl first) (inr bad) =
    subst (λ kind. kind_number kind ≤ kind_number other) first.0 (none_less form forms fields other order bad)
first_is_least (form ∷ forms) (field ∷ fields) kind other order (inr first) (inl bad) = absurd (bad.1 first.0 first.1)
first_is_least (form ∷ forms) (field ∷ fields) kind other order (inr first) (inr bad) =
    first_is_least forms fields kind other (Ascend-rest form forms order) first.2 bad
first_is_least _ _ kind other order first bad = absurd bad

-- the forms of a line's fields are in order
ascending : (shape : TraceShape) (form : LineForm) → Ascend (fields_after shape form)
ascending shape flow_line = (omega arith, (omega arith, (omega arith, tt)))
ascending shape sid_line = (omega arith, (omega arith, tt))
ascending shape grant_line = (omega arith, (omega arith, (omega arith, tt)))
ascending shape burst_line = (omega arith, (omega arith, (omega arith, tt)))
ascending shape gap_line = tt
ascending shape gap_to_line = (omega arith, tt)

-- ---- the least fault of a line by itself

-- of a line whose first bad field has it
pub least_bad : (shape : TraceShape) (form : LineForm) (after : List (List ℕ)) (kind : TraceKind) → length after ≡ length (fields_after shape form)
    → (HasBadField shape (word_of form ∷ after) kind → HasFaultByItself shape (word_of form ∷ after) kind) → IsFirstBad (fields_after shape form) after kind
    → IsLeastFaultByItself shape (word_of form ∷ after) kind
least_bad shape form after kind count same first = (
  same (record { form = form; after = after; are = refl; count = count; bad = first_is_bad (fields_after shape form) after kind first }),
  no_lesser,
) where
  at_least : (other : TraceKind) → HasBadField shape (word_of form ∷ after) other → kind_number kind ≤ kind_number other
  at_least other bad = first_is_least (fields_after shape form) after kind other (ascending shape form) first (bad_among shape form after count other bad)

  no_lesser : (other : TraceKind) → kind_number other < kind_number kind → HasFaultByItself shape (word_of form ∷ after) other → ⊥
  no_lesser UnknownLine less bad = not_unknown shape form after count bad
  no_lesser FieldCount less bad = not_miscounted shape form after count bad
  no_lesser BadNumber less bad = omega (arith, less, at_least BadNumber bad)
  no_lesser BadWord less bad = omega (arith, less, at_least BadWord bad)
  no_lesser NotHex less bad = omega (arith, less, at_least NotHex bad)
  no_lesser _ less bad = absurd bad

-- of a line with a wrong number of fields
pub least_count : (shape : TraceShape) (form : LineForm) (after : List (List ℕ)) → ((other : LineForm) → word_of form ≡ word_of other → length after ≢ length (fields_after shape other))
    → IsLeastFaultByItself shape (word_of form ∷ after) FieldCount
least_count shape form after wrong = (record { form = form; after = after; are = refl; wrong = wrong }, no_lesser) where
  no_lesser : (other : TraceKind) → kind_number other < 3 → HasFaultByItself shape (word_of form ∷ after) other → ⊥
  no_lesser UnknownLine less bad = bad.unknown form (one_word (word_of form ∷ after) bad.word (word_of form) bad.after after bad.are refl)
  no_lesser SetupLate less bad = absurd bad
  no_lesser _ less bad = omega (arith, less)
