-- The lines of a trace leave nothing open.
use Rattle.std.proofs.Common.{◌≡◌, ℕ, ◌<◌, ◌≤◌, ⊎_elim, List, [], ◌∷◌, get_or, refl, sym, ap, ◌∙◌, arith}
use Rattle.std.proofs.lemmas.Bool.{cases_lt}
use Rattle.text_lines.specs.declared.fault.TraceKind.{TraceKind}
use Rattle.text_lines.specs.declared.fault.TraceKind.TheVariants.{UnknownLine, SetupLate, FieldCount, BadNumber, BadWord, NotHex, UnknownFlow, TooManyFlows, SameFlow, SameSid, TooShort, PointerPast}
use Rattle.text_lines.specs.Kinds.{kind_number, IsLeastFault}
use Rattle.text_lines.proofs.LinesReadOneWay.{IsDetermined}
use Rattle.texts.specs.Trace.Line.{word_of, form_of}
use Rattle.texts.specs.Trace.Place.{Said, with_line, AddsLine, SaysFaulty, HasLineFault, trace_format}
use Rattle.texts.proofs.FirstField.{none_or_some}
use Rattle.texts.proofs.OneTraceLine.{one_line}

-- ---- one least fault

-- the kind of this number
abbrev kind_at : ℕ → TraceKind
kind_at number =
    get_or
    (
    UnknownLine ∷ UnknownLine ∷ SetupLate ∷ FieldCount ∷ BadNumber ∷ BadWord ∷ NotHex ∷ UnknownFlow ∷ TooManyFlows ∷ SameFlow ∷ SameSid
    ∷ TooShort ∷ PointerPast ∷ []
    )
    number UnknownLine

kind_at-number : (kind : TraceKind) → kind_at (kind_number kind) ≡ kind
kind_at-number UnknownLine = refl
kind_at-number SetupLate = refl
kind_at-number FieldCount = refl
kind_at-number BadNumber = refl
kind_at-number BadWord = refl
kind_at-number NotHex = refl
kind_at-number UnknownFlow = refl
kind_at-number TooManyFlows = refl
kind_at-number SameFlow = refl
kind_at-number SameSid = refl
kind_at-number TooShort = refl
kind_at-number PointerPast = refl

-- the least of some faults is one kind
pub one_least : (Has : TraceKind → Type 0) (kind other : TraceKind) → IsLeastFault Has kind → IsLeastFault Has other → kind ≡ other
one_least Has kind other a b =
    ⊎_elim
    (λ (less : kind_number kind < kind_number other). absurd (b.1 kind less a.0))
    (λ (least : kind_number other ≤ kind_number kind). ⊎_elim
    (λ (less : kind_number other < kind_number kind). absurd (a.1 other less b.0))
    (λ (most : kind_number kind ≤ kind_number other).
    let same : kind_number kind ≡ kind_number other = omega arith in
    sym (kind_at-number kind) ∙ ap kind_at same ∙ kind_at-number other)
    (cases_lt (kind_number other) (kind_number kind)))
    (cases_lt (kind_number kind) (kind_number other))

-- ---- one line

-- a line makes one thing of what the lines above say
one_state : (before : Said) (fields : List (List ℕ)) (after other : Said) → AddsLine before fields after → AddsLine before fields other
    → after ≡ other
one_state before fields after other a b = a.added ∙ ap (with_line before) (one_line before.shape fields a.line b.line a.carries b.carries)
    ∙ sym b.added

-- no fields say anything
no_fields_say : (before after : Said) → AddsLine before [] after → ⊥
no_fields_say before after adds = none_or_some [] (word_of (form_of adds.line)) adds.carries.after refl adds.carries.are

no_fields_faulty : (before : Said) (kind : TraceKind) → SaysFaulty before [] kind → ⊥
no_fields_faulty before kind says = none_or_some [] (word_of (form_of says.line)) says.carries.after refl says.carries.are

-- or have a fault
no_fields_fault : (before : Said) (kind : TraceKind) → HasLineFault before [] kind → ⊥
no_fields_fault before UnknownLine fault = none_or_some [] fault.word fault.after refl fault.are
no_fields_fault before SetupLate fault = none_or_some [] (word_of fault.0.form) fault.0.after refl fault.0.are
no_fields_fault before FieldCount fault = none_or_some [] (word_of fault.form) fault.after refl fault.are
no_fields_fault before BadNumber fault = none_or_some [] (word_of fault.form) fault.after refl fault.are
no_fields_fault before BadWord fault = none_or_some [] (word_of fault.form) fault.after refl fault.are
no_fields_fault before NotHex fault = none_or_some [] (word_of fault.form) fault.after refl fault.are
no_fields_fault before UnknownFlow fault = no_fields_faulty before UnknownFlow fault
no_fields_fault before TooManyFlows fault = no_fields_faulty before TooManyFlows fault
no_fields_fault before SameFlow fault = no_fields_faulty before SameFlow fault
no_fields_fault before SameSid fault = no_fields_faulty before SameSid fault
no_fields_fault before TooShort fault = fault
no_fields_fault before PointerPast fault = fault

pub trace_is_determined : IsDetermined trace_format
trace_is_determined = record {
  one_state = λ before fields after other a b. one_state before fields after other a.0 b.0;
  one_kind = λ before fields. one_least (HasLineFault before fields);
  not_both = λ before fields after kind takes fault. takes.1 kind fault.0;
  takes_fields = λ before after takes. no_fields_say before after takes.0;
  faults_have_fields = λ before kind fault. no_fields_fault before kind fault.0;
}
