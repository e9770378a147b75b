-- A trace that may have more channels and flows says the same by lines that need no more.
use Rattle.std.proofs.Common.{◌≡◌, ℕ, ◌≤◌, ◌-◌, ◌⊎◌, inl, inr, List, [], ◌∷◌, ◌++◌, refl, sym, ap, subst, ◌∙◌, arith}
use Rattle.flow_records.specs.declared.record.FlowRecord.{FlowRecord}
use Rattle.lane.specs.declared.sids.SidRow.{SidRow}
use Rattle.receiver.specs.Entries.{Entry, came, decided}
use Rattle.text_lines.specs.Lines.{fields_of}
use Rattle.text_lines.specs.Format.{IsRead, no_lines, skipped, taken}
use Rattle.texts.specs.declared.trace.trace_line.TraceLine.{TraceLine}
use Rattle.texts.specs.declared.trace.trace_line.TraceLine.TheVariants as line
use Rattle.texts.specs.Trace.Line.{TraceShape, FieldForm, number_in, check_word, hex_field, LineForm, flow_line, sid_line, grant_line, burst_line, gap_line, gap_to_line, fields_after, Value, a_number, a_check, some_bytes, IsField, AreFields, form_of, values_of, Carries, HasRing}
use Rattle.texts.specs.Trace.Place.{Said, nothing_said_in, with_line, AddsLine, trace_format}
use Rattle.texts.proofs.OneTrace.{trace_is_determined}
use Rattle.texts.proofs.OneTraceLine.{one_line}

-- ---- fields

-- what a field says of one form, it says of another
abbrev SaysAlso : FieldForm → FieldForm → Type 0
SaysAlso form other = (field : List ℕ) (value : Value) → IsField form field value → IsField other field value

abbrev SayAlso : List FieldForm → List FieldForm → Type 0
SayAlso [] [] = Unit {0}
SayAlso (form ∷ forms) (other ∷ others) = SaysAlso form other × SayAlso forms others
SayAlso _ _ = ⊥

itself : (form : FieldForm) → SaysAlso form form
itself form field value is = is

-- a number up to the least of two is one up to the other
greater : (least most more : ℕ) → most ≤ more → SaysAlso (number_in least most) (number_in least more)
greater least most more within field (a_number number) is =
    (record { digits = is.0.digits; value = is.0.value; within = (let below = is.0.within in omega (arith, below, within)) }, is.1)
greater least most more within field (a_check right) is = absurd is
greater least most more within field (some_bytes bytes) is = absurd is

fields_also : (forms others : List FieldForm) → SayAlso forms others → (fields : List (List ℕ)) (values : List Value) → AreFields forms fields values
    → AreFields others fields values
fields_also [] [] also [] [] are = tt
fields_also (form ∷ forms) (other ∷ others) also (field ∷ fields) (value ∷ values) are =
    (also.0 field value are.0, fields_also forms others also.1 fields values are.1)
fields_also [] (other ∷ others) also fields values are = absurd also
fields_also (form ∷ forms) [] also fields values are = absurd also
fields_also _ _ also _ _ are = absurd are

-- ---- lines

-- a trace of the second shape may have what one of the first may have
pub record IsWider (shape other : TraceShape) : Type 0 where
  pub channels : shape.channels ≤ other.channels
  pub flows : shape.flows ≤ other.flows
  pub ring : shape.ring ≡ other.ring

module _ (shape other : TraceShape) (wider : IsWider shape other) where
  channel_also : SaysAlso (number_in 0 (shape.channels - 1)) (number_in 0 (other.channels - 1))
  channel_also = let few = wider.channels in greater 0 (shape.channels - 1) (other.channels - 1) (omega (arith, few))

  flow_also : SaysAlso (number_in 0 (shape.flows - 1)) (number_in 0 (other.flows - 1))
  flow_also = let few = wider.flows in greater 0 (shape.flows - 1) (other.flows - 1) (omega (arith, few))

  form_also : (form : LineForm) → SayAlso (fields_after shape form) (fields_after other form)
  form_also flow_line = (itself (number_in 0 4294967295), (itself (number_in 0 8191), (itself (number_in 1 4096), (itself (number_in 1 8), tt))))
  form_also sid_line = (channel_also, (itself (number_in 0 16383), (flow_also, tt)))
  form_also grant_line = (channel_also, (itself (number_in 0 4294967295), (itself (number_in 0 16383), (itself (number_in 0 4294967295), tt))))
  form_also burst_line = (channel_also, (itself (number_in 0 4294967295), (itself check_word, (itself hex_field, tt))))
  form_also gap_line = (flow_also, tt)
  form_also gap_to_line = (flow_also, (itself (number_in 0 8191), tt))

  carried_also : (fields : List (List ℕ)) (line : TraceLine) → Carries shape fields line → Carries other fields line
  carried_also fields line carries = record {
    after = carries.after;
    are = carries.are;
    values = fields_also (fields_after shape (form_of line)) (fields_after other (form_of line)) (form_also (form_of line)) carries.after (values_of line) carries.values;
    ring_is = subst (λ (ring : ℕ). HasRing ring line) wider.ring carries.ring_is;
  }

-- ---- what lines say

-- two say the same, of which the second may be wider
pub record SayTheSame (said other : Said) : Type 0 where
  pub wider : IsWider said.shape other.shape
  pub flows : said.flows ≡ other.flows
  pub sids : said.sids ≡ other.sids
  pub entries : said.entries ≡ other.entries

same_with : (said other : Said) (one : TraceLine) → SayTheSame said other → SayTheSame (with_line said one) (with_line other one)
same_with said other (line.Flow flow_record) same =
    record { wider = same.wider; flows = ap (λ (t : List FlowRecord). t ++ flow_record ∷ []) same.flows; sids = same.sids; entries = same.entries }
same_with said other (line.Sid row) same =
    record { wider = same.wider; flows = same.flows; sids = ap (λ (t : List SidRow). t ++ row ∷ []) same.sids; entries = same.entries }
same_with said other (line.Input channel input) same =
    record { wider = same.wider; flows = same.flows; sids = same.sids; entries = ap (λ (t : List Entry). t ++ came channel input ∷ []) same.entries }
same_with said other (line.Gap decision) same =
    record { wider = same.wider; flows = same.flows; sids = same.sids; entries = ap (λ (t : List Entry). t ++ decided decision ∷ []) same.entries }

-- a line adds the same to both
same_added : (said other : Said) (fields : List (List ℕ)) (after more : Said) → SayTheSame said other → AddsLine said fields after → AddsLine other fields more
    → SayTheSame after more
same_added said other fields after more same adds also =
    let carries = carried_also said.shape other.shape same.wider fields adds.line adds.carries in
    let one = one_line other.shape fields adds.line also.line carries also.carries in
    let added : more ≡ with_line other adds.line = also.added ∙ ap (with_line other) (sym one) in
    subst (λ (s : Said). SayTheSame s more) (sym adds.added)
    (subst (SayTheSame (with_line said adds.line)) (sym added) (same_with said other adds.line same))

-- a line without fields changes nothing, and one with fields is taken
abbrev ReadsLine : Said → List ℕ → Said → Type 0
ReadsLine before line after = ((fields_of line ≡ []) × (after ≡ before)) ⊎ trace_format.Takes before (fields_of line) after

read_none : {before after : Said} → IsRead trace_format before [] after → after ≡ before
read_none no_lines = refl

read_first : {before after : Said} {line : List ℕ} {lines : List (List ℕ)} → IsRead trace_format before (line ∷ lines) after
    → (between : Said) × ReadsLine before line between × IsRead trace_format between lines after
read_first (skipped none more) = (_, inl (none, refl), more)
read_first (taken takes more) = (_, inr takes, more)

same_line : (said other : Said) (line : List ℕ) (after more : Said) → SayTheSame said other → ReadsLine said line after → ReadsLine other line more
    → SayTheSame after more
same_line said other line after more same (inl a) (inl b) =
    subst (λ (s : Said). SayTheSame s more) (sym a.1) (subst (SayTheSame said) (sym b.1) same)
same_line said other line after more same (inl a) (inr b) =
    absurd (trace_is_determined.takes_fields other more (subst (λ (fields : List (List ℕ)). trace_format.Takes other fields more) a.0 b))
same_line said other line after more same (inr a) (inl b) =
    absurd (trace_is_determined.takes_fields said after (subst (λ (fields : List (List ℕ)). trace_format.Takes said fields after) b.0 a))
same_line said other line after more same (inr a) (inr b) = same_added said other (fields_of line) after more same a.0 b.0

same_lines : (lines : List (List ℕ)) (said other after more : Said) → SayTheSame said other → IsRead trace_format said lines after
    → IsRead trace_format other lines more → SayTheSame after more
same_lines [] said other after more same a b =
    subst (λ (s : Said). SayTheSame s more) (sym (read_none a)) (subst (SayTheSame said) (sym (read_none b)) same)
same_lines (line ∷ lines) said other after more same a b =
    let first = read_first a in
    let again = read_first b in
    same_lines lines first.0 again.0 after more (same_line said other line first.0 again.0 same first.1 again.1) first.2 again.2

-- **Lines say the same** to a reader of a narrow trace and to one of a wider.
pub said_the_same : (shape other : TraceShape) → shape.channels ≤ other.channels → shape.flows ≤ other.flows → shape.ring ≡ other.ring
    → (lines : List (List ℕ)) (after more : Said) → IsRead trace_format (nothing_said_in shape) lines after → IsRead trace_format (nothing_said_in other) lines more
    → SayTheSame after more
said_the_same shape other channels flows ring lines after more =
    same_lines lines (nothing_said_in shape) (nothing_said_in other) after more
    (record { wider = record { channels = channels; flows = flows; ring = ring }; flows = refl; sids = refl; entries = refl })
