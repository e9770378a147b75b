-- A line of a trace says one thing by itself, and then has no fault by itself.
use Rattle.std.proofs.Common.{◌≡◌, ℕ, suc, ◌≤◌, Bool, true, false, Option, Some, None, List, [], ◌∷◌, length, inl, inr, refl, sym, ap, ◌∙◌, subst, arith}
use Rattle.std.specs.Prelude.{◌-◌, codes}
use Rattle.lane.specs.declared.sids.SidRow.{SidRow}
use Rattle.lane.specs.declared.input.Input.{Input}
use Rattle.lane.specs.declared.input.Input.TheVariants.{Grant, Burst}
use Rattle.text_lines.specs.declared.fault.TraceKind.{TraceKind}
use Rattle.text_lines.specs.declared.fault.TraceKind.TheVariants.{UnknownLine, FieldCount, BadNumber, BadWord, NotHex}
use Rattle.texts.specs.declared.trace.trace_line.TraceLine.{TraceLine}
use Rattle.texts.specs.declared.trace.trace_line.TraceLine.TheVariants as line
use Rattle.texts.specs.Trace.Line.{TraceShape, FieldForm, number_in, check_word, hex_field, LineForm, flow_line, sid_line, grant_line, burst_line, gap_line, gap_to_line, word_of, fields_after, Value, a_number, a_check, some_bytes, SaysCheck, IsField, AreFields, gap_form, upto_values, form_of, values_of, HasRing, Carries, HasBadAmong, HasBadField, HasFaultByItself}
use Rattle.texts.proofs.FirstField.{one_word, same_after}
use Rattle.texts.proofs.OneJoinLine.{one_spelling}
use Rattle.texts.proofs.TraceFields.{one_form, not_unknown, not_miscounted, bad_among}

-- ---- no fault by itself

-- as many fields as forms
AreFields-count : (forms : List FieldForm) (fields : List (List ℕ)) (values : List Value) → AreFields forms fields values → length fields ≡ length forms
AreFields-count [] [] [] are = refl
AreFields-count (form ∷ forms) (field ∷ fields) (value ∷ values) are = ap suc (AreFields-count forms fields values are.1)
AreFields-count _ _ _ are = absurd are

-- fields that have their forms are not bad
none_is_bad : (forms : List FieldForm) (fields : List (List ℕ)) (values : List Value) (kind : TraceKind)
    → AreFields forms fields values → HasBadAmong forms fields kind → ⊥
none_is_bad [] [] [] kind are bad = absurd bad
none_is_bad (form ∷ forms) (field ∷ fields) (value ∷ values) kind are (inl bad) = bad.1 value are.0
none_is_bad (form ∷ forms) (field ∷ fields) (value ∷ values) kind are (inr bad) = none_is_bad forms fields values kind are.1 bad
none_is_bad _ _ _ kind are bad = absurd are

-- what carries something has no fault by itself
pub carried_without_fault : (shape : TraceShape) (fields : List (List ℕ)) (line : TraceLine) (kind : TraceKind)
    → Carries shape fields line → HasFaultByItself shape fields kind → ⊥
carried_without_fault shape fields line kind a fault = faultless kind (subst (λ fields. HasFaultByItself shape fields kind) a.are fault) where
  count : length a.after ≡ length (fields_after shape (form_of line))
  count = AreFields-count (fields_after shape (form_of line)) a.after (values_of line) a.values

  no_bad : (kind : TraceKind) → HasBadField shape (word_of (form_of line) ∷ a.after) kind → ⊥
  no_bad kind bad = none_is_bad (fields_after shape (form_of line)) a.after (values_of line) kind a.values (bad_among shape (form_of line) a.after count kind bad)

  faultless : (kind : TraceKind) → HasFaultByItself shape (word_of (form_of line) ∷ a.after) kind → ⊥
  faultless UnknownLine fault = not_unknown shape (form_of line) a.after count fault
  faultless FieldCount fault = not_miscounted shape (form_of line) a.after count fault
  faultless BadNumber fault = no_bad BadNumber fault
  faultless BadWord fault = no_bad BadWord fault
  faultless NotHex fault = no_bad NotHex fault
  faultless _ fault = absurd fault

-- ---- one thing

-- a word says one thing of a check
one_check : (word : List ℕ) (right other : Bool) → SaysCheck word right → SaysCheck word other → right ≡ other
one_check word true true a b = refl
one_check word false false a b = refl
one_check word true false a b = let no : codes "ok" ≡ codes "bad" = sym a ∙ b in cc no
one_check word false true a b = let no : codes "bad" ≡ codes "ok" = sym a ∙ b in cc no

one_value : (form : FieldForm) (field : List ℕ) (value other : Value) → IsField form field value → IsField form field other → value ≡ other
one_value (number_in least most) field (a_number n) (a_number m) a b = ap a_number (sym a.0.value ∙ b.0.value)
one_value (number_in least most) field (a_number n) _ a b = absurd b
one_value check_word field (a_check right) (a_check other) a b = ap a_check (one_check field right other a b)
one_value check_word field (a_check right) _ a b = absurd b
one_value hex_field field (some_bytes bytes) (some_bytes other) a b = ap some_bytes (one_spelling field bytes other a b)
one_value hex_field field (some_bytes bytes) _ a b = absurd b
one_value _ field _ _ a b = absurd a

one_list : (forms : List FieldForm) (fields : List (List ℕ)) (values others : List Value)
    → AreFields forms fields values → AreFields forms fields others → values ≡ others
one_list [] [] [] [] a b = refl
one_list [] [] [] (other ∷ others) a b = absurd b
one_list (form ∷ forms) (field ∷ fields) (value ∷ values) (other ∷ others) a b =
    let first : value ≡ other = one_value form field value other a.0 b.0 in
    let rest : values ≡ others = one_list forms fields values others a.1 b.1 in
    cc
one_list (form ∷ forms) (field ∷ fields) (value ∷ values) [] a b = absurd b
one_list _ _ _ _ a b = absurd a

-- what kind of thing a line says, and a line of this form
abbrev said_by : TraceLine → ℕ
said_by (line.Flow flow_record) = 0
said_by (line.Sid row) = 1
said_by (line.Input channel input) = 2
said_by (line.Gap decision) = 3

abbrev said_in : LineForm → ℕ
said_in flow_line = 0
said_in sid_line = 1
said_in grant_line = 2
said_in burst_line = 2
said_in gap_line = 3
said_in gap_to_line = 3

said_in_gap : (upto : Option ℕ) → said_in (gap_form upto) ≡ 3
said_in_gap None = refl
said_in_gap (Some number) = refl

said_in-by : (line : TraceLine) → said_in (form_of line) ≡ said_by line
said_in-by (line.Flow flow_record) = refl
said_in-by (line.Sid row) = refl
said_in-by (line.Input channel (Grant number sid bytes)) = refl
said_in-by (line.Input channel (Burst grant hcs_ok bytes)) = refl
said_in-by (line.Gap decision) = said_in_gap decision.upto

same_upto : (upto other : Option ℕ) → upto_values upto ≡ upto_values other → upto ≡ other
same_upto None None values = refl
same_upto (Some n) (Some m) values = cc
same_upto _ _ values = cc

-- values of one form are those of one line
same_line : (ring : ℕ) (a b : TraceLine) → form_of a ≡ form_of b → values_of a ≡ values_of b → HasRing ring a → HasRing ring b → a ≡ b
same_line ring (line.Flow r) (line.Flow s) forms values there here =
    let make : ℕ → ℕ → ℕ → ℕ → ℕ → TraceLine = λ sfid first window clusters ring.
    line.Flow (record { sfid = sfid; first = first; window = window; clusters = clusters; ring = ring }) in
    let ring_is : r.ring ≡ s.ring = there ∙ sym here in
    let same : make r.sfid r.first r.window r.clusters r.ring ≡ make s.sfid s.first s.window s.clusters s.ring = cc in
    same
same_line ring (line.Sid r) (line.Sid s) forms values there here =
    let make : ℕ → ℕ → ℕ → TraceLine = λ channel sid flow. line.Sid (record { channel = channel; sid = sid; flow = flow }) in
    let same : make r.channel r.sid r.flow ≡ make s.channel s.sid s.flow = cc in
    same
same_line ring (line.Input channel (Grant n sid bytes)) (line.Input other (Grant m id size)) forms values there here = cc
same_line ring (line.Input channel (Burst n right bytes)) (line.Input other (Burst m wrong digits)) forms values there here = cc
same_line ring (line.Input channel (Grant n sid bytes)) (line.Input other (Burst m wrong digits)) forms values there here = cc
same_line ring (line.Input channel (Burst n right bytes)) (line.Input other (Grant m id size)) forms values there here = cc
same_line ring (line.Gap d) (line.Gap e) forms values there here =
    let make : ℕ → Option ℕ → TraceLine = λ flow upto. line.Gap (record { flow = flow; upto = upto }) in
    let upto : d.upto ≡ e.upto = same_upto d.upto e.upto cc in
    let same : make d.flow d.upto ≡ make e.flow e.upto = cc in
    same
same_line ring a b forms values there here = absurd (omega (arith, sym (said_in-by a) ∙ ap said_in forms ∙ said_in-by b))

-- the fields of a line say one thing
pub one_line : (shape : TraceShape) (fields : List (List ℕ)) (line other : TraceLine) → Carries shape fields line → Carries shape fields other → line ≡ other
one_line shape fields line other a b =
    let word = one_word fields (word_of (form_of line)) (word_of (form_of other)) a.after b.after a.are b.are in
    let after = same_after fields (word_of (form_of line)) (word_of (form_of other)) a.after b.after a.are b.are in
    let count = sym (AreFields-count (fields_after shape (form_of line)) a.after (values_of line) a.values)
    ∙ ap length after
    ∙ AreFields-count (fields_after shape (form_of other)) b.after (values_of other) b.values in
    let form = one_form shape (form_of line) (form_of other) word count in
    let After : List (List ℕ) → Type 0 = λ after. AreFields (fields_after shape (form_of line)) after (values_of line) in
    let Form : LineForm → Type 0 = λ form. AreFields (fields_after shape form) b.after (values_of line) in
    let again : AreFields (fields_after shape (form_of other)) b.after (values_of line) = subst Form form (subst After after a.values) in
    same_line shape.ring line other form (one_list (fields_after shape (form_of other)) b.after (values_of line) (values_of other) again b.values) a.ring_is b.ring_is

-- ---- what a line can say

-- the channel and the service identifier of a row lie in their ranges
pub sid_in_range : (shape : TraceShape) (fields : List (List ℕ)) (row : SidRow) → Carries shape fields (line.Sid row) → (row.channel ≤ shape.channels - 1) × (row.sid ≤ 16383)
sid_in_range shape fields row a = ranges a.after a.values where
  ranges : (after : List (List ℕ)) → AreFields (fields_after shape sid_line) after (values_of (line.Sid row)) → (row.channel ≤ shape.channels - 1) × (row.sid ≤ 16383)
  ranges (channel ∷ sid ∷ more) are = (are.0.0.within, are.1.0.0.within)
  ranges (channel ∷ []) are = absurd are.1
  ranges [] are = absurd are

-- and so does the channel of what came in
pub channel_in_range : (shape : TraceShape) (fields : List (List ℕ)) (channel : ℕ) (input : Input) → Carries shape fields (line.Input channel input) → channel ≤ shape.channels - 1
channel_in_range shape fields channel (Grant number sid bytes) a = range a.after a.values where
  range : (after : List (List ℕ)) → AreFields (fields_after shape grant_line) after (values_of (line.Input channel (Grant number sid bytes))) → channel ≤ shape.channels - 1
  range (first ∷ more) are = are.0.0.within
  range [] are = absurd are
channel_in_range shape fields channel (Burst grant hcs_ok bytes) a = range a.after a.values where
  range : (after : List (List ℕ)) → AreFields (fields_after shape burst_line) after (values_of (line.Input channel (Burst grant hcs_ok bytes))) → channel ≤ shape.channels - 1
  range (first ∷ more) are = are.0.0.within
  range [] are = absurd are
