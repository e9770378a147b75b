-- A line of a trace in its place: it has no fault there, or this is the least of its faults.
use Rattle.std.proofs.Common.{◌≡◌, ℕ, ◌<◌, ◌≤◌, ◌⊎◌, inl, inr, ⊎_elim, List, ◌∷◌, length, refl, ap, ◌∙◌, subst, arith}
use Rattle.text_lines.specs.declared.fault.TraceKind.{TraceKind}
use Rattle.text_lines.specs.declared.fault.TraceKind.TheVariants.{UnknownLine, SetupLate, FieldCount, BadNumber, BadWord, NotHex, UnknownFlow, TooManyFlows, SameFlow, SameSid, TooShort, PointerPast}
use Rattle.text_lines.specs.Kinds.{kind_number, IsLeastFault}
use Rattle.texts.specs.declared.trace.trace_line.TraceLine.{TraceLine}
use Rattle.texts.specs.Trace.Line.{flow_line, sid_line, word_of, Carries}
use Rattle.texts.specs.Trace.Place.{Said, IsSetupLine, HasFaultAmong, SaysFaulty, HasLineFault}
use Rattle.texts.specs.Inside.TraceLine.{IsLeastFaultByItself}
use Rattle.texts.proofs.FirstField.{one_word}
use Rattle.texts.proofs.OneTraceLine.{one_line, carried_without_fault}

-- what a line without faults says has none after the lines above
pub none_among : (said : Said) (fields : List (List ℕ)) (line : TraceLine) → Carries said.shape fields line
    → ((kind : TraceKind) → ¬ (HasLineFault said fields kind))
    → (kind : TraceKind) → HasFaultAmong said line kind → ⊥
none_among said fields line carries faultless UnknownFlow fault = faultless UnknownFlow (record { line = line; carries = carries; faulty = fault })
none_among said fields line carries faultless TooManyFlows fault = faultless TooManyFlows (record { line = line; carries = carries; faulty = fault })
none_among said fields line carries faultless SameFlow fault = faultless SameFlow (record { line = line; carries = carries; faulty = fault })
none_among said fields line carries faultless SameSid fault = faultless SameSid (record { line = line; carries = carries; faulty = fault })
none_among said fields line carries faultless _ fault = absurd fault

-- the line sets up something, and stands after an input line
abbrev pub IsLate : Said → List (List ℕ) → Type 0
IsLate said fields = IsSetupLine fields × (0 < length said.entries)

-- a line is late if its first word sets up something and a line above is an input line
pub late_by_word : (said : Said) (word : List ℕ) (after : List (List ℕ)) → (word ≡ word_of flow_line) ⊎ (word ≡ word_of sid_line)
    → 0 < length said.entries
    → IsLate said (word ∷ after)
late_by_word said word after (inl is) some =
    (record { form = flow_line; after = after; are = ap (λ word. word ∷ after) is; sets_up = inl refl }, some)
late_by_word said word after (inr is) some =
    (record { form = sid_line; after = after; are = ap (λ word. word ∷ after) is; sets_up = inr refl }, some)

-- and only then
pub word_of_late : (word : List ℕ) (after : List (List ℕ)) → IsSetupLine (word ∷ after) → (word ≡ word_of flow_line) ⊎ (word ≡ word_of sid_line)
word_of_late word after is =
    let first = one_word (word ∷ after) word (word_of is.form) after is.after refl is.are in
    ⊎_elim (λ flow. inl (first ∙ ap word_of flow)) (λ sid. inr (first ∙ ap word_of sid)) is.sets_up

module _ (said : Said) (fields : List (List ℕ)) where
  -- a late line is refused as such: only a word that begins no line is a lesser fault
  pub late_is_least : IsLate said fields → IsLeastFault (HasLineFault said fields) SetupLate
  late_is_least late = (late, lesser) where
    lesser : (other : TraceKind) → kind_number other < 2 → HasLineFault said fields other → ⊥
    lesser UnknownLine less fault =
        fault.unknown late.0.form (one_word fields fault.word (word_of late.0.form) fault.after late.0.after fault.are late.0.are)
    lesser _ less fault = omega (arith, less)

module _ (said : Said) (fields : List (List ℕ)) (early : IsLate said fields → ⊥) where
  -- the least fault of a line by itself is its least fault
  least_of_few : (kind : TraceKind) → kind_number kind ≤ 6 → IsLeastFaultByItself said.shape fields kind → (other : TraceKind)
      → kind_number other < kind_number kind → HasLineFault said fields other → ⊥
  least_of_few kind few least UnknownLine less fault = least.1 UnknownLine less fault
  least_of_few kind few least SetupLate less fault = early fault
  least_of_few kind few least FieldCount less fault = least.1 FieldCount less fault
  least_of_few kind few least BadNumber less fault = least.1 BadNumber less fault
  least_of_few kind few least BadWord less fault = least.1 BadWord less fault
  least_of_few kind few least NotHex less fault = least.1 NotHex less fault
  least_of_few kind few least _ less fault = omega (arith, less, few)

  pub least_by_itself : (kind : TraceKind) → IsLeastFaultByItself said.shape fields kind → IsLeastFault (HasLineFault said fields) kind
  least_by_itself UnknownLine least = (least.0, least_of_few UnknownLine (omega arith) least)
  least_by_itself FieldCount least = (least.0, least_of_few FieldCount (omega arith) least)
  least_by_itself BadNumber least = (least.0, least_of_few BadNumber (omega arith) least)
  least_by_itself BadWord least = (least.0, least_of_few BadWord (omega arith) least)
  least_by_itself NotHex least = (least.0, least_of_few NotHex (omega arith) least)
  least_by_itself _ least = absurd least.0

  module _ (line : TraceLine) (carries : Carries said.shape fields line) where
    -- a fault of what the line says is one of this line
    faulty_here : (kind : TraceKind) → SaysFaulty said fields kind → HasFaultAmong said line kind
    faulty_here kind says = subst (λ line. HasFaultAmong said line kind) (one_line said.shape fields says.line line says.carries carries) says.faulty

    -- the line has no fault that what it says has not
    no_other : (Counts : TraceKind → Type 0) → ((kind : TraceKind) → Counts kind → ¬ (HasFaultAmong said line kind))
        → (kind : TraceKind) → Counts kind → HasLineFault said fields kind → ⊥
    no_other Counts none UnknownLine counts fault = carried_without_fault said.shape fields line UnknownLine carries fault
    no_other Counts none SetupLate counts fault = early fault
    no_other Counts none FieldCount counts fault = carried_without_fault said.shape fields line FieldCount carries fault
    no_other Counts none BadNumber counts fault = carried_without_fault said.shape fields line BadNumber carries fault
    no_other Counts none BadWord counts fault = carried_without_fault said.shape fields line BadWord carries fault
    no_other Counts none NotHex counts fault = carried_without_fault said.shape fields line NotHex carries fault
    no_other Counts none UnknownFlow counts fault = none UnknownFlow counts (faulty_here UnknownFlow fault)
    no_other Counts none TooManyFlows counts fault = none TooManyFlows counts (faulty_here TooManyFlows fault)
    no_other Counts none SameFlow counts fault = none SameFlow counts (faulty_here SameFlow fault)
    no_other Counts none SameSid counts fault = none SameSid counts (faulty_here SameSid fault)
    no_other Counts none TooShort counts fault = fault
    no_other Counts none PointerPast counts fault = fault

    -- a line has no fault if what it says has none
    pub faultless_in_place : ((kind : TraceKind) → ¬ (HasFaultAmong said line kind)) → (kind : TraceKind) → ¬ (HasLineFault said fields kind)
    faultless_in_place none kind = no_other (λ _. Unit {0}) (λ kind counts. none kind) kind tt

    says_faulty : (kind : TraceKind) → HasFaultAmong said line kind → SaysFaulty said fields kind
    says_faulty kind fault = record { line = line; carries = carries; faulty = fault }

    -- the least fault of what a line says is its least fault
    pub least_in_place : (kind : TraceKind) → IsLeastFault (HasFaultAmong said line) kind → IsLeastFault (HasLineFault said fields) kind
    least_in_place UnknownFlow least = (says_faulty UnknownFlow least.0, no_other (λ other. kind_number other < 7) least.1)
    least_in_place TooManyFlows least = (says_faulty TooManyFlows least.0, no_other (λ other. kind_number other < 8) least.1)
    least_in_place SameFlow least = (says_faulty SameFlow least.0, no_other (λ other. kind_number other < 9) least.1)
    least_in_place SameSid least = (says_faulty SameSid least.0, no_other (λ other. kind_number other < 10) least.1)
    least_in_place _ least = absurd least.0
