-- Lines of a format that leaves nothing open are read in one way, or have one first faulty line,
-- and never both.
use Rattle.std.proofs.Common.{◌≡◌, ℕ, suc, ◌⊎◌, inl, inr, List, [], ◌∷◌, ◌++◌, length, refl, sym, ap, ◌∙◌, subst, arith}
use Rattle.text_lines.specs.declared.fault.TraceKind.{TraceKind}
use Rattle.text_lines.specs.declared.fault.TraceFault.{TraceFault}
use Rattle.text_lines.specs.Lines.{fields_of}
use Rattle.text_lines.specs.Format.{Format, IsRead, no_lines, skipped, taken, IsFirstFaultyLine}

-- The two relations of a format are each determined and exclude each other, and neither speaks of a
-- line without fields.
pub record IsDetermined {State : Type 0} (format : Format State) : Type 0 where
  pub one_state : (before : State) (fields : List (List ℕ)) (after other : State) → format.Takes before fields after → format.Takes before fields other → after ≡ other
  pub one_kind : (before : State) (fields : List (List ℕ)) (kind other : TraceKind) → format.HasFault before fields kind → format.HasFault before fields other → kind ≡ other
  pub not_both : (before : State) (fields : List (List ℕ)) (after : State) (kind : TraceKind) → format.Takes before fields after → format.HasFault before fields kind → ⊥
  pub takes_fields : (before after : State) → format.Takes before [] after → ⊥
  pub faults_have_fields : (before : State) (kind : TraceKind) → format.HasFault before [] kind → ⊥

-- a line without fields changes nothing, and one with fields is taken
abbrev ReadsLine : {State : Type 0} → Format State → State → List ℕ → State → Type 0
ReadsLine format before line after = ((fields_of line ≡ []) × (after ≡ before)) ⊎ format.Takes before (fields_of line) after

-- no lines change nothing
read_none : {State : Type 0} {format : Format State} {before after : State} → IsRead format before [] after → after ≡ before
read_none no_lines = refl

-- lines are read from the first one on
read_first : {State : Type 0} {format : Format State} {before after : State} {line : List ℕ} {lines : List (List ℕ)}
    → IsRead format before (line ∷ lines) after → (between : State) × ReadsLine format before line between × IsRead format between lines after
read_first (skipped none more) = (_, inl (none, refl), more)
read_first (taken takes more) = (_, inr takes, more)

-- faults of one line and one kind are the same
same_fault : (fault other : TraceFault) → fault.line ≡ other.line → fault.kind ≡ other.kind → fault ≡ other
same_fault fault other line kind =
    let make : ℕ → TraceKind → TraceFault = λ line kind. record { line = line; kind = kind } in
    ap (λ line. make line fault.kind) line ∙ ap (make other.line) kind

module _ {State : Type 0} (format : Format State) (law : IsDetermined format) where
  -- a line makes one state
  one_step : (before : State) (line : List ℕ) (after other : State) → ReadsLine format before line after → ReadsLine format before line other → after ≡ other
  one_step before line after other (inl a) (inl b) = a.1 ∙ sym b.1
  one_step before line after other (inl a) (inr b) = absurd (law.takes_fields before other (subst (λ fields. format.Takes before fields other) a.0 b))
  one_step before line after other (inr a) (inl b) = absurd (law.takes_fields before after (subst (λ fields. format.Takes before fields after) b.0 a))
  one_step before line after other (inr a) (inr b) = law.one_state before (fields_of line) after other a b

  -- or has a fault, and not both
  no_step_at_fault : (before : State) (line : List ℕ) (after : State) (kind : TraceKind) → ReadsLine format before line after → format.HasFault before (fields_of line) kind → ⊥
  no_step_at_fault before line after kind (inl a) fault = law.faults_have_fields before kind (subst (λ fields. format.HasFault before fields kind) a.0 fault)
  no_step_at_fault before line after kind (inr a) fault = law.not_both before (fields_of line) after kind a fault

  -- lines are read in one way
  pub one_reading : (lines : List (List ℕ)) (before after other : State) → IsRead format before lines after → IsRead format before lines other → after ≡ other
  one_reading [] before after other a b = read_none a ∙ sym (read_none b)
  one_reading (line ∷ lines) before after other a b =
      let first = read_first a in
      let again = read_first b in
      let same = one_step before line first.0 again.0 first.1 again.1 in
      one_reading lines again.0 after other (subst (λ between. IsRead format between lines after) same first.2) again.2

  -- lines that are all read have no faulty one
  all_are_read : (above : List (List ℕ)) (line : List ℕ) (below : List (List ℕ)) (before after state : State) (kind : TraceKind)
      → IsRead format before (above ++ line ∷ below) after → IsRead format before above state → format.HasFault state (fields_of line) kind → ⊥
  all_are_read [] line below before after state kind read above fault =
      let first = read_first read in
      no_step_at_fault before line first.0 kind first.1 (subst (λ state. format.HasFault state (fields_of line) kind) (read_none above) fault)
  all_are_read (x ∷ xs) line below before after state kind read above fault =
      let first = read_first read in
      let again = read_first above in
      let same = one_step before x first.0 again.0 first.1 again.1 in
      all_are_read xs line below again.0 after state kind (subst (λ between. IsRead format between (xs ++ line ∷ below) after) same first.2) again.2 fault

  -- the first faulty line is the same each time, and so is the kind of its fault
  one_first : (above over : List (List ℕ)) (line other : List ℕ) (below under : List (List ℕ)) (before state there : State) (kind again : TraceKind)
      → above ++ line ∷ below ≡ over ++ other ∷ under → IsRead format before above state → IsRead format before over there
      → format.HasFault state (fields_of line) kind → format.HasFault there (fields_of other) again → (length above ≡ length over) × (kind ≡ again)
  one_first [] [] line other below under before state there kind again same a b fault more =
      let is : line ≡ other = cc in
      let first : format.HasFault before (fields_of line) kind = subst (λ state. format.HasFault state (fields_of line) kind) (read_none a) fault in
      let second : format.HasFault before (fields_of other) again = subst (λ state. format.HasFault state (fields_of other) again) (read_none b) more in
      (refl, law.one_kind before (fields_of other) kind again (subst (λ line. format.HasFault before (fields_of line) kind) is first) second)
  one_first [] (y ∷ ys) line other below under before state there kind again same a b fault more =
      let is : line ≡ y = cc in
      let first : format.HasFault before (fields_of line) kind = subst (λ state. format.HasFault state (fields_of line) kind) (read_none a) fault in
      let read = read_first b in
      absurd (no_step_at_fault before y read.0 kind read.1 (subst (λ line. format.HasFault before (fields_of line) kind) is first))
  one_first (x ∷ xs) [] line other below under before state there kind again same a b fault more =
      let is : other ≡ x = cc in
      let second : format.HasFault before (fields_of other) again = subst (λ state. format.HasFault state (fields_of other) again) (read_none b) more in
      let read = read_first a in
      absurd (no_step_at_fault before x read.0 again read.1 (subst (λ line. format.HasFault before (fields_of line) again) is second))
  one_first (x ∷ xs) (y ∷ ys) line other below under before state there kind again same a b fault more =
      let is : x ≡ y = cc in
      let rest : xs ++ line ∷ below ≡ ys ++ other ∷ under = cc in
      let first = read_first a in
      let second = read_first b in
      let between = one_step before y first.0 second.0 (subst (λ line. ReadsLine format before line first.0) is first.1) second.1 in
      let found = one_first xs ys line other below under second.0 state there kind again rest (subst (λ state'. IsRead format state' xs state) between first.2) second.2 fault more in
      (ap suc found.0, found.1)

  -- there is one first faulty line
  pub one_fault : (start : State) (lines : List (List ℕ)) (fault other : TraceFault)
      → IsFirstFaultyLine format start lines fault → IsFirstFaultyLine format start lines other → fault ≡ other
  one_fault start lines fault other a b =
      let found = one_first a.above b.above a.line b.line a.below b.below start a.state b.state fault.kind other.kind (sym a.are ∙ b.are) a.read b.read a.kind b.kind in
      same_fault fault other (omega (arith, a.number, b.number, found.0)) found.1

  -- lines that are all read have no faulty one
  pub read_without_fault : (start : State) (lines : List (List ℕ)) (after : State) (fault : TraceFault)
      → IsRead format start lines after → IsFirstFaultyLine format start lines fault → ⊥
  read_without_fault start lines after fault read h =
      all_are_read h.above h.line h.below start after h.state fault.kind (subst (λ lines. IsRead format start lines after) h.are read) h.read h.kind
