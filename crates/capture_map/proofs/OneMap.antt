-- The lines of a map come to one thing.
use Rattle.std.proofs.Common.{◌≡◌, ℕ, ◌+◌, Some, None, List, [], ◌∷◌, refl, sym, ap, ◌∙◌, subst}
use Rattle.text_lines.specs.Lines.{fields_of}
use Rattle.capture_map.specs.declared.map_line.MapLine.{MapLine}
use Rattle.capture_map.specs.declared.map_fault.MapKind.{MapKind}
use Rattle.capture_map.specs.Line.{Says, HasFaultByItself}
use Rattle.capture_map.specs.Reading.{Said, with_line, fault_in_place, HasFault, by_itself, in_place, Outcome, all_said, faulty_line, Reads, no_lines, skipped, taken, faulty}
use Rattle.capture_map.proofs.OneMapLine.{one_line, says_no_fault, one_fault, none_says, none_has}

-- what a line says and hasn't a fault is no fault there
taken_no_fault : (said : Said) (fields : List (List ℕ)) (line : MapLine) (kind : MapKind) → Says line fields → fault_in_place said line ≡ None → HasFault said fields kind → ⊥
taken_no_fault said fields line kind says none (by_itself fault) = says_no_fault fields line kind says fault
taken_no_fault said fields line kind says none (in_place other is fault) =
    let same : None ≡ Some kind = sym none ∙ ap (fault_in_place said) (one_line fields line other says is) ∙ fault in
    cc same

-- a line has one fault after lines that say the same
one_fault_there : (said : Said) (fields : List (List ℕ)) (kind other : MapKind) → HasFault said fields kind → HasFault said fields other → kind ≡ other
one_fault_there said fields kind other (by_itself a) (by_itself b) = one_fault fields kind other a b
one_fault_there said fields kind other (by_itself a) (in_place line says b) = absurd (says_no_fault fields line kind says a)
one_fault_there said fields kind other (in_place line says a) (by_itself b) = absurd (says_no_fault fields line other says b)
one_fault_there said fields kind other (in_place line says a) (in_place again is b) =
    let same : Some kind ≡ Some other = sym a ∙ ap (fault_in_place said) (one_line fields line again says is) ∙ b in
    cc same

-- a line without fields has none
no_fault_of_none : (said : Said) (fields : List (List ℕ)) (kind : MapKind) → fields ≡ [] → HasFault said fields kind → ⊥
no_fault_of_none said fields kind none (by_itself a) = none_has kind (subst (λ f. HasFaultByItself f kind) none a)
no_fault_of_none said fields kind none (in_place line says a) = none_says line (subst (Says line) none says)

-- what comes of the first line
data First (said : Said) (number : ℕ) (line : List ℕ) (lines : List (List ℕ)) (outcome : Outcome) : Type 0 where
  is_skipped : fields_of line ≡ [] → Reads said (number + 1) lines outcome → First said number line lines outcome
  is_taken : (says : MapLine) → Says says (fields_of line) → fault_in_place said says ≡ None → Reads (with_line said says) (number + 1) lines outcome
      → First said number line lines outcome
  is_faulty : (kind : MapKind) → HasFault said (fields_of line) kind → outcome ≡ faulty_line number kind → First said number line lines outcome

first_of : {said : Said} {number : ℕ} {line : List ℕ} {lines : List (List ℕ)} {outcome : Outcome} → Reads said number (line ∷ lines) outcome → First said number line lines outcome
first_of (skipped none more) = is_skipped none more
first_of (taken says is none more) = is_taken says is none more
first_of (faulty has) = is_faulty _ has refl

none_of : {said : Said} {number : ℕ} {outcome : Outcome} → Reads said number [] outcome → outcome ≡ all_said said
none_of no_lines = refl

module _ (more : List (List ℕ)) (again : (said : Said) (number : ℕ) (outcome other : Outcome) → Reads said number more outcome → Reads said number more other → outcome ≡ other) where
  -- one line, and then these
  one_first : (said : Said) (number : ℕ) (line : List ℕ) (outcome other : Outcome) → First said number line more outcome → First said number line more other → outcome ≡ other
  one_first said number line outcome other (is_skipped none a) (is_skipped _ b) = again said (number + 1) outcome other a b
  one_first said number line outcome other (is_skipped none a) (is_taken says is b rest) = absurd (none_says says (subst (Says says) none is))
  one_first said number line outcome other (is_skipped none a) (is_faulty kind has b) = absurd (no_fault_of_none said (fields_of line) kind none has)
  one_first said number line outcome other (is_taken says is a rest) (is_skipped none b) = absurd (none_says says (subst (Says says) none is))
  one_first said number line outcome other (is_taken says is a rest) (is_taken next it b last) =
      let same = one_line (fields_of line) says next is it in
      again (with_line said next) (number + 1) outcome other (subst (λ s. Reads (with_line said s) (number + 1) more outcome) same rest) last
  one_first said number line outcome other (is_taken says is a rest) (is_faulty kind has b) = absurd (taken_no_fault said (fields_of line) says kind is a has)
  one_first said number line outcome other (is_faulty kind has a) (is_skipped none b) = absurd (no_fault_of_none said (fields_of line) kind none has)
  one_first said number line outcome other (is_faulty kind has a) (is_taken says is b rest) = absurd (taken_no_fault said (fields_of line) says kind is b has)
  one_first said number line outcome other (is_faulty kind has a) (is_faulty next it b) =
      a ∙ ap (faulty_line number) (one_fault_there said (fields_of line) kind next has it) ∙ sym b

-- lines come to one thing
pub one_outcome : (said : Said) (number : ℕ) (lines : List (List ℕ)) (outcome other : Outcome) → Reads said number lines outcome → Reads said number lines other → outcome ≡ other
one_outcome said number [] outcome other a b = none_of a ∙ sym (none_of b)
one_outcome said number (line ∷ more) outcome other a b =
    one_first more (λ next n x y. one_outcome next n more x y) said number line outcome other (first_of a) (first_of b)
