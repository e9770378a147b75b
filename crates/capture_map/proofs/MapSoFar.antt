-- The lines of a map that were read so far, and how one more is.
use Rattle.std.proofs.Common.{◌≡◌, ℕ, ◌+◌, ◌⊎◌, inl, inr, List, [], ◌∷◌, Some, Result, Ok, Err, sym, subst}
use Rattle.std.specs.Prelude.{MatchResult}
use Rattle.text_lines.specs.Lines.{lines_of, fields_of}
use Rattle.capture_map.specs.Fault.{fault_at, IsLineFault}
use Rattle.capture_map.specs.Line.{Says}
use Rattle.capture_map.specs.Reading.{Said, nothing_said, fault_in_place, HasFault, in_place, Outcome, all_said, faulty_line, Reads, no_lines, skipped, taken, faulty, IsMap, IsMapFault}
use Rattle.capture_map.specs.Inside.MapSoFar.{HasRead, HasReadMore, ReadOn}
use Rattle.capture_map.specs.declared.map_fault.LineFault.{LineFault}
use Rattle.capture_map.specs.declared.map_fault.LineFault.TheVariants.{Kind, OutOfMemory}
use Rattle.capture_map.specs.declared.map_line.MapLine.{MapLine}
use Rattle.capture_map.specs.declared.reading.Reading.{Reading}

-- what comes of a line by what it says
pub line_taken : (said : Said) (fields given : List (List ℕ)) (line : MapLine) (after : Reading) (result : Result (Unit {0}) LineFault) → fields ≡ given → Says line given
    → MatchResult result (λ _. HasReadMore said line after) (IsLineFault (λ kind. fault_in_place said line ≡ Some kind))
    → MatchResult result (λ _. ((fields ≡ []) × HasRead said after) ⊎ ReadOn said fields after) (IsLineFault (HasFault said fields))
line_taken said fields given line after (Ok none) are says more = inr (record { says = line; is = subst (Says line) (sym are) says; more = more })
line_taken said fields given line after (Err (Kind kind)) are says fault = in_place line (subst (Says line) (sym are) says) fault
line_taken said fields given line after (Err OutOfMemory) are says fault = tt

-- The lines down to this rest, whose first one has this number, were read: whatever the rest comes
-- to after them, the text comes to.
pub record MapSoFar (text rest : List ℕ) (number : ℕ) (reading : Reading) : Type 0 where
  pub said : Said
  pub read : HasRead said reading
  pub reads : (outcome : Outcome) → Reads said number (lines_of rest) outcome → Reads nothing_said 1 (lines_of text) outcome

pub MapSoFar-none : (text : List ℕ) (reading : Reading) → HasRead nothing_said reading → MapSoFar text text 1 reading
MapSoFar-none text reading read = record { said = nothing_said; read = read; reads = λ outcome rest. rest }

-- one line more
pub MapSoFar-more : (text rest line below : List ℕ) (number : ℕ) (reading after : Reading) (so_far : MapSoFar text rest number reading) → lines_of rest ≡ line ∷ lines_of below
    → ((fields_of line ≡ []) × HasRead so_far.said after) ⊎ ReadOn so_far.said (fields_of line) after → MapSoFar text below (number + 1) after
MapSoFar-more text rest line below number reading after so_far next (inl none) = record {
  said = so_far.said;
  read = none.1;
  reads = λ outcome more. so_far.reads outcome (subst (λ lines. Reads so_far.said number lines outcome) (sym next) (skipped none.0 more));
}
MapSoFar-more text rest line below number reading after so_far next (inr one) = record {
  said = _;
  read = one.more.read;
  reads = λ outcome more.
      so_far.reads outcome (subst (λ lines. Reads so_far.said number lines outcome) (sym next) (taken one.says one.is one.more.faultless more));
}

-- all lines
pub MapSoFar-all : (text rest : List ℕ) (number : ℕ) (reading : Reading) → MapSoFar text rest number reading → rest ≡ [] → IsMap text reading.map
MapSoFar-all text rest number reading so_far done =
    subst (λ said. Reads nothing_said 1 (lines_of text) (all_said said)) (sym so_far.read.said_is)
    (so_far.reads (all_said so_far.said) (subst (λ r. Reads so_far.said number (lines_of r) (all_said so_far.said)) (sym done) no_lines))

-- or a faulty one
pub MapSoFar-fault : (text rest line below : List ℕ) (number : ℕ) (reading : Reading) (fault : LineFault) (so_far : MapSoFar text rest number reading)
    → lines_of rest ≡ line ∷ lines_of below → IsLineFault (HasFault so_far.said (fields_of line)) fault → IsMapFault text (fault_at number fault)
MapSoFar-fault text rest line below number reading (Kind kind) so_far next has =
    so_far.reads (faulty_line number kind) (subst (λ lines. Reads so_far.said number lines (faulty_line number kind)) (sym next) (faulty has))
MapSoFar-fault text rest line below number reading OutOfMemory so_far next has = tt
