-- A format of lines: what a line's fields add to what the lines above say, or their fault there.
use Rattle.std.specs.Prelude.{◌≡◌, ℕ, ◌+◌, List, [], ◌∷◌, ◌++◌, length}
use Rattle.text_lines.specs.declared.fault.TraceKind.{TraceKind}
use Rattle.text_lines.specs.declared.fault.TraceFault.{TraceFault}
use Rattle.text_lines.specs.declared.fault.ParseFault.{ParseFault}
use Rattle.text_lines.specs.declared.fault.ParseFault.TheVariants.{Line, OutOfMemory}
use Rattle.text_lines.specs.Lines.{fields_of}

-- A format, whose lines together say a state. Only lines that have fields are spoken of: in every
-- format a line without fields is skipped.
pub record Format (State : Type 0) : Type 1 where
  -- after lines that say the first state, a line with these fields makes it the second
  pub Takes : State → List (List ℕ) → State → Type 0
  -- after lines that say this state, a line with these fields has a fault of this kind
  pub HasFault : State → List (List ℕ) → TraceKind → Type 0

-- lines are read in turn, from the first state to the second; a line without fields changes nothing
pub data IsRead {State : Type 0} (format : Format State) : State → List (List ℕ) → State → Type 0 where
  no_lines : {state : State} → IsRead format state [] state
  skipped : {before after : State} {line : List ℕ} {lines : List (List ℕ)}
      → fields_of line ≡ [] → IsRead format before lines after → IsRead format before (line ∷ lines) after
  taken : {before between after : State} {line : List ℕ} {lines : List (List ℕ)}
      → format.Takes before (fields_of line) between → IsRead format between lines after → IsRead format before (line ∷ lines) after

-- The first faulty line, by its number, counted from 1 with skipped lines, and the kind of its
-- fault: the lines above it are read, and it has this fault after them.
pub record IsFirstFaultyLine {State : Type 0} (format : Format State) (start : State) (lines : List (List ℕ)) (fault : TraceFault) : Type 0 where
  pub above : List (List ℕ)
  pub line : List ℕ
  pub below : List (List ℕ)
  pub are : lines ≡ above ++ line ∷ below
  pub state : State
  pub read : IsRead format start above state
  pub number : fault.line ≡ length above + 1
  pub kind : format.HasFault state (fields_of line) fault.kind

-- why lines were not read: the first faulty line, or a failed allocation
abbrev pub IsReadingFault : {State : Type 0} → Format State → State → List (List ℕ) → ParseFault → Type 0
IsReadingFault format start lines (Line fault) = IsFirstFaultyLine format start lines fault
IsReadingFault format start lines OutOfMemory = Unit {0}
