-- How far an input that comes in pieces was read, in whatever format.
use Rattle.std.specs.Prelude.{◌≡◌, ℕ, ◌+◌, ◌-◌, ◌^◌, ◌<◌, min, List, [], ◌∷◌, ◌++◌, length, Option, None, MatchOption}
use Rattle.std.specs.List.{slice_split}
use Rattle.text_lines.specs.declared.fault.ParseFault.{ParseFault}
use Rattle.text_lines.specs.Lines.{lines_of, is_line_feed}
use Rattle.text_lines.specs.Format.{Format, IsRead, IsReadingFault}

-- what a reader of lines knows: how many lines it took, the bytes of the line that isn't whole yet,
-- and the fault that ended the reading, if one did
pub record Progress : Type 0 where
  pub count : ℕ
  pub unfinished : List ℕ
  pub fault : Option ParseFault

-- nothing was taken
abbrev pub no_progress : Progress
no_progress = record { count = 0; unfinished = []; fault = None }

-- These bytes were taken: the parts of them that line feeds end are lines, which were counted, up
-- to 2^64 − 1, and read one after another to a state that the taker stands for; the part behind the
-- last line feed is the line that isn't whole yet, and was not read.
pub record AreTaken {State Taker : Type 0} (format : Format State) (start : State) (stands_for : State → Taker → Type 0) (taker : Taker)
    (count : ℕ) (unfinished bytes : List ℕ) : Type 0 where
  pub lines : List (List ℕ)
  pub parts : slice_split is_line_feed bytes ≡ lines ++ unfinished ∷ []
  pub counted : count ≡ min (length lines) (2 ^ 64 - 1)
  pub state : State
  pub read : IsRead format start lines state
  pub stands : stands_for state taker

-- a reader that knows this has taken these bytes, without a fault
abbrev pub HasTaken : {State Taker : Type 0} → Format State → State → (State → Taker → Type 0) → Taker → Progress → List ℕ → Type 0
HasTaken format start stands_for taker progress bytes =
    (progress.fault ≡ None) × AreTaken format start stands_for taker progress.count progress.unfinished bytes

-- whatever bytes it had taken, now it has taken these and the piece
abbrev pub TakesPiece : {State Taker : Type 0} → Format State → (State → Taker → Type 0) → Taker → Progress → Taker → Progress → List ℕ → Type 0
TakesPiece {State} format stands_for taker progress taker' progress' piece = (start : State) (bytes : List ℕ)
    → HasTaken format start stands_for taker progress bytes → HasTaken format start stands_for taker' progress' (bytes ++ piece)

-- a fault of every input that begins with these bytes: the faulty line is whole, so nothing that
-- follows can change it
abbrev pub IsSettledFault : {State : Type 0} → Format State → State → List ℕ → ParseFault → Type 0
IsSettledFault format start bytes fault = (more : List ℕ) → IsReadingFault format start (lines_of (bytes ++ more)) fault

-- whatever bytes it had taken, this is a fault of every input that begins with these and the piece,
-- which are fewer than 2^64
abbrev pub IsPieceFault : {State Taker : Type 0} → Format State → (State → Taker → Type 0) → Taker → Progress → List ℕ → ParseFault → Type 0
IsPieceFault {State} format stands_for taker progress piece fault = (start : State) (bytes : List ℕ)
    → HasTaken format start stands_for taker progress bytes → length bytes + length piece < 2 ^ 64 → IsSettledFault format start (bytes ++ piece) fault

-- **These bytes were taken of an input that comes in pieces**: the lines so far were read, or a
-- fault ended the reading that every input has which begins with these bytes, of which there are
-- fewer than 2^64.
abbrev pub HasTakenBytes : {State Taker : Type 0} → Format State → State → (State → Taker → Type 0) → Taker → Progress → List ℕ → Type 0
HasTakenBytes format start stands_for taker progress bytes =
    MatchOption progress.fault (AreTaken format start stands_for taker progress.count progress.unfinished bytes)
    (λ fault. length bytes < 2 ^ 64 → IsSettledFault format start bytes fault)
