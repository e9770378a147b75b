-- What a call answers to a C program.
use Rattle.std.specs.Prelude.{◌≡◌, ℕ, Bool, true, false, Option, Some, None, List, [], ◌∷◌}
use denote.RawPtr.{Ptr, block_ptr, null_ptr}
use Rattle.c_receiver.specs.declared.status.Status.{Status}
use Rattle.c_receiver.specs.declared.status.Status.TheVariants as status
use Rattle.c_receiver.specs.Statuses.{status_number}

-- the number is that of a status of which this holds
abbrev pub Numbered : (Status → Type 0) → ℕ → Type 0
Numbered P number = (answer : Status) × (number ≡ status_number answer) × P answer

-- why a call is refused: of one of these lengths more is passed than may be
abbrev pub length_refused : List Bool → Option Status
length_refused [] = None
length_refused (true ∷ lengths) = Some status.LengthRange
length_refused (false ∷ lengths) = length_refused lengths

-- the same, or before that: one of these pointers is NULL
abbrev pub refused : List Ptr → List Bool → Option Status
refused [] lengths = length_refused lengths
refused (null_ptr ∷ pointers) lengths = Some status.Null
refused (block_ptr b o ∷ pointers) lengths = refused pointers lengths

-- **A refused call** answers why, and what Same says stays; of any other P holds.
abbrev pub Unless : Option Status → ℕ → Type 0 → Type 0 → Type 0
Unless None number Same P = P
Unless (Some why) number Same P = (number ≡ status_number why) × Same

-- what is answered where a receiver is let go
abbrev pub of_free : Ptr → ℕ
of_free (block_ptr b o) = status_number status.Done
of_free null_ptr = status_number status.Null
