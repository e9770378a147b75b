use Rattle.std.specs.Prelude.{◌≡◌, ℕ, ◌+◌, ◌<◌, ◌≤◌, ◌⊎◌, Bool, true, false, List, [], ◌++◌, length}
use Rattle.std.specs.List.{concat, AllByRecursion}
use Rattle.docsis_wire.specs.declared.frame.HeadRead.{HeadRead}
use Rattle.docsis_wire.specs.declared.frame.HeadRead.TheVariants.{Short, Fill, Bad, Head}
use Rattle.docsis_wire.specs.Frame.{IsFrame, header_front}
use Rattle.docsis_wire.specs.Head.{head_of}

-- the whole header is there, and the check says no of it
abbrev pub FailsCheck : (List ℕ → Bool) → ℕ → List ℕ → Type 0
FailsCheck check ehdr rest = (6 + ehdr ≤ length rest) × (check (header_front ehdr rest) ≡ false)

-- the header is not whole yet, or the check says yes of it
abbrev pub PassesSoFar : (List ℕ → Bool) → ℕ → List ℕ → Type 0
PassesSoFar check ehdr rest = 6 + ehdr ≤ length rest → check (header_front ehdr rest) ≡ true

-- What becomes of bytes that do not begin with a whole frame. They are dropped where their head is
-- fill or malformed, or where the check says no of their header, however many bytes it announces.
-- They wait for more where their head is short or announces more bytes than there are.
abbrev pub EndsAs : (List ℕ → Bool) → HeadRead → List ℕ → List ℕ → Type 0
EndsAs check Short rest unfinished = unfinished ≡ rest
EndsAs check (Head ehdr total) rest unfinished =
    (FailsCheck check ehdr rest × (unfinished ≡ [])) ⊎ (PassesSoFar check ehdr rest × (length rest < total) × (unfinished ≡ rest))
EndsAs check Fill rest unfinished = unfinished ≡ []
EndsAs check (Bad fault) rest unfinished = unfinished ≡ []

abbrev pub Ends : (List ℕ → Bool) → List ℕ → List ℕ → Type 0
Ends check rest unfinished = EndsAs check (head_of rest) rest unfinished

-- These bytes are these frames end to end, then something that doesn't begin with a whole frame.
pub record Walks (check : List ℕ → Bool) (bytes : List ℕ) (frames : List (List ℕ)) (unfinished : List ℕ) : Type 0 where
  pub rest : List ℕ
  pub whole : bytes ≡ concat frames ++ rest
  pub each : AllByRecursion (IsFrame check) frames
  pub ends : Ends check rest unfinished
