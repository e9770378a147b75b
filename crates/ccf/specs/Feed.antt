use Rattle.std.specs.Prelude.{◌≡◌, ℕ, ◌⊎◌, Bool, true, false, List, [], ◌∷◌, ◌++◌, take, drop}
use Rattle.docsis_wire.specs.declared.segment.Segment.{Segment}
use Rattle.docsis_wire.specs.Frame.{IsFrame}
use Rattle.ccf.specs.Walk.{Ends, Walks}

-- No MAC header begins in the segment and nothing is unfinished: the payload is skipped.
abbrev pub Skips : List (List ℕ) → List ℕ → Type 0
Skips frames after = (frames ≡ []) × (after ≡ [])

-- Bytes begin with this frame, which is delivered. What stands after it is skipped.
pub record Delivers (check : List ℕ → Bool) (bytes : List ℕ) (frames : List (List ℕ)) (after : List ℕ) : Type 0 where
  pub frame : List ℕ
  pub skipped : List ℕ
  pub whole : bytes ≡ frame ++ skipped
  pub is_frame : IsFrame check frame
  pub delivered : frames ≡ frame ∷ []
  pub nothing_left : after ≡ []

-- No MAC header begins in the segment and something is unfinished, which with the payload makes
-- these bytes: they begin with a whole frame, or they don't.
abbrev pub GoesOn : (List ℕ → Bool) → List ℕ → List (List ℕ) → List ℕ → Type 0
GoesOn check bytes frames after = Delivers check bytes frames after ⊎ ((frames ≡ []) × Ends check bytes after)

-- What was unfinished, up to where the next MAC header begins: it is delivered if it is one whole
-- frame, and else skipped.
abbrev pub IsDoneWith : (List ℕ → Bool) → List ℕ → List (List ℕ) → Type 0
IsDoneWith check bytes done = (IsFrame check bytes × (done ≡ bytes ∷ [])) ⊎ (¬ IsFrame check bytes × (done ≡ []))

-- A MAC header begins in the segment and something is unfinished: that is done with, and the
-- payload is walked from the header on.
pub record Completes (check : List ℕ → Bool) (bytes payload : List ℕ) (frames : List (List ℕ)) (after : List ℕ) : Type 0 where
  pub done : List (List ℕ)
  pub walked : List (List ℕ)
  pub delivered : frames ≡ done ++ walked
  pub is_done : IsDoneWith check bytes done
  pub walks : Walks check payload walked after

-- The four cases: whether a MAC header begins in the segment, and whether something is unfinished.
abbrev pub FeedsAs : (List ℕ → Bool) → Bool → List ℕ → ℕ → List ℕ → List (List ℕ) → List ℕ → Type 0
FeedsAs check false [] pointer payload frames after = Skips frames after
FeedsAs check false (b ∷ bs) pointer payload frames after = GoesOn check (b ∷ bs ++ payload) frames after
FeedsAs check true [] pointer payload frames after = Walks check (drop pointer payload) frames after
FeedsAs check true (b ∷ bs) pointer payload frames after = Completes check (b ∷ bs ++ take pointer payload) (drop pointer payload) frames after

-- With these bytes unfinished the segment completes these frames and leaves these bytes unfinished.
abbrev pub Feeds : (List ℕ → Bool) → List ℕ → Segment → List (List ℕ) → List ℕ → Type 0
Feeds check before segment frames after = FeedsAs check segment.head.pfi before segment.head.pointer segment.payload frames after

-- Nothing is unfinished, and the segment is one whole frame by itself: the frame begins at the
-- first byte of its payload, and ends with the last.
pub record IsOneFrame (check : List ℕ → Bool) (before : List ℕ) (segment : Segment) : Type 0 where
  pub nothing_unfinished : before ≡ []
  pub begins : segment.head.pfi ≡ true
  pub first : segment.head.pointer ≡ 0
  pub is_frame : IsFrame check segment.payload
