use Rattle.std.specs.Prelude.{◌≡◌, ◌≢◌, ℕ, ◌+◌, ◌<◌, ◌≤◌, ◌⊎◌, Option, List, [], ◌∷◌, ◌++◌, length, replicate}
use Rattle.docsis_wire.specs.declared.segment.Segment.{Segment}
use Rattle.docsis_wire.specs.Stream.{place_of}
use Rattle.docsis_wire.specs.Span.{IsKept}

-- What fill may leave unfinished after the end of a frame: up to three zeros, since a fourth one
-- makes them fill. A fill byte that is not zero leaves nothing.
pub record IsFillLeft (fill : ℕ) (unfinished : List ℕ) : Type 0 where
  pub count : ℕ
  pub few : count ≤ 3
  pub zeros : unfinished ≡ replicate count 0
  pub zero_fill : 0 < count → fill ≡ 0

-- The first n chunks end where a frame ends, or none has begun, and what is unfinished is fill.
pub record IsLeftBetween (frames chunks : List (List ℕ)) (fill n : ℕ) (unfinished : List ℕ) : Type 0 where
  pub before : List (List ℕ)
  pub behind : List (List ℕ)
  pub frames_are : frames ≡ before ++ behind
  pub place : place_of frames (length before) ≡ place_of chunks n
  pub fill_left : IsFillLeft fill unfinished

-- The first n chunks end after this front of frame j. It is unfinished where each chunk was kept
-- from the one on in which the frame begins; where one of them was lost, nothing is.
abbrev pub IsFrontLeft : List (List ℕ) → List (List ℕ) → List (Option Segment) → ℕ → ℕ → List ℕ → List ℕ → Type 0
IsFrontLeft frames chunks settled n j front unfinished =
    (((i : ℕ) → i < n → place_of frames j < place_of chunks (i + 1) → IsKept settled i) × (unfinished ≡ front))
    ⊎ ((i : ℕ) × (i < n) × (place_of frames j < place_of chunks (i + 1)) × ¬ IsKept settled i × (unfinished ≡ []))

-- The first n chunks end within a frame, and what is unfinished is the frame's front, or nothing.
pub record IsLeftWithin (frames chunks : List (List ℕ)) (settled : List (Option Segment)) (n : ℕ) (unfinished : List ℕ) : Type 0 where
  pub before : List (List ℕ)
  pub front : List ℕ
  pub back : List ℕ
  pub behind : List (List ℕ)
  pub frames_are : frames ≡ before ++ (front ++ back) ∷ behind
  pub place : place_of frames (length before) + length front ≡ place_of chunks n
  pub some_front : front ≢ []
  pub some_back : back ≢ []
  pub front_left : IsFrontLeft frames chunks settled n (length before) front unfinished

-- What is unfinished after the first n chunks of a cut, of which these were kept.
abbrev pub IsLeftUnfinished : List (List ℕ) → List (List ℕ) → ℕ → List (Option Segment) → ℕ → List ℕ → Type 0
IsLeftUnfinished frames chunks fill settled n unfinished =
    IsLeftBetween frames chunks fill n unfinished ⊎ IsLeftWithin frames chunks settled n unfinished
