use Rattle.std.specs.Prelude.{◌≡◌, ℕ, ◌+◌, ◌<◌, ◌≤◌, Option, Some, List, length, slice_get}
use Rattle.docsis_wire.specs.declared.segment.Segment.{Segment}
use Rattle.docsis_wire.specs.Stream.{place_of}

-- some byte of frame j lies in chunk i
pub record SharesPlace (frames chunks : List (List ℕ)) (j i : ℕ) : Type 0 where
  pub place : ℕ
  pub frame_from : place_of frames j ≤ place
  pub frame_to : place < place_of frames (j + 1)
  pub chunk_from : place_of chunks i ≤ place
  pub chunk_to : place < place_of chunks (i + 1)

-- Chunk i is in the span of frame j: from the first to the last chunk that has a byte of it, chunks
-- without bytes between them included.
pub record IsInSpan (frames chunks : List (List ℕ)) (j i : ℕ) : Type 0 where
  pub earlier : ℕ
  pub later : ℕ
  pub from : earlier ≤ i
  pub to : i ≤ later
  pub shares_earlier : SharesPlace frames chunks j earlier
  pub shares_later : SharesPlace frames chunks j later

-- A settled list has at each index the cut's segment, or the mark that it is lost. It may end
-- before the cut does.
pub record IsSettledOf (segments : List Segment) (settled : List (Option Segment)) : Type 0 where
  pub within : length settled ≤ length segments
  pub kept : (i : ℕ) (segment : Segment) → slice_get settled i ≡ Some (Some segment) → slice_get segments i ≡ Some segment

abbrev pub IsKept : List (Option Segment) → ℕ → Type 0
IsKept settled i = (segment : Segment) × (slice_get settled i ≡ Some (Some segment))

-- frame j lies wholly in what is settled of the cut, and each chunk of its span was kept
pub record IsWhollyKept (frames chunks : List (List ℕ)) (settled : List (Option Segment)) (j : ℕ) : Type 0 where
  pub within : place_of frames (j + 1) ≤ place_of chunks (length settled)
  pub kept : (i : ℕ) → IsInSpan frames chunks j i → IsKept settled i
