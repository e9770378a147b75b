use Rattle.std.specs.Prelude.{◌≡◌, ℕ, ◌+◌, ◌<◌, ◌≤◌, true, Some, List, length, take, drop, slice_get}
use Rattle.std.specs.List.{concat}
use Rattle.docsis_wire.specs.declared.cursor.Cursor.{Cursor}
use Rattle.docsis_wire.specs.Limits.{pointer_limit}
use Rattle.docsis_wire.specs.Stream.{place_of}
use Rattle.docsis_wire.specs.Cut.{Points}

-- the place in the stream where a cursor stands
abbrev pub place_at : List (List ℕ) → Cursor → ℕ
place_at frames cursor = place_of frames cursor.frame + cursor.offset

-- The cursor stands before a byte of its frame, or after the last frame.
pub record IsPlaced (frames : List (List ℕ)) (cursor : Cursor) : Type 0 where
  pub within : cursor.frame ≤ length frames
  pub before : (frame : List ℕ) → slice_get frames cursor.frame ≡ Some frame → cursor.offset < length frame
  pub at_end : cursor.frame ≡ length frames → cursor.offset ≡ 0

-- the next so many bytes of the stream, or what remains if that is less
abbrev pub chunk_at : List (List ℕ) → Cursor → ℕ → List ℕ
chunk_at frames cursor bytes = take bytes (drop (place_at frames cursor) (concat frames))

-- a pointer can say where the first frame starts in the next so many bytes, if one does
abbrev pub CanPoint : List (List ℕ) → Cursor → ℕ → Type 0
CanPoint frames cursor bytes = (pointer : ℕ) → Points true pointer frames (place_at frames cursor) (chunk_at frames cursor bytes) → pointer < pointer_limit
