use Rattle.std.specs.Prelude.{◌≡◌, ℕ, ◌+◌, ◌%◌, ◌<◌, ◌≤◌, ◌⊎◌, Bool, true, false, Some, List, ◌++◌, length, replicate, slice_get}
use Rattle.std.specs.List.{concat, AllByRecursion}
use Rattle.docsis_wire.specs.declared.segment.Segment.{Segment}
use Rattle.docsis_wire.specs.Limits.{sequence_modulus}
use Rattle.docsis_wire.specs.Frame.{IsFrame}
use Rattle.docsis_wire.specs.Stream.{place_of, StartsAt, IsBoundary}

-- some frame starts in the chunk that begins at this place, with p bytes of the chunk before it
abbrev pub StartsIn : List (List ℕ) → ℕ → List ℕ → ℕ → Type 0
StartsIn frames place chunk p = (p < length chunk) × StartsAt frames (place + p)

-- What PFI and the pointer say of a chunk. With PFI the pointer is the first start of a frame in
-- it. Without PFI no frame starts in it, and the pointer may be anything.
abbrev pub Points : Bool → ℕ → List (List ℕ) → ℕ → List ℕ → Type 0
Points true pointer frames place chunk = StartsIn frames place chunk pointer × ((p : ℕ) → StartsIn frames place chunk p → pointer ≤ p)
Points false pointer frames place chunk = (p : ℕ) → ¬ StartsIn frames place chunk p

-- A segment of a cut, by its index, the place of its chunk in the stream and the chunk. Its payload
-- is the chunk and then fill, and there is fill only where a frame ends or nothing was sent yet. R,
-- the SID cluster, the request and the header check sequence may be anything.
pub record IsCutSegment (frames : List (List ℕ)) (first fill index place : ℕ) (chunk : List ℕ) (segment : Segment) : Type 0 where
  pub fill_len : ℕ
  pub payload : segment.payload ≡ chunk ++ replicate fill_len fill
  pub filled : 0 < fill_len → IsBoundary frames (place + length chunk)
  pub points : Points segment.head.pfi segment.head.pointer frames place chunk
  pub number : segment.head.sequence ≡ (first + index) % sequence_modulus

-- the bytes that a flow may be filled with
abbrev pub IsFillByte : ℕ → Type 0
IsFillByte fill = (fill ≡ 0) ⊎ (fill ≡ 255)

-- A modem's frames, each with a header that the check says yes of, cut into these chunks, and the
-- segments that carry them: the chunks end to end are the front of the frames end to end, and the
-- whole flow has one fill byte.
pub record IsLawfulCut (check : List ℕ → Bool) (frames : List (List ℕ)) (first fill : ℕ) (chunks : List (List ℕ)) (segments : List Segment) : Type 0 where
  pub each : AllByRecursion (IsFrame check) frames
  pub fill_is : IsFillByte fill
  pub unsent : List ℕ
  pub stream : concat frames ≡ concat chunks ++ unsent
  pub same_length : length segments ≡ length chunks
  pub cut : (i : ℕ) (chunk : List ℕ) (segment : Segment) → slice_get chunks i ≡ Some chunk → slice_get segments i ≡ Some segment
      → IsCutSegment frames first fill i (place_of chunks i) chunk segment
