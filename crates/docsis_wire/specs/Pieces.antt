use Rattle.std.specs.Prelude.{◌≡◌, ℕ, ◌+◌, ◌<◌, ◌≤◌, ◌⊎◌, Bool, true, false, Some, List, [], ◌∷◌, ◌++◌, take, drop, replicate, slice_get}
use Rattle.std.specs.List.{concat, AllByRecursion}
use Rattle.docsis_wire.specs.declared.pieces.FillByte.{FillByte}
use Rattle.docsis_wire.specs.declared.pieces.FillByte.TheVariants.{Zero, Ones}
use Rattle.docsis_wire.specs.declared.pieces.Piece.{Piece}
use Rattle.docsis_wire.specs.declared.pieces.CutFault.{CutFault}
use Rattle.docsis_wire.specs.declared.pieces.CutFault.TheVariants.{BadFrame, FillInsideFrame, PointerTooFar, OutOfMemory}
use Rattle.docsis_wire.specs.declared.segment.Segment.{Segment}
use Rattle.docsis_wire.specs.Limits.{pointer_limit}
use Rattle.docsis_wire.specs.Frame.{IsFrame}
use Rattle.docsis_wire.specs.Stream.{place_of, IsBoundary}
use Rattle.docsis_wire.specs.Cut.{Points}

-- the byte that a flow is filled with
abbrev pub fill_byte : FillByte → ℕ
fill_byte Zero = 0
fill_byte Ones = 255

-- Each piece in turn takes the bytes that it asks for from the front of what is left of a stream,
-- or all that is left if that is less.
abbrev pub chunks_from : List ℕ → List Piece → List (List ℕ)
chunks_from stream [] = []
chunks_from stream (piece ∷ pieces) = take piece.bytes stream ∷ chunks_from (drop piece.bytes stream) pieces

-- the chunks that the pieces take of the frames end to end
abbrev pub chunks_of : List (List ℕ) → List Piece → List (List ℕ)
chunks_of frames pieces = chunks_from (concat frames) pieces

-- What a piece makes of its chunk: the chunk and then just the fill that the piece names. All
-- fields of the header are 0 but for those that a cut gives a meaning.
pub record IsPieceSegment (fill : ℕ) (piece : Piece) (chunk : List ℕ) (segment : Segment) : Type 0 where
  pub payload : segment.payload ≡ chunk ++ replicate piece.fill fill
  pub no_pointer : segment.head.pfi ≡ false → segment.head.pointer ≡ 0
  pub reserved : segment.head.reserved ≡ false
  pub cluster : segment.head.cluster ≡ 0
  pub request : segment.head.request ≡ 0
  pub hcs : segment.head.hcs ≡ 0

-- each piece in its place made its segment
abbrev pub ArePieceSegments : ℕ → List (List ℕ) → List Piece → List Segment → Type 0
ArePieceSegments fill frames pieces segments = (k : ℕ) (piece : Piece) (chunk : List ℕ) (segment : Segment)
    → slice_get pieces k ≡ Some piece → slice_get (chunks_of frames pieces) k ≡ Some chunk → slice_get segments k ≡ Some segment
    → IsPieceSegment fill piece chunk segment

-- the frames up to the k-th are well formed, and the k-th is not
pub record IsFirstBadFrame (check : List ℕ → Bool) (frames : List (List ℕ)) (k : ℕ) : Type 0 where
  pub frame : List ℕ
  pub frame_is : slice_get frames k ≡ Some frame
  pub bad : ¬ IsFrame check frame
  pub earlier : (i : ℕ) (frame : List ℕ) → i < k → slice_get frames i ≡ Some frame → IsFrame check frame

-- piece k has fill, and its data end neither where a frame ends nor at the stream's first place
pub record FillsInsideFrame (frames : List (List ℕ)) (pieces : List Piece) (k : ℕ) : Type 0 where
  pub piece : Piece
  pub piece_is : slice_get pieces k ≡ Some piece
  pub fills : 0 < piece.fill
  pub inside : ¬ IsBoundary frames (place_of (chunks_of frames pieces) (k + 1))

-- the first frame that starts in the chunk of piece k has more bytes of the chunk before it than a
-- pointer can say
pub record PointsTooFar (frames : List (List ℕ)) (pieces : List Piece) (k : ℕ) : Type 0 where
  pub chunk : List ℕ
  pub chunk_is : slice_get (chunks_of frames pieces) k ≡ Some chunk
  pub pointer : ℕ
  pub points : Points true pointer frames (place_of (chunks_of frames pieces) k) chunk
  pub far : pointer_limit ≤ pointer

-- no lawful segment can be made of piece k
abbrev pub IsUnlawful : List (List ℕ) → List Piece → ℕ → Type 0
IsUnlawful frames pieces k = FillsInsideFrame frames pieces k ⊎ PointsTooFar frames pieces k

-- all frames are well formed, and each piece makes a lawful segment
pub record IsCuttable (check : List ℕ → Bool) (frames : List (List ℕ)) (pieces : List Piece) : Type 0 where
  pub each : AllByRecursion (IsFrame check) frames
  pub lawful : (k : ℕ) → ¬ IsUnlawful frames pieces k

-- all frames are well formed, and piece k is the first that makes no lawful segment, by its fill
pub record IsFirstFillInsideFrame (check : List ℕ → Bool) (frames : List (List ℕ)) (pieces : List Piece) (k : ℕ) : Type 0 where
  pub each : AllByRecursion (IsFrame check) frames
  pub here : FillsInsideFrame frames pieces k
  pub earlier : (i : ℕ) → i < k → ¬ IsUnlawful frames pieces i

-- all frames are well formed, and piece k is the first that makes no lawful segment, by its pointer
-- and not by its fill
pub record IsFirstPointerTooFar (check : List ℕ → Bool) (frames : List (List ℕ)) (pieces : List Piece) (k : ℕ) : Type 0 where
  pub each : AllByRecursion (IsFrame check) frames
  pub here : PointsTooFar frames pieces k
  pub fill_lawful : ¬ FillsInsideFrame frames pieces k
  pub earlier : (i : ℕ) → i < k → ¬ IsUnlawful frames pieces i

-- what a fault says of the frames and pieces; out of memory is reported only where they can be cut
abbrev pub Reports : (List ℕ → Bool) → List (List ℕ) → List Piece → CutFault → Type 0
Reports check frames pieces (BadFrame k) = IsFirstBadFrame check frames k
Reports check frames pieces (FillInsideFrame k) = IsFirstFillInsideFrame check frames pieces k
Reports check frames pieces (PointerTooFar k) = IsFirstPointerTooFar check frames pieces k
Reports check frames pieces OutOfMemory = IsCuttable check frames pieces
