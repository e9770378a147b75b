-- A cut that is being made, a segment at a time.
use Rattle.std.specs.Prelude.{◌≡◌, ℕ, ◌+◌, List, length, Option, Some, None, slice_get}
use Rattle.docsis_wire.specs.declared.pieces.FillByte.{FillByte}
use Rattle.docsis_wire.specs.declared.pieces.Piece.{Piece}
use Rattle.docsis_wire.specs.declared.segment.Segment.{Segment}
use Rattle.docsis_wire.specs.Stream.{place_of}
use Rattle.docsis_wire.specs.Cut.{IsCutSegment}
use Rattle.docsis_wire.specs.Pieces.{fill_byte, chunks_of, IsPieceSegment}

-- What is cut and into what, the number of the first segment, the byte of fill, and how many
-- segments were made.
pub record CutUnderWay : Type 0 where
  pub frames : List (List ℕ)
  pub pieces : List Piece
  pub first : ℕ
  pub fill : FillByte
  pub made : ℕ

-- piece k made this segment of its chunk
pub record IsMade (frames : List (List ℕ)) (pieces : List Piece) (first fill k : ℕ) (segment : Segment) : Type 0 where
  pub piece : Piece
  pub piece_is : slice_get pieces k ≡ Some piece
  pub chunk : List ℕ
  pub chunk_is : slice_get (chunks_of frames pieces) k ≡ Some chunk
  pub cut : IsCutSegment frames first fill k (place_of (chunks_of frames pieces) k) chunk segment
  pub named : IsPieceSegment fill piece chunk segment

-- each segment was made by the piece in its place
abbrev pub AreMade : List (List ℕ) → List Piece → ℕ → ℕ → List Segment → Type 0
AreMade frames pieces first fill segments = (k : ℕ) (segment : Segment) → slice_get segments k ≡ Some segment → IsMade frames pieces first fill k segment

-- two moments of one cut
pub record IsSameCut (cut other : CutUnderWay) : Type 0 where
  pub same_frames : other.frames ≡ cut.frames
  pub same_pieces : other.pieces ≡ cut.pieces
  pub same_first : other.first ≡ cut.first
  pub same_fill : other.fill ≡ cut.fill

-- these are the segments that were made so far
pub record HasMade (cut : CutUnderWay) (segments : List Segment) : Type 0 where
  pub size : length segments ≡ cut.made
  pub made_each : AreMade cut.frames cut.pieces cut.first (fill_byte cut.fill) segments

-- The next piece's segment was made, or all were made before.
abbrev pub GivesNext : CutUnderWay → CutUnderWay → Option Segment → Type 0
GivesNext old new None = (old.made ≡ length old.pieces) × (new ≡ old)
GivesNext old new (Some segment) = IsMade old.frames old.pieces old.first (fill_byte old.fill) old.made segment × (new ≡ record old { made = old.made + 1 })
