-- What `cut` answers for an input.
pub mod Line
use Rattle.std.specs.Prelude.{◌≡◌, ℕ, ◌+◌, ◌*◌, List, ◌∷◌, [], ◌++◌, length, flat_map, min, sum_by}
use Rattle.docsis_wire.specs.declared.segment.Segment.{Segment}
use Rattle.docsis_wire.specs.declared.pieces.Piece.{Piece}
use Rattle.docsis_wire.specs.declared.pieces.FillByte.{FillByte}
use Rattle.docsis_wire.specs.declared.pieces.CutFault.{CutFault}
use Rattle.docsis_wire.specs.declared.pieces.CutFault.TheVariants as cut_fault
use Rattle.docsis_wire.specs.Cut.{IsLawfulCut}
use Rattle.docsis_wire.specs.Limits.{header_length}
use Rattle.docsis_wire.specs.SegmentBytes.{segment_bytes}
use Rattle.docsis_wire.specs.CutUnderWay.{CutUnderWay}
use Rattle.docsis_wire.specs.Pieces.{fill_byte, chunks_of, ArePieceSegments, IsFirstBadFrame, IsFirstFillInsideFrame, IsFirstPointerTooFar}
use Rattle.hex.specs.Hex.{encode_lower}
use Rattle.text_lines.specs.declared.fault.TextFault.{TextFault}
use Rattle.text_lines.specs.declared.fault.TextFault.TheVariants.{Trace, Cut, OutOfMemory}
use Rattle.text_lines.specs.Lines.{lines_of, line_feed}
use Rattle.text_lines.specs.Putting.{Puts}
use Rattle.text_lines.specs.Format.{IsRead, IsFirstFaultyLine}
use Rattle.texts.specs.Cut.Line.{nothing, cut_format}
use Rattle.texts.specs.AnyHeader.{any_header}

-- the segments of the lawful cut that the pieces name: their numbers begin with the first, and the
-- fields that a cut gives no meaning are 0
pub record IsCutInto (first : ℕ) (fill : FillByte) (frames : List (List ℕ)) (pieces : List Piece) (segments : List Segment) : Type 0 where
  pub lawful : IsLawfulCut any_header frames first (fill_byte fill) (chunks_of frames pieces) segments
  pub named : ArePieceSegments (fill_byte fill) frames pieces segments

-- a segment's line: its header and its payload as lower-case digits, and a line feed
abbrev pub segment_line : Segment → List ℕ
segment_line segment = encode_lower (segment_bytes segment) ++ line_feed ∷ []

-- the text is a line for each segment of the cut, one after another
pub record IsPrinted (cut : CutUnderWay) (text : List ℕ) : Type 0 where
  pub segments : List Segment
  pub made : IsCutInto cut.first cut.fill cut.frames cut.pieces segments
  pub printed : text ≡ flat_map segment_line segments

-- this text was put
abbrev pub PutsCut : {T : Type 0} → (T → List ℕ → T → Type 0) → CutUnderWay → T → T → Type 0
PutsCut after cut old new = (text : List ℕ) × IsPrinted cut text × Puts after old text new

-- How long the lines of a cut's segments are: two digits for each byte of a header, of what the
-- pieces take of the frames, and of fill, and a line feed for each segment.
abbrev pub cut_text_length : List (List ℕ) → List Piece → ℕ
cut_text_length frames pieces =
    (min (sum_by (λ piece. piece.bytes) pieces) (sum_by length frames) + sum_by (λ piece. piece.fill) pieces + length pieces * header_length) * 2 + length pieces

-- the text that stands for an input: a line for each segment that its frames are cut into
pub record IsCutText (first : ℕ) (fill : FillByte) (input text : List ℕ) : Type 0 where
  pub frames : List (List ℕ)
  pub pieces : List Piece
  pub segments : List Segment
  pub read : IsRead cut_format nothing (lines_of input) (record { frames = frames; pieces = pieces })
  pub cut : IsCutInto first fill frames pieces segments
  pub printed : text ≡ flat_map segment_line segments

-- the first fault of frames and pieces
abbrev pub IsPieceFault : List (List ℕ) → List Piece → CutFault → Type 0
IsPieceFault frames pieces (cut_fault.BadFrame k) = IsFirstBadFrame any_header frames k
IsPieceFault frames pieces (cut_fault.FillInsideFrame k) = IsFirstFillInsideFrame any_header frames pieces k
IsPieceFault frames pieces (cut_fault.PointerTooFar k) = IsFirstPointerTooFar any_header frames pieces k
IsPieceFault frames pieces cut_fault.OutOfMemory = ⊥

-- why frames and pieces are not cut: their first fault
abbrev pub CannotCut : List (List ℕ) → List Piece → TextFault → Type 0
CannotCut frames pieces (Trace fault) = ⊥
CannotCut frames pieces (Cut fault) = IsPieceFault frames pieces fault
CannotCut frames pieces OutOfMemory = ⊥

-- no line of an input has a fault, and this is the first fault of its frames and pieces
pub record IsFirstPieceFault (input : List ℕ) (fault : CutFault) : Type 0 where
  pub frames : List (List ℕ)
  pub pieces : List Piece
  pub read : IsRead cut_format nothing (lines_of input) (record { frames = frames; pieces = pieces })
  pub reported : IsPieceFault frames pieces fault

-- why an input was not cut: its first faulty line, or else the first fault of its frames and
-- pieces, or a failed allocation
abbrev pub IsCutFault : List ℕ → TextFault → Type 0
IsCutFault input (Trace fault) = IsFirstFaultyLine cut_format nothing (lines_of input) fault
IsCutFault input (Cut fault) = IsFirstPieceFault input fault
IsCutFault input OutOfMemory = Unit {0}
