-- The text of a cut, and why there is none, by what the lines of its input carry.
use Rattle.std.proofs.Common.{ℕ, List, refl}
use Rattle.std.specs.Prelude.{flat_map}
use Rattle.docsis_wire.specs.declared.segment.Segment.{Segment}
use Rattle.docsis_wire.specs.declared.pieces.Piece.{Piece}
use Rattle.docsis_wire.specs.declared.pieces.FillByte.{FillByte}
use Rattle.text_lines.specs.declared.fault.TextFault.{TextFault}
use Rattle.text_lines.specs.declared.fault.TextFault.TheVariants.{Trace, Cut, OutOfMemory}
use Rattle.text_lines.specs.Format.{IsRead}
use Rattle.text_lines.specs.Lines.{lines_of}
use Rattle.texts.specs.Cut.{IsCutInto, IsCutText, IsCutFault, CannotCut, segment_line}
use Rattle.texts.specs.Cut.Line.{nothing, cut_format}

module _ (input : List ℕ) (frames : List (List ℕ)) (pieces : List Piece)
    (read : IsRead cut_format nothing (lines_of input) (record { frames = frames; pieces = pieces })) where
  -- the lines of its segments are the text
  pub cut_text : (first : ℕ) (fill : FillByte) (segments : List Segment) → IsCutInto first fill frames pieces segments → IsCutText first fill input (flat_map segment_line segments)
  cut_text first fill segments cut = record { frames = frames; pieces = pieces; segments = segments; read = read; cut = cut; printed = refl }

  -- a fault of its frames and pieces is one of the input
  pub cut_fault : (fault : TextFault) → CannotCut frames pieces fault → IsCutFault input fault
  cut_fault (Trace fault) has = absurd has
  cut_fault (Cut fault) has = record { frames = frames; pieces = pieces; read = read; reported = has }
  cut_fault OutOfMemory has = absurd has
