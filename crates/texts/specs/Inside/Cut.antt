-- What a line of `cut` carries.
use Rattle.std.specs.Prelude.{ℕ, List}
use Rattle.texts.specs.declared.cut.cut_line.CutLine.{CutLine}
use Rattle.texts.specs.declared.cut.cut_line.CutLine.TheVariants as cut_line
use Rattle.texts.specs.Cut.Line.{CarriesFrame, CarriesPiece}

-- the fields carry this frame, or this piece
abbrev pub Carries : List (List ℕ) → CutLine → Type 0
Carries fields (cut_line.Frame frame) = CarriesFrame fields frame
Carries fields (cut_line.Piece piece) = CarriesPiece fields piece
