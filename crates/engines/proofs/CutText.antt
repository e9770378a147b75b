-- What was read of the lines of a cut.
use Rattle.std.proofs.Common.{◌≡◌, ℕ, List, [], Option, sym, ap, subst, ◌∙◌}
use Rattle.docsis_wire.specs.declared.pieces.Piece.{Piece}
use Rattle.text_lines.specs.declared.fault.TextFault.{TextFault}
use Rattle.text_lines.specs.declared.fault.TextFault.TheVariants.{Trace, Cut, OutOfMemory}
use Rattle.text_lines.specs.Format.{IsRead}
use Rattle.text_lines.specs.Lines.{lines_of}
use Rattle.texts.specs.Cut.{IsCutFault}
use Rattle.texts.specs.Cut.Line.{FramesAndPieces, nothing, cut_format}
use Rattle.texts.specs.declared.cut.CutInput.{CutInput}
use Rattle.engines.specs.LinesRead.{HasReadLines, IsLinesFault}

-- no lines carry nothing
pub carries_nothing : (frames : List (List ℕ)) (pieces : List Piece) → frames ≡ [] → pieces ≡ [] → nothing ≡ record { frames = frames; pieces = pieces }
carries_nothing frames pieces no_frames no_pieces =
    ap (λ (all : List (List ℕ)). record nothing { frames = all }) (sym no_frames) ∙ ap (λ (all : List Piece). record nothing { frames = frames; pieces = all }) (sym no_pieces)

-- the lines carry these frames and pieces
pub read_cut : (known : Option (List ℕ)) (input : CutInput)
    → (read : HasReadLines cut_format nothing (λ (said : FramesAndPieces) (input : CutInput). said ≡ record { frames = input.frames.items; pieces = input.pieces.items }) known input)
    → IsRead cut_format nothing (lines_of read.input) (record { frames = input.frames.items; pieces = input.pieces.items })
read_cut known input read = subst (λ (said : FramesAndPieces). IsRead cut_format nothing (lines_of read.input) said) read.stands read.read

-- and why there are none
pub lines_fault : (input : List ℕ) (fault : TextFault) → IsLinesFault cut_format nothing input fault → IsCutFault input fault
lines_fault input (Trace fault) faulty = faulty
lines_fault input (Cut fault) faulty = absurd faulty
lines_fault input OutOfMemory faulty = tt
