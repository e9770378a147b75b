use Rattle.std.proofs.Common.{◌∙◌, ℕ, List, ap, sym, subst}
use Rattle.std.specs.Prelude.{flat_map}
use Rattle.docsis_wire.specs.declared.pieces.Piece.{Piece}
use Rattle.docsis_wire.specs.Pieces.{fill_byte}
use Rattle.texts.specs.Cut.{IsCutInto, segment_line}
use Rattle.texts.proofs.OneCutFault.{one_input}
use Rattle.texts.proofs.laws.cut_has_one_text.Goals as goal
use Rattle.texts.specs.AnyHeader.{any_header}

pub returns : goal.returns
returns c first fill input text other a b =
    let same = one_input input a.frames b.frames a.pieces b.pieces a.read b.read in
    let Frames : List (List ℕ) → Type 0 = λ frames. IsCutInto first fill frames a.pieces a.segments in
    let Pieces : List Piece → Type 0 = λ pieces. IsCutInto first fill b.frames pieces a.segments in
    let cut : IsCutInto first fill b.frames b.pieces a.segments = subst Pieces same.1 (subst Frames same.0 a.cut) in
    let segments = c.pieces_make_one_cut.ensures any_header b.frames b.pieces first (fill_byte fill) a.segments b.segments cut.lawful cut.named b.cut.lawful b.cut.named in
    a.printed ∙ ap (flat_map segment_line) segments ∙ sym b.printed
