use Rattle.docsis_wire.specs.Pieces.{fill_byte}
use Rattle.texts.proofs.OneCutFault.{cut_without_fault}
use Rattle.texts.proofs.laws.faulty_input_of_cut_has_no_text.Goals as goal
use Rattle.texts.specs.AnyHeader.{any_header}

pub returns : goal.returns
returns c first fill input text fault a h =
    let can = c.lawful_cut_has_no_fault.ensures any_header a.frames a.pieces first (fill_byte fill) a.segments a.cut.lawful a.cut.named in
    cut_without_fault (c.cut_has_one_fault.ensures any_header) input a.frames a.pieces fault a.read can h
