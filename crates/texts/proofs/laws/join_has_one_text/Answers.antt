use Rattle.std.proofs.Common.{◌∙◌, [], Some, ap, sym, subst}
use Rattle.std.specs.Prelude.{map, flat_map}
use Rattle.ccf.specs.Join.{Joins}
use Rattle.text_lines.specs.Lines.{lines_of}
use Rattle.text_lines.proofs.LinesReadOneWay.{one_reading}
use Rattle.texts.specs.Join.{frame_line}
use Rattle.texts.specs.Join.Line.{join_format}
use Rattle.texts.proofs.OneJoinLine.{join_is_determined}
use Rattle.texts.proofs.laws.join_has_one_text.Goals as goal
use Rattle.texts.specs.AnyHeader.{any_header}

pub returns : goal.returns
returns c input text other a b =
    let segments = one_reading join_format (join_is_determined c.eight_bytes_spell_one_header.ensures) (lines_of input) [] a.segments b.segments a.read b.read in
    let joined : Joins any_header [] (map Some b.segments) a.frames a.unfinished = subst (λ segments. Joins any_header [] (map Some segments) a.frames a.unfinished) segments a.joined in
    let frames = (c.joining_has_one_answer.ensures any_header [] (map Some b.segments) a.frames b.frames a.unfinished b.unfinished joined b.joined).0 in
    a.printed ∙ ap (flat_map frame_line) frames ∙ sym b.printed
