use Rattle.std.proofs.Common.{ap, ◌∙◌}
use Rattle.text_lines.specs.Lines.{words_of}
use Rattle.text_lines.proofs.HexWords.{only_field}
use Rattle.text_lines.proofs.field.likely_field.Goals as goal

pub returns : goal.returns
returns c = λ hex.
    let behind = c.in-Some.ensures in
    ap words_of behind.0 ∙ only_field c.in-Some.field.now hex.0 behind.1 hex.1
