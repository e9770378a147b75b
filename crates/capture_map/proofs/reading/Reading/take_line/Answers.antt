-- What the line says was added.
use Rattle.std.proofs.Common.{◌∷◌}
use Rattle.text_lines.specs.Lines.{words_of, fields_of}
use Rattle.capture_map.proofs.MapSoFar.{line_taken}
use Rattle.capture_map.proofs.reading.Reading.take_line.Goals as goal

pub returns : goal.returns
returns c = λ said has.
    line_taken said (fields_of c.args.line.now) (c.in-Some.field.now ∷ words_of c.in-Some.rest.now) c.in_ok-line.line c.add.new.self c.add.result c.in-Some.ensures
    c.in_ok-line.ensures.says (c.add.ensures said has)
