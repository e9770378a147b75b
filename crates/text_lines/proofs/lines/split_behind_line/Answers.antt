use Rattle.std.proofs.Common.{◌∙◌, sym}
use Rattle.text_lines.proofs.CutAtLineFeeds.{few_of_line, few_without}
use Rattle.text_lines.proofs.lines.split_behind_line.Goals as goal

pub returns-in-Some-clause-one : goal.returns-in-Some-clause-one
returns-in-Some-clause-one c = few_of_line c.args.text.now c.in-Some.end (sym c.line_end.ensures ∙ c.in-Some.is)

pub returns-in-None-clause-one : goal.returns-in-None-clause-one
returns-in-None-clause-one c = few_without c.args.text.now (sym c.line_end.ensures ∙ c.in-None.is)
