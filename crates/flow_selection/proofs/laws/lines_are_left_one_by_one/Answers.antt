use Rattle.flow_selection.proofs.LinesLeft.{text_left-all, text_left-append}
use Rattle.flow_selection.proofs.laws.lines_are_left_one_by_one.Goals as goal

pub returns-clause-all : goal.returns-clause-all
returns-clause-all c = text_left-all

pub returns-clause-parts : goal.returns-clause-parts
returns-clause-parts c = text_left-append
