use Rattle.answers.proofs.HappeningOfLines.{lines_happen}
use Rattle.answers.proofs.something_happens_for_each_trace.Goals as goal

pub returns : goal.returns
returns c = lines_happen
