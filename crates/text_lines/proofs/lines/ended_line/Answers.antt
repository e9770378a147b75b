use Rattle.text_lines.proofs.CutAtLineFeeds.{begins_whole, none_without_last}
use Rattle.text_lines.proofs.lines.ended_line.Goals as goal

pub returns-then-last-eq10 : goal.returns-then-last-eq10
returns-then-last-eq10 c = begins_whole c.args.text.now c.requires c.in_ok-last.line.now c.in_ok-last.last.now c.in_ok-last.ensures.cases.0 c.if-last-eq10.true

pub returns-else-last-eq10 : goal.returns-else-last-eq10
returns-else-last-eq10 c = none_without_last c.args.text.now c.requires c.in_ok-last.line.now c.in_ok-last.last.now c.in_ok-last.ensures.cases.0 c.if-last-eq10.false
