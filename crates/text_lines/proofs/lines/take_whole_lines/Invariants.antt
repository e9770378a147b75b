use Rattle.std.proofs.Common.{length}
use Rattle.text_lines.proofs.LinesTaken.{HasWalked}
use Rattle.text_lines.proofs.lines.take_whole_lines.Given as goal

abbrev pub invariant-loop-line : goal.invariant-loop-line
invariant-loop-line g l = HasWalked g.T.TakeLine.format g.T.TakeLine.stands_for l.initial.taker l.taker l.initial.count l.count l.text l.rest

abbrev pub decreases-loop-line : goal.decreases-loop-line
decreases-loop-line g l = length l.rest
