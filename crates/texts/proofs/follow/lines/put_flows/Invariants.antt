use Rattle.std.proofs.Common.{take}
use Rattle.text_lines.specs.Putting.{Puts, numbered_texts}
use Rattle.texts.specs.Follow.{closed_told}
use Rattle.texts.proofs.follow.lines.put_flows.Given as goal

abbrev pub invariant-loop-k : goal.invariant-loop-k
invariant-loop-k g l = Puts g.O.PutText.after l.fn.out (numbered_texts (closed_told l.selected l.records) (take l.k l.flows)) l.out
