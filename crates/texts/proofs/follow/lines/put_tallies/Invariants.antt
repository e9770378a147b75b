use Rattle.std.proofs.Common.{take}
use Rattle.text_lines.specs.Putting.{Puts, numbered_texts}
use Rattle.texts.specs.Follow.{tally_line}
use Rattle.texts.proofs.follow.lines.put_tallies.Given as goal

abbrev pub invariant-loop-channel : goal.invariant-loop-channel
invariant-loop-channel g l = Puts g.O.PutText.after l.fn.out (numbered_texts tally_line (take l.channel l.tallies)) l.out
