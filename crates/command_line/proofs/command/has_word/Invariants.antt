use Rattle.std.proofs.Common.{length}
use Rattle.std.specs.Prelude.{map, ◌↔◌}
use Rattle.command_line.specs.Command.{HasWord}
use Rattle.command_line.proofs.command.has_word.Given as goal

-- one of the words is the wanted one just if one of the rest is
abbrev pub invariant-loop-rest : goal.invariant-loop-rest
invariant-loop-rest g l = HasWord l.wanted (map g.S.AsStr.text l.words) ↔ HasWord l.wanted (map g.S.AsStr.text l.rest)

abbrev pub decreases-loop-rest : goal.decreases-loop-rest
decreases-loop-rest g l = length l.rest
