use Rattle.std.proofs.Common.{rules}
use Rattle.command_line.proofs.AskedWords.{options_behind}
use Rattle.command_line.proofs.command.options_of.Goals as goal

pub returns : goal.returns
returns g c = (search rules, options_behind g.S.AsStr.text c.args.words.now c.in-len2-up.len_at_least)
