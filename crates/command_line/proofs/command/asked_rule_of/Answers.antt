use Rattle.std.specs.Prelude.{map}
use Rattle.command_line.specs.Losses.{AskForRule}
use Rattle.command_line.proofs.AskedWords.{of_command}
use Rattle.command_line.proofs.command.asked_rule_of.Goals as goal

pub returns : goal.returns
returns g c = λ rule.
    of_command c.args.command.now (map g.S.AsStr.text c.args.words.now) _ (AskForRule rule) c.in_ok-options_of.ensures (c.asked_rule.ensures rule)
