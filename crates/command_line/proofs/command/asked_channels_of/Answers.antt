use Rattle.std.specs.Prelude.{map, codes}
use Rattle.command_line.specs.Channels.{AskForChannels}
use Rattle.command_line.proofs.AskedWords.{of_command}
use Rattle.command_line.proofs.command.asked_channels_of.Goals as goal

pub returns : goal.returns
returns g c = λ channels.
    of_command (codes "follow") (map g.S.AsStr.text c.args.words.now) _ (AskForChannels channels) c.in_ok-options_of.ensures (c.asked_channels.ensures channels)
