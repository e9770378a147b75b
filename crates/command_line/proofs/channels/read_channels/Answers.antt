use Rattle.std.proofs.Common.{rules}
use Rattle.command_line.proofs.AskedChannels.{channels_read, no_channels_read}
use Rattle.command_line.proofs.channels.read_channels.Goals as goal

pub returns : goal.returns
returns c = channels_read c.args.value.now c.in_ok-channels.channels (search rules)

pub returns-in_err-channels : goal.returns-in_err-channels
returns-in_err-channels c = rw c.from_residual.ensures (no_channels_read c.args.value.now (search rules))
