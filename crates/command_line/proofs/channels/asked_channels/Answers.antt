use Rattle.std.specs.Prelude.{map}
use Rattle.command_line.proofs.AskedChannels.{AskForChannels-none, AskForChannels-given, AskForChannels-twice}
use Rattle.command_line.proofs.channels.asked_channels.Goals as goal

pub returns-in-Ok-None : goal.returns-in-Ok-None
returns-in-Ok-None g c = AskForChannels-none (map g.S.AsStr.text c.args.options.now) (rw c.in-Ok-None.field-0-is at c.in-Ok-None.ensures.only)

pub returns-in-Ok-Some : goal.returns-in-Ok-Some
returns-in-Ok-Some g c =
    AskForChannels-given (map g.S.AsStr.text c.args.options.now) c.in-Ok-Some.value.now c.read_channels.result (rw c.in-Ok-Some.field-0-is at c.in-Ok-Some.ensures.only) c.read_channels.ensures

pub returns-in-Err : goal.returns-in-Err
returns-in-Err g c =
    let twice = c.in-Err.ensures.twice.1 in
    AskForChannels-twice (map g.S.AsStr.text c.args.options.now) twice.0 twice.3.0 twice.1 twice.3.1 twice.2 twice.3.2
