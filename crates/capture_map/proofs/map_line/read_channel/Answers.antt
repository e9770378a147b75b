-- As many fields as there have to be, and they say nothing.
use Rattle.std.proofs.Common.{refl}
use Rattle.text_lines.specs.Lines.{words_of}
use Rattle.capture_map.proofs.NothingSaid.{SaysNothing-channel}
use Rattle.capture_map.proofs.map_line.read_channel.Goals as goal

pub returns-in-None-clause-fault : goal.returns-in-None-clause-fault
returns-in-None-clause-fault c =
    SaysNothing-channel (words_of c.args.rest.now) c.in-Some.channel.now c.in-Some.id.now c.in-Some.ensures (c.in-None.ensures.none refl)
