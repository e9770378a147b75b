use Rattle.std.proofs.Common.{take}
use Rattle.std.specs.Prelude.{flat_map}
use Rattle.text_lines.specs.Putting.{Puts}
use Rattle.registered_map.specs.MapText.{channel_lines}
use Rattle.registered_map.proofs.map_text.put_channels.Given as goal

abbrev pub invariant-loop-one : goal.invariant-loop-one
invariant-loop-one g l = Puts g.O.PutText.after l.fn.out (flat_map channel_lines (take l.one-index l.channels)) l.out
