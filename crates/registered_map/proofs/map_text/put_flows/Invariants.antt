use Rattle.std.proofs.Common.{take}
use Rattle.std.specs.Prelude.{flat_map}
use Rattle.text_lines.specs.Putting.{Puts}
use Rattle.registered_map.specs.MapText.{flow_lines}
use Rattle.registered_map.proofs.map_text.put_flows.Given as goal

abbrev pub invariant-loop-flow : goal.invariant-loop-flow
invariant-loop-flow g l = Puts g.O.PutText.after l.fn.out (flat_map flow_lines (take l.flow-index l.flows)) l.out
