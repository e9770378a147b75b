use Rattle.std.proofs.Common.{◌≡◌, map, take}
use Rattle.serde_json.specs.View.{view}
use Rattle.capture_json.specs.Compared.{compared_data, compared_flows}
use Rattle.capture_json.proofs.compared.all_compared.Given as goal

-- each one so far of which something came
abbrev pub invariant-loop-flow : goal.invariant-loop-flow
invariant-loop-flow l = map view l.values.items ≡ map (compared_data l.flows) (compared_flows (take l.flow l.all))
