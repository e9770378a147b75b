use Rattle.std.proofs.Common.{◌≡◌, map, take}
use Rattle.serde_json.specs.View.{view}
use Rattle.capture_summary.specs.Counting.{selected_flows}
use Rattle.capture_json.specs.Counted.{flow_data}
use Rattle.capture_json.proofs.all_flows.Given as goal

-- each one so far that is selected
abbrev pub invariant-loop-flow : goal.invariant-loop-flow
invariant-loop-flow l = map view l.values.items ≡ map flow_data (selected_flows (take l.flow-index l.flows))
