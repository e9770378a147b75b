use Rattle.std.proofs.Common.{◌≡◌, map, take}
use Rattle.captured_flows.specs.Captures.{record_of}
use Rattle.captured_flows.proofs.map_setup.records_of.Given as goal

abbrev pub invariant-loop-flow : goal.invariant-loop-flow
invariant-loop-flow l = l.records.items ≡ map record_of (take l.flow-index l.flows)
