use Rattle.std.proofs.Common.{◌≡◌, map, take}
use Rattle.captured_flows.specs.Together.{HaveWaits, views_of, view_begun}
use Rattle.captured_flows.proofs.map_setup.flows_of.Given as goal

abbrev pub invariant-loop-flow : goal.invariant-loop-flow
invariant-loop-flow l = record {
  views : views_of l.begun.items ≡ map (view_begun l.waits) (take l.flow-index l.flows);
  waits : HaveWaits l.waits l.begun.items;
}
