-- There is a slot for each record so far, and each is a new one.
use Rattle.std.proofs.Common.{◌≡◌, length}
use Rattle.bonded_flows.specs.Slots.{AreNewSlots}
use Rattle.bonded_flows.proofs.flow_table.new_slots.Given as goal

abbrev pub invariant-loop-index : goal.invariant-loop-index
invariant-loop-index l = record {
  count : length l.slots.items ≡ l.index;
  each : AreNewSlots l.rule l.records l.sets l.channel_count l.slots.items;
}
