-- The tallies of the lanes so far.
use Rattle.std.proofs.Common.{◌≡◌, length}
use Rattle.receiver.specs.Received.{AreTalliesOf}
use Rattle.receiver.proofs.closing.tallies_of.Given as goal

abbrev pub invariant-loop-one : goal.invariant-loop-one
invariant-loop-one l = record {
  count : length l.tallies.items ≡ l.one-index;
  each : AreTalliesOf l.lanes l.tallies.items;
}
