use Rattle.std.proofs.Common.{◌≡◌, map, take}
use Rattle.c_receiver.specs.Made.{record_of}
use Rattle.c_receiver.proofs.setup.records_of.Given as goal

abbrev pub invariant-loop-flow : goal.invariant-loop-flow
invariant-loop-flow l = l.records.items ≡ map record_of (take l.flow-index l.flows)
