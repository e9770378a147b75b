use Rattle.std.proofs.Common.{◌≡◌, ◌++◌, map, take, drop}
use Rattle.capture_picture.specs.ShownFlow.{halved_flow}
use Rattle.capture_picture.proofs.flow_picture.halve_all.Given as goal

-- the flows so far are halved, and the others are as they were
abbrev pub invariant-loop-flow : goal.invariant-loop-flow
invariant-loop-flow l = l.flow-items ≡ map halved_flow (take l.flow-index l.initial.flow-items) ++ drop l.flow-index l.initial.flow-items
