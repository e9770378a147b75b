use Rattle.std.proofs.lemmas.List.Edits.{map_over_more}
use Rattle.capture_picture.specs.ShownFlow.{halved_flow}
use Rattle.capture_picture.proofs.flow_picture.halve_all.Goals as goal

pub loop-flow-preserved : goal.loop-flow-preserved
loop-flow-preserved c =
    rw (c.halve.ensures, ← c.flow-item.is)
    (map_over_more halved_flow c.args.flows.now c.loop-flow.flow-items c.loop-flow.flow-index c.flow-item.result c.loop-flow-test.true c.loop-flow.invariant c.flow-item.is)
