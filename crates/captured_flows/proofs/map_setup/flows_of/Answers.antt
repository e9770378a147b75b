use Rattle.std.proofs.Common.{Bool, None, get_or, ap, subst, sym, ◌∙◌}
use Rattle.capture_map.specs.declared.map.MapFlow.{MapFlow}
use Rattle.captured_flows.specs.Flow.{flow_begun}
use Rattle.captured_flows.specs.Together.{HaveWaits, views_of}
use Rattle.captured_flows.proofs.Together.{waits-more, views-more}
use Rattle.captured_flows.proofs.map_setup.flows_of.Goals as goal

pub loop-flow-preserved : goal.loop-flow-preserved
loop-flow-preserved c =
    let begun = c.loop-flow.begun.items in
    let new = c.new.result in
    let none : MapFlow = record { sfid = 0; first = None; window = 0; clusters = 0 } in
    record {
      views = ap views_of c.in_ok-push.ensures.items
          ∙ views-more c.args.waits begun c.args.flows.now c.loop-flow.flow-index none new c.loop-flow-test.true c.loop-flow.invariant.views
          (c.new.ensures.seen ∙ ap (λ (b : Bool). flow_begun (get_or c.args.flows.now c.loop-flow.flow-index none).window b c.args.waits.reorder c.args.waits.wait) c.is_some.ensures);
      waits = subst (HaveWaits c.args.waits) (sym c.in_ok-push.ensures.items) (waits-more c.args.waits begun new c.loop-flow.invariant.waits c.new.ensures.waits);
    }
