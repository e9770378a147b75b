-- All flows are closed, and the tallies are those of the lanes.
use Rattle.std.proofs.Common.{length, refl, sym, ap, subst, ◌∙◌}
use Rattle.receiver.specs.Received.{AreTalliesOf}
use Rattle.receiver.proofs.ClosedFlows.{holds-ok, closes-all}
use Rattle.receiver.proofs.closing.Closing.go_on.Goals as goal

pub returns-in-Ok-clause-closes : goal.returns-in-Ok-clause-closes
returns-in-Ok-clause-closes g c =
    closes-all g.C.HeaderCheck.accepts g.O.Consumer.after c.args.self c.close_flows.new.self c.args.out.now c.close_flows.new.out _ c.close_flows.ensures.closes
    (holds-ok c.close_flows.result (sym c.is_err.ensures.value ∙ c.if-is_err.false) c.close_flows.ensures.all) refl
    (c.in-Ok.ensures.count ∙ ap length c.deref.ensures.value)
    (subst (λ lanes. AreTalliesOf lanes c.in-Ok.lanes.items) c.deref.ensures.value c.in-Ok.ensures.each)
