use Rattle.std.proofs.Common.{sym, subst, List}
use Rattle.captured_flows.specs.Acts.{Act}
use Rattle.capture_rules.specs.Held.{held_by, wait_of}
use Rattle.captured_flows.specs.Flow.{LetsGoIf, not_silent, is_silent_then}
use Rattle.captured_flows.proofs.Taken.{Nothing, takes-none, takes-as}
use Rattle.captured_flows.proofs.Broken.{on-any_err}
use Rattle.captured_flows.proofs.flow_bursts.let_go_if.Goals as goal

pub returns-in_ok-let_go-clause-takes : goal.returns-in_ok-let_go-clause-takes
returns-in_ok-let_go-clause-takes g c =
    takes-as g.C.HeaderCheck.accepts g.O.Consumer.after g.O.CaptureConsumer.saw _ _ c.args.receiver.now _ c.args.out.now _ c.in_ok-let_go.ensures.takes
    (λ made handed more spelled. is_silent_then c.if-is_silent.true spelled)

pub returns-else-is_silent-clause-takes : goal.returns-else-is_silent-clause-takes
returns-else-is_silent-clause-takes g c =
    takes-as g.C.HeaderCheck.accepts g.O.Consumer.after g.O.CaptureConsumer.saw Nothing _ c.args.receiver.now c.args.receiver.now c.args.out.now c.args.out.now (takes-none g.C.HeaderCheck.accepts g.O.Consumer.after g.O.CaptureConsumer.saw c.args.receiver.now c.args.out.now)
    (λ made handed more none. subst (λ (m : List Act). LetsGoIf made (wait_of c.args.held.now) c.args.flow c.args.is_silent c.args.now (held_by c.args.held.now) handed m (held_by c.args.held.now))
    (sym none) (not_silent c.if-is_silent.false))

pub returns-in_err-let_go-clause-breaks : goal.returns-in_err-let_go-clause-breaks
returns-in_err-let_go-clause-breaks g c = on-any_err c.from_residual.result c.in_err-let_go.ensures.breaks
