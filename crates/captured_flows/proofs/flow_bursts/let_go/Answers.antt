use Rattle.captured_flows.proofs.Taken.{Nothing, takes-none, takes-as, takes-expecting}
use Rattle.capture_rules.specs.Held.{held_by, wait_of}
use Rattle.captured_flows.specs.Flow.{some_is_old}
use Rattle.captured_flows.proofs.LetGo.{lets_go-none}
use Rattle.captured_flows.proofs.Broken.{on-any_err, breaks-none}
use Rattle.captured_flows.proofs.flow_bursts.let_go.Goals as goal

pub returns-in_ok-skip_past-in-Some-clause-takes : goal.returns-in_ok-skip_past-in-Some-clause-takes
returns-in_ok-skip_past-in-Some-clause-takes g c =
    takes-as g.C.HeaderCheck.accepts g.O.Consumer.after g.O.CaptureConsumer.saw _ _ c.args.receiver.now _ c.args.out.now _
    (takes-expecting g.C.HeaderCheck.accepts g.O.Consumer.after g.O.CaptureConsumer.saw _ c.args.receiver.now _ c.args.out.now _ c.args.flow c.in_ok-first.first c.in_ok-first.ensures.expects c.in_ok-skip_past-in-Some.ensures.takes)
    (λ made handed more spelled. some_is_old c.in_ok-first.first c.in-Some.number spelled.0 c.in-Some.ensures.number spelled.1)

pub returns-in-None-clause-takes : goal.returns-in-None-clause-takes
returns-in-None-clause-takes g c =
    takes-as g.C.HeaderCheck.accepts g.O.Consumer.after g.O.CaptureConsumer.saw _ _ c.args.receiver.now c.args.receiver.now c.args.out.now c.args.out.now
    (takes-expecting g.C.HeaderCheck.accepts g.O.Consumer.after g.O.CaptureConsumer.saw Nothing c.args.receiver.now c.args.receiver.now c.args.out.now c.args.out.now c.args.flow c.in_ok-first.first c.in_ok-first.ensures.expects
    (takes-none g.C.HeaderCheck.accepts g.O.Consumer.after g.O.CaptureConsumer.saw c.args.receiver.now c.args.out.now))
    (λ made handed more spelled. lets_go-none made (wait_of c.args.held.now) c.args.flow c.args.now (held_by c.args.held.now) handed more c.in_ok-first.first spelled.0 c.in-None.ensures.number spelled.1)

pub returns-in_err-first-clause-breaks : goal.returns-in_err-first-clause-breaks
returns-in_err-first-clause-breaks g c =
    on-any_err c.from_residual.result
    (breaks-none g.C.HeaderCheck.accepts g.O.Consumer.after g.O.CaptureConsumer.saw c.args.receiver.now c.args.out.now)

pub returns-in_err-skip_past-in-Some-clause-breaks : goal.returns-in_err-skip_past-in-Some-clause-breaks
returns-in_err-skip_past-in-Some-clause-breaks g c = on-any_err c.from_residual-in_err-skip_past-in-Some.result c.in_err-skip_past-in-Some.ensures.breaks
