use Rattle.std.proofs.Common.{Option, None, sym, subst, List}
use Rattle.captured_flows.specs.Acts.{Act}
use Rattle.capture_rules.specs.Held.{held_by, wait_of}
use Rattle.captured_flows.specs.Flow.{Next, HandsInIf, is_kept_then, is_handed_in}
use Rattle.captured_flows.proofs.Taken.{Nothing, takes-none, takes-as}
use Rattle.captured_flows.proofs.Broken.{on-any_err}
use Rattle.captured_flows.proofs.flow_bursts.hand_in_if.Goals as goal

pub returns-in_ok-hand_in-in-Some-clause-takes : goal.returns-in_ok-hand_in-in-Some-clause-takes
returns-in_ok-hand_in-in-Some-clause-takes g c =
    takes-as g.C.HeaderCheck.accepts g.O.Consumer.after g.O.CaptureConsumer.saw _ _ c.args.receiver.now _ c.args.out.now _ c.in_ok-hand_in-in-Some.ensures.takes
    (λ made handed more spelled. subst (λ (n : Option Next). HandsInIf made (wait_of c.args.held.now) c.args.flow (held_by c.args.held.now) handed n more (held_by c.hand_in.new.held))
    (sym c.in-Some.is) (is_handed_in spelled))

pub returns-in-None-clause-takes : goal.returns-in-None-clause-takes
returns-in-None-clause-takes g c =
    takes-as g.C.HeaderCheck.accepts g.O.Consumer.after g.O.CaptureConsumer.saw Nothing _ c.args.receiver.now c.args.receiver.now c.args.out.now c.args.out.now (takes-none g.C.HeaderCheck.accepts g.O.Consumer.after g.O.CaptureConsumer.saw c.args.receiver.now c.args.out.now)
    (λ made handed more none. subst (λ (n : Option Next). HandsInIf made (wait_of c.args.held.now) c.args.flow (held_by c.args.held.now) handed n more (held_by c.args.held.now)) (sym c.in-None.is)
    (subst (λ (m : List Act). HandsInIf made (wait_of c.args.held.now) c.args.flow (held_by c.args.held.now) handed None m (held_by c.args.held.now)) (sym none) is_kept_then))

pub returns-in_err-hand_in-in-Some-clause-breaks : goal.returns-in_err-hand_in-in-Some-clause-breaks
returns-in_err-hand_in-in-Some-clause-breaks g c = on-any_err c.from_residual.result c.in_err-hand_in-in-Some.ensures.breaks
