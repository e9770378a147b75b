use Rattle.std.proofs.Common.{Option, sym, subst}
use Rattle.std.specs.Prelude.{option_to_list}
use Rattle.captured_flows.specs.Flow.{Next, AreHandedOn}
use Rattle.captured_flows.specs.Taking.{TakesBy}
use Rattle.capture_rules.specs.Begin.{beginning_seen}
use Rattle.capture_rules.specs.Held.{held_by, wait_of}
use Rattle.captured_flows.proofs.HandedOnTo.{none-handed_on, one-handed_on}
use Rattle.captured_flows.proofs.Taken.{Nothing, takes-none, takes-as}
use Rattle.captured_flows.proofs.flow_bursts.CapturedFlow.hand_on_if.Goals as goal

pub returns-in_ok-hand_on-in-Some-clause-takes : goal.returns-in_ok-hand_on-in-Some-clause-takes
returns-in_ok-hand_on-in-Some-clause-takes g c =
    let flow = c.args.self.now in
    let after = c.hand_on.new.self in
    subst
    (λ (last : Option Next). TakesBy g.C.HeaderCheck.accepts g.O.CaptureConsumer.saw
    (λ made handed more. AreHandedOn made (wait_of flow.held) c.args.flow flow.window (option_to_list last) (beginning_seen flow.beginning) (held_by flow.held) handed more (beginning_seen after.beginning) (held_by after.held))
    c.args.receiver.now c.args.out.now c.hand_on.new.receiver c.hand_on.new.out)
    (sym c.in-Some.is)
    (takes-as g.C.HeaderCheck.accepts g.O.Consumer.after g.O.CaptureConsumer.saw _ _ c.args.receiver.now c.hand_on.new.receiver c.args.out.now c.hand_on.new.out c.in_ok-hand_on-in-Some.ensures.takes
    (λ made handed more is. one-handed_on made (wait_of flow.held) c.args.flow flow.window c.in-Some.one (beginning_seen flow.beginning) (beginning_seen after.beginning) (held_by flow.held) (held_by after.held) handed more is))

pub returns-in-None-clause-takes : goal.returns-in-None-clause-takes
returns-in-None-clause-takes g c =
    let flow = c.args.self.now in
    subst
    (λ (last : Option Next). TakesBy g.C.HeaderCheck.accepts g.O.CaptureConsumer.saw
    (λ made handed more. AreHandedOn made (wait_of flow.held) c.args.flow flow.window (option_to_list last) (beginning_seen flow.beginning) (held_by flow.held) handed more (beginning_seen flow.beginning) (held_by flow.held))
    c.args.receiver.now c.args.out.now c.args.receiver.now c.args.out.now)
    (sym c.in-None.is)
    (takes-as g.C.HeaderCheck.accepts g.O.Consumer.after g.O.CaptureConsumer.saw Nothing _ c.args.receiver.now c.args.receiver.now c.args.out.now c.args.out.now (takes-none g.C.HeaderCheck.accepts g.O.Consumer.after g.O.CaptureConsumer.saw c.args.receiver.now c.args.out.now)
    (λ made handed more none. none-handed_on made (wait_of flow.held) c.args.flow flow.window (beginning_seen flow.beginning) (held_by flow.held) handed more (sym none)))
