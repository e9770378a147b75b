use Rattle.std.proofs.Common.{ℕ, ◌++◌, List, refl, subst, sym, ◌∙◌}
use Rattle.std.specs.Prelude.{option_to_list}
use Rattle.captured_flows.specs.Acts.{Act}
use Rattle.capture_rules.specs.declared.channel_order.ChannelOrder.{ChannelOrder}
use Rattle.capture_rules.specs.Order.{TakesIn}
use Rattle.capture_rules.specs.Waiting.{order_seen}
use Rattle.captured_flows.specs.declared.sound_burst.SoundBurst.{SoundBurst}
use Rattle.capture_rules.specs.Begin.{beginning_seen}
use Rattle.capture_rules.specs.Held.{held_by, wait_of}
use Rattle.captured_flows.specs.Flow.{AreHandedOn}
use Rattle.captured_flows.specs.Taking.{TakesBy}
use Rattle.captured_flows.proofs.HandedOnTo.{more-handed_on}
use Rattle.captured_flows.proofs.Taken.{takes-as, takes-then}
use Rattle.captured_flows.proofs.Broken.{on-any_err, breaks-behind, breaks-after}
use Rattle.captured_flows.proofs.flow_bursts.CapturedFlow.come.Goals as goal

pub returns-clause-takes : goal.returns-clause-takes
returns-clause-takes g c =
    let flow = c.args.self.now in
    let now = c.pass_on.new.self in
    let after = c.hand_on_if.new.self in
    let k = c.args.flow in
    let w = wait_of flow.held in
    let last = c.in_ok-last.last in
    let at_wait = subst (λ (n : ℕ). TakesBy g.C.HeaderCheck.accepts g.O.CaptureConsumer.saw (λ made handed more. AreHandedOn made n k now.window (option_to_list last) (beginning_seen now.beginning) (held_by now.held) handed more (beginning_seen after.beginning) (held_by after.held))
    c.pass_on.new.receiver c.pass_on.new.out c.hand_on_if.new.receiver c.hand_on_if.new.out) c.pass_on.ensures.waits.wait c.in_ok-hand_on_if.ensures.takes in
    let handed_on = subst (λ (n : ℕ). TakesBy g.C.HeaderCheck.accepts g.O.CaptureConsumer.saw (λ made handed more. AreHandedOn made w k n (option_to_list last) (beginning_seen now.beginning) (held_by now.held) handed more (beginning_seen after.beginning) (held_by after.held))
    c.pass_on.new.receiver c.pass_on.new.out c.hand_on_if.new.receiver c.hand_on_if.new.out) c.pass_on.ensures.waits.window at_wait in
    takes-as g.C.HeaderCheck.accepts g.O.Consumer.after g.O.CaptureConsumer.saw _ _ c.args.receiver.now c.hand_on_if.new.receiver c.args.out.now c.hand_on_if.new.out
    (takes-then g.C.HeaderCheck.accepts g.O.Consumer.after g.O.CaptureConsumer.saw _ _ c.args.receiver.now c.pass_on.new.receiver c.hand_on_if.new.receiver c.args.out.now c.pass_on.new.out c.hand_on_if.new.out c.in_ok-pass_on.ensures.takes handed_on)
    (λ made handed more (first, later, passes, hands, all). record {
      due = passes.due ++ option_to_list last;
      burst_comes = record {
        due = passes.due;
        between = order_seen now.order;
        hands_on = passes.hands_on;
        last = last;
        takes_in = subst (λ (o : ChannelOrder SoundBurst). TakesIn (order_seen now.order) c.args.one last (order_seen o)) (sym c.hand_on_if.ensures.order) c.in_ok-last.ensures.takes_in;
        all = refl;
      };
      handed_on = subst (λ (m : List Act). AreHandedOn made w k flow.window (passes.due ++ option_to_list last) (beginning_seen flow.beginning) (held_by flow.held) handed m (beginning_seen after.beginning) (held_by after.held))
          (sym all) (more-handed_on made w k flow.window passes.handed_on hands);
      window = c.hand_on_if.ensures.waits.window ∙ c.pass_on.ensures.waits.window;
    })

pub returns-in_err-pass_on-clause-breaks : goal.returns-in_err-pass_on-clause-breaks
returns-in_err-pass_on-clause-breaks g c = on-any_err c.from_residual.result c.in_err-pass_on.ensures.breaks

pub returns-in_err-last-clause-breaks : goal.returns-in_err-last-clause-breaks
returns-in_err-last-clause-breaks g c =
    on-any_err c.from_residual-in_err-last.result
    (breaks-after g.C.HeaderCheck.accepts g.O.Consumer.after g.O.CaptureConsumer.saw _ c.args.receiver.now c.pass_on.new.receiver c.args.out.now c.pass_on.new.out c.in_ok-pass_on.ensures.takes)

pub returns-in_err-hand_on_if-clause-breaks : goal.returns-in_err-hand_on_if-clause-breaks
returns-in_err-hand_on_if-clause-breaks g c =
    on-any_err c.from_residual-in_err-hand_on_if.result
    (breaks-behind g.C.HeaderCheck.accepts g.O.Consumer.after g.O.CaptureConsumer.saw _ c.args.receiver.now c.pass_on.new.receiver c.hand_on_if.new.receiver c.args.out.now c.pass_on.new.out c.hand_on_if.new.out c.in_ok-pass_on.ensures.takes c.in_err-hand_on_if.ensures.breaks)
