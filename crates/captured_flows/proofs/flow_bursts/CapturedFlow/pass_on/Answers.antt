use Rattle.std.proofs.Common.{ℕ, ◌<◌, List, [], ◌∷◌, ◌++◌, length, refl, sym, subst, ◌∙◌}
use Rattle.captured_flows.specs.Acts.{Act}
use Rattle.capture_rules.specs.declared.channel_order.ChannelOrder.{ChannelOrder}
use Rattle.capture_rules.specs.Waiting.{order_seen}
use Rattle.capture_rules.specs.Order.{OrderView, HandsOn}
use Rattle.capture_rules.specs.Begin.{beginning_seen}
use Rattle.capture_rules.specs.Held.{held_by, wait_of}
use Rattle.captured_flows.specs.declared.sound_burst.SoundBurst.{SoundBurst}
use Rattle.captured_flows.specs.Flow.{IsHandedOn, AreHandedOn, no_more, next_one}
use Rattle.captured_flows.specs.Taking.{TakesBy}
use Rattle.captured_flows.proofs.Waited.{HandsOnAfter, after-none, after-next, after-all, next-shorter}
use Rattle.captured_flows.proofs.Taken.{Nothing, takes-none, takes-as, takes-then}
use Rattle.captured_flows.proofs.Broken.{on-any_err, breaks-behind}
use Rattle.captured_flows.proofs.flow_bursts.CapturedFlow.pass_on.Goals as goal

pub loop-next-init : goal.loop-next-init
loop-next-init g c =
    let flow = c.args.self.now in
    let beginning = beginning_seen flow.beginning in
    let held = held_by flow.held in
    record {
      due = [];
      hands_on = after-none c.args.time (order_seen flow.order);
      takes = takes-as g.C.HeaderCheck.accepts g.O.Consumer.after g.O.CaptureConsumer.saw Nothing _ c.args.receiver.now c.args.receiver.now c.args.out.now c.args.out.now (takes-none g.C.HeaderCheck.accepts g.O.Consumer.after g.O.CaptureConsumer.saw c.args.receiver.now c.args.out.now)
          (λ made handed more none. subst (λ (m : List Act). AreHandedOn made (wait_of flow.held) c.args.flow flow.window [] beginning held handed m beginning held) (sym none) no_more);
      at_hand = c.requires.at_hand;
      waits = record { window = refl; wait = refl };
    }

pub loop-next-smaller : goal.loop-next-smaller
loop-next-smaller g c =
    subst (λ (o : ChannelOrder SoundBurst). length (order_seen o).waiting < length (order_seen c.loop-next.self.order).waiting) (sym c.hand_on.ensures.order)
    (next-shorter (order_seen c.loop-next.self.order).waiting (order_seen c.next.new.self).waiting c.in-Some.next c.in-Some.ensures.next)

pub loop-next-preserved : goal.loop-next-preserved
loop-next-preserved g c =
    let flow = c.args.self.now in
    let now = c.loop-next.self in
    let after = c.hand_on.new.self in
    let next = c.in-Some.next in
    let k = c.args.flow in
    let w = wait_of flow.held in
    let so_far = c.loop-next.invariant in
    let at_wait = subst (λ (n : ℕ). TakesBy g.C.HeaderCheck.accepts g.O.CaptureConsumer.saw (λ made handed more. IsHandedOn made n k now.window next (beginning_seen now.beginning) (held_by now.held) handed more (beginning_seen after.beginning) (held_by after.held))
    c.loop-next.receiver c.loop-next.out c.hand_on.new.receiver c.hand_on.new.out) so_far.waits.wait c.in_ok-hand_on.ensures.takes in
    let handed_on = subst (λ (n : ℕ). TakesBy g.C.HeaderCheck.accepts g.O.CaptureConsumer.saw (λ made handed more. IsHandedOn made w k n next (beginning_seen now.beginning) (held_by now.held) handed more (beginning_seen after.beginning) (held_by after.held))
    c.loop-next.receiver c.loop-next.out c.hand_on.new.receiver c.hand_on.new.out) so_far.waits.window at_wait in
    record {
      due = so_far.due ++ next ∷ [];
      hands_on = subst (λ (o : ChannelOrder SoundBurst). HandsOnAfter c.args.time (order_seen flow.order) (so_far.due ++ next ∷ []) (order_seen o)) (sym c.hand_on.ensures.order)
          (after-next c.args.time (order_seen flow.order) (order_seen now.order) (order_seen c.next.new.self) so_far.due next so_far.hands_on (sym c.in-Some.ensures.due) c.in-Some.ensures.next c.next.ensures.stays);
      takes = takes-as g.C.HeaderCheck.accepts g.O.Consumer.after g.O.CaptureConsumer.saw _ _ c.args.receiver.now c.hand_on.new.receiver c.args.out.now c.hand_on.new.out
          (takes-then g.C.HeaderCheck.accepts g.O.Consumer.after g.O.CaptureConsumer.saw _ _ c.args.receiver.now c.loop-next.receiver c.hand_on.new.receiver c.args.out.now c.loop-next.out c.hand_on.new.out so_far.takes handed_on)
          (λ made handed more spelled. subst (λ (m : List Act). AreHandedOn made w k flow.window (so_far.due ++ next ∷ []) (beginning_seen flow.beginning) (held_by flow.held) handed m (beginning_seen after.beginning) (held_by after.held))
          (sym spelled.4) (next_one spelled.2 spelled.3));
      at_hand = c.in_ok-hand_on.ensures.at_hand;
      waits = record {
        window = c.hand_on.ensures.waits.window ∙ so_far.waits.window;
        wait = c.hand_on.ensures.waits.wait ∙ so_far.waits.wait;
      };
    }

pub returns-clause-takes : goal.returns-clause-takes
returns-clause-takes g c =
    let flow = c.args.self.now in
    let so_far = c.loop-next.invariant in
    takes-as g.C.HeaderCheck.accepts g.O.Consumer.after g.O.CaptureConsumer.saw _ _ c.args.receiver.now c.loop-next.receiver c.args.out.now c.loop-next.out so_far.takes
    (λ made handed more spelled. record {
      due = so_far.due;
      hands_on = subst (λ (o : OrderView SoundBurst). HandsOn c.args.time (order_seen flow.order) so_far.due o) (sym c.in_default.ensures.unchanged)
          (after-all c.args.time (order_seen flow.order) (order_seen c.loop-next.self.order) so_far.due so_far.hands_on (sym c.in_default.ensures.due));
      handed_on = spelled;
      window = so_far.waits.window;
    })

pub returns-in_err-hand_on-clause-breaks : goal.returns-in_err-hand_on-clause-breaks
returns-in_err-hand_on-clause-breaks g c =
    on-any_err c.from_residual.result
    (breaks-behind g.C.HeaderCheck.accepts g.O.Consumer.after g.O.CaptureConsumer.saw _ c.args.receiver.now c.loop-next.receiver c.hand_on.new.receiver c.args.out.now c.loop-next.out c.hand_on.new.out c.loop-next.invariant.takes c.in_err-hand_on.ensures.breaks)
