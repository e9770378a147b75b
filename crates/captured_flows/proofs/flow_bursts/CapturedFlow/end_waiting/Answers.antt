use Rattle.std.proofs.Common.{◌≡◌, ℕ, ◌<◌, List, [], ◌∷◌, ◌++◌, length, refl, ap, sym, subst, ◌∙◌}
use Rattle.captured_flows.specs.Acts.{Act}
use Rattle.capture_rules.specs.declared.channel_order.ChannelOrder.{ChannelOrder}
use Rattle.capture_rules.specs.Waiting.{order_seen}
use Rattle.capture_rules.specs.declared.arrival.Waiting.{Waiting}
use Rattle.capture_rules.specs.Order.{OrderView}
use Rattle.capture_rules.specs.Begin.{beginning_seen, is_beginning}
use Rattle.capture_rules.specs.Held.{held_by, wait_of}
use Rattle.captured_flows.specs.declared.sound_burst.SoundBurst.{SoundBurst}
use Rattle.captured_flows.specs.Flow.{IsHandedOn, AreHandedOn, no_more, next_one, BeginsIf}
use Rattle.captured_flows.specs.Taking.{TakesBy}
use Rattle.captured_flows.proofs.Waited.{HandsAllOnAfter, all-none, all-next, all-all, next-shorter, none-there}
use Rattle.captured_flows.proofs.HandedOnTo.{ends-if}
use Rattle.captured_flows.proofs.Taken.{Nothing, takes-none, takes-as, takes-then}
use Rattle.captured_flows.proofs.Broken.{on-any_err, breaks-behind}
use Rattle.captured_flows.proofs.flow_bursts.CapturedFlow.end_waiting.Goals as goal

pub loop-next-init : goal.loop-next-init
loop-next-init g c =
    let flow = c.args.self.now in
    let beginning = beginning_seen flow.beginning in
    let held = held_by flow.held in
    record {
      due = [];
      hands_on = all-none (order_seen flow.order).waiting;
      stays = refl;
      takes = takes-as g.C.HeaderCheck.accepts g.O.Consumer.after g.O.CaptureConsumer.saw Nothing _ c.args.receiver.now c.args.receiver.now c.args.out.now c.args.out.now (takes-none g.C.HeaderCheck.accepts g.O.Consumer.after g.O.CaptureConsumer.saw c.args.receiver.now c.args.out.now)
          (λ made handed more none. subst (λ (m : List Act). AreHandedOn made (wait_of flow.held) c.args.flow flow.window [] beginning held handed m beginning held) (sym none) no_more);
      at_hand = c.requires.at_hand;
      waits = record { window = refl; wait = refl };
    }

pub loop-next-smaller : goal.loop-next-smaller
loop-next-smaller g c =
    subst (λ (o : ChannelOrder SoundBurst). length (order_seen o).waiting < length (order_seen c.loop-next.self.order).waiting) (sym c.hand_on.ensures.order)
    (next-shorter (order_seen c.loop-next.self.order).waiting (order_seen c.next_left.new.self).waiting c.in-Some.next c.in-Some.ensures.next)

pub loop-next-preserved : goal.loop-next-preserved
loop-next-preserved g c =
    let flow = c.args.self.now in
    let now = c.loop-next.self in
    let after = c.hand_on.new.self in
    let next = c.in-Some.next in
    let k = c.args.flow in
    let w = wait_of flow.held in
    let so_far = c.loop-next.invariant in
    let at_wait = subst (λ (n : ℕ). TakesBy g.C.HeaderCheck.accepts g.O.CaptureConsumer.saw (λ made handed more. IsHandedOn made n k now.window next (beginning_seen now.beginning) (held_by now.held) handed more (beginning_seen after.beginning) (held_by after.held))
    c.loop-next.receiver c.loop-next.out c.hand_on.new.receiver c.hand_on.new.out) so_far.waits.wait c.in_ok-hand_on.ensures.takes in
    let handed_on = subst (λ (n : ℕ). TakesBy g.C.HeaderCheck.accepts g.O.CaptureConsumer.saw (λ made handed more. IsHandedOn made w k n next (beginning_seen now.beginning) (held_by now.held) handed more (beginning_seen after.beginning) (held_by after.held))
    c.loop-next.receiver c.loop-next.out c.hand_on.new.receiver c.hand_on.new.out) so_far.waits.window at_wait in
    record {
      due = so_far.due ++ next ∷ [];
      hands_on = subst (λ (o : ChannelOrder SoundBurst). HandsAllOnAfter (order_seen flow.order).waiting (so_far.due ++ next ∷ []) (order_seen o).waiting) (sym c.hand_on.ensures.order)
          (all-next (order_seen flow.order).waiting (order_seen now.order).waiting (order_seen c.next_left.new.self).waiting so_far.due next so_far.hands_on c.in-Some.ensures.next);
      stays = subst (λ (o : ChannelOrder SoundBurst). order_seen o ≡ record (order_seen flow.order) { waiting = (order_seen o).waiting }) (sym c.hand_on.ensures.order)
          (c.next_left.ensures.stays ∙ ap (λ (o : OrderView SoundBurst). record o { waiting = (order_seen c.next_left.new.self).waiting }) so_far.stays);
      takes = takes-as g.C.HeaderCheck.accepts g.O.Consumer.after g.O.CaptureConsumer.saw _ _ c.args.receiver.now c.hand_on.new.receiver c.args.out.now c.hand_on.new.out
          (takes-then g.C.HeaderCheck.accepts g.O.Consumer.after g.O.CaptureConsumer.saw _ _ c.args.receiver.now c.loop-next.receiver c.hand_on.new.receiver c.args.out.now c.loop-next.out c.hand_on.new.out so_far.takes handed_on)
          (λ made handed more spelled. subst (λ (m : List Act). AreHandedOn made w k flow.window (so_far.due ++ next ∷ []) (beginning_seen flow.beginning) (held_by flow.held) handed m (beginning_seen after.beginning) (held_by after.held))
          (sym spelled.4) (next_one spelled.2 spelled.3));
      at_hand = c.in_ok-hand_on.ensures.at_hand;
      waits = record {
        window = c.hand_on.ensures.waits.window ∙ so_far.waits.window;
        wait = c.hand_on.ensures.waits.wait ∙ so_far.waits.wait;
      };
    }

pub returns-clause-takes : goal.returns-clause-takes
returns-clause-takes g c =
    let flow = c.args.self.now in
    let now = c.loop-next.self in
    let so_far = c.loop-next.invariant in
    let none : (order_seen now.order).waiting ≡ [] = none-there (order_seen now.order).waiting c.in_default.ensures.some in
    let begins = subst (λ (n : ℕ). TakesBy g.C.HeaderCheck.accepts g.O.CaptureConsumer.saw (λ made handed more. BeginsIf made n c.args.flow (held_by now.held) handed c.end-begun.result more (held_by c.begin_if.new.held))
    c.loop-next.receiver c.loop-next.out c.begin_if.new.receiver c.begin_if.new.out) so_far.waits.wait c.in_ok-begin_if.ensures.takes in
    takes-as g.C.HeaderCheck.accepts g.O.Consumer.after g.O.CaptureConsumer.saw _ _ c.args.receiver.now c.begin_if.new.receiver c.args.out.now c.begin_if.new.out
    (takes-then g.C.HeaderCheck.accepts g.O.Consumer.after g.O.CaptureConsumer.saw _ _ c.args.receiver.now c.loop-next.receiver c.begin_if.new.receiver c.args.out.now c.loop-next.out c.begin_if.new.out so_far.takes begins)
    (λ made handed more spelled. record {
      due = so_far.due;
      hands_on = all-all (order_seen flow.order).waiting (order_seen now.order).waiting so_far.due so_far.hands_on none;
      beginning = beginning_seen now.beginning;
      held = held_by now.held;
      first = spelled.0;
      handed_on = spelled.2;
      begun = c.end-begun.result;
      ends = ends-if (is_beginning (beginning_seen now.beginning).kept) (beginning_seen now.beginning) (beginning_seen c.end-begun.new.self) c.end-begun.result
          c.end-begun.ensures.beginning c.end-begun.ensures.ended c.end-begun.ensures.after c.end-begun.ensures.unchanged;
      later = spelled.1;
      begins_if = spelled.3;
      left = c.in_default.ensures.unchanged ∙ so_far.stays ∙ ap (λ (waiting : List (Waiting SoundBurst)). record (order_seen flow.order) { waiting = waiting }) none;
      window = so_far.waits.window;
      all = spelled.4;
    })

pub returns-in_err-hand_on-clause-breaks : goal.returns-in_err-hand_on-clause-breaks
returns-in_err-hand_on-clause-breaks g c =
    on-any_err c.from_residual.result
    (breaks-behind g.C.HeaderCheck.accepts g.O.Consumer.after g.O.CaptureConsumer.saw _ c.args.receiver.now c.loop-next.receiver c.hand_on.new.receiver c.args.out.now c.loop-next.out c.hand_on.new.out c.loop-next.invariant.takes c.in_err-hand_on.ensures.breaks)

pub returns-in_err-begin_if-clause-breaks : goal.returns-in_err-begin_if-clause-breaks
returns-in_err-begin_if-clause-breaks g c =
    on-any_err c.from_residual-in_err-begin_if.result
    (breaks-behind g.C.HeaderCheck.accepts g.O.Consumer.after g.O.CaptureConsumer.saw _ c.args.receiver.now c.loop-next.receiver c.begin_if.new.receiver c.args.out.now c.loop-next.out c.begin_if.new.out c.loop-next.invariant.takes c.in_err-begin_if.ensures.breaks)
