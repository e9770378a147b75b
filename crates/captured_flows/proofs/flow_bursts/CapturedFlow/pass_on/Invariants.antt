-- What was handed on so far.
use Rattle.std.proofs.Common.{List, length}
use Rattle.capture_rules.specs.Waiting.{order_seen}
use Rattle.capture_rules.specs.Begin.{beginning_seen}
use Rattle.capture_rules.specs.Held.{held_by, wait_of}
use Rattle.captured_flows.specs.Flow.{Next, AreHandedOn}
use Rattle.captured_flows.specs.Seen.{KeepsWaits}
use Rattle.selected_receiver.specs.Whole.{IsAtHand}
use Rattle.captured_flows.specs.Taking.{TakesBy}
use Rattle.captured_flows.proofs.Waited.{HandsOnAfter}
use Rattle.captured_flows.proofs.flow_bursts.CapturedFlow.pass_on.Given as goal

abbrev pub invariant-loop-next : goal.invariant-loop-next
invariant-loop-next g l = record {
  due : List Next;
  hands_on : HandsOnAfter l.time (order_seen l.fn.self.order) due (order_seen l.self.order);
  takes : TakesBy g.C.HeaderCheck.accepts g.O.CaptureConsumer.saw
      (λ made handed more. AreHandedOn made (wait_of l.fn.self.held) l.flow l.fn.self.window due (beginning_seen l.fn.self.beginning) (held_by l.fn.self.held) handed more (beginning_seen l.self.beginning) (held_by l.self.held))
      l.fn.receiver l.fn.out l.receiver l.out;
  at_hand : IsAtHand g.C.HeaderCheck.accepts l.receiver;
  waits : KeepsWaits l.fn.self l.self;
}

abbrev pub decreases-loop-next : goal.decreases-loop-next
decreases-loop-next g l = length (order_seen l.self.order).waiting
