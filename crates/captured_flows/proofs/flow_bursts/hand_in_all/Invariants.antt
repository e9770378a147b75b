-- The bursts so far are handed in.
use Rattle.std.proofs.Common.{◌≡◌}
use Rattle.capture_rules.specs.Held.{held_by, wait_of}
use Rattle.captured_flows.specs.Flow.{HandsInAll}
use Rattle.selected_receiver.specs.Whole.{IsAtHand}
use Rattle.captured_flows.specs.Taking.{TakesBy}
use Rattle.captured_flows.proofs.flow_bursts.hand_in_all.Given as goal

abbrev pub invariant-loop-one : goal.invariant-loop-one
invariant-loop-one g l = record {
  takes : TakesBy g.C.HeaderCheck.accepts g.O.CaptureConsumer.saw (λ made handed more. HandsInAll made (wait_of l.fn.held) l.flow l.yielded (held_by l.fn.held) handed more (held_by l.held))
      l.fn.receiver l.fn.out l.receiver l.out;
  at_hand : IsAtHand g.C.HeaderCheck.accepts l.receiver;
  wait : wait_of l.held ≡ wait_of l.fn.held;
}
