-- The flows so far have ended.
use Rattle.captured_flows.specs.Captures.{EndsAll}
use Rattle.captured_flows.specs.Together.{HaveWaits, views_of}
use Rattle.selected_receiver.specs.Whole.{IsAtHand}
use Rattle.captured_flows.specs.Taking.{TakesBy}
use Rattle.captured_flows.proofs.captured_flows.end_all.Given as goal

abbrev pub invariant-loop-k : goal.invariant-loop-k
invariant-loop-k g l = record {
  takes : TakesBy g.C.HeaderCheck.accepts g.O.CaptureConsumer.saw (λ made handed more. EndsAll made l.waits.wait (views_of l.fn.flows) handed l.k more (views_of l.flows))
      l.fn.receiver l.fn.out l.receiver l.out;
  at_hand : IsAtHand g.C.HeaderCheck.accepts l.receiver;
  waits : HaveWaits l.waits l.flows;
}
