-- The bursts so far have come.
use Rattle.std.proofs.Common.{◌≡◌}
use Rattle.captured_flows.specs.Captures.{SpellsBursts}
use Rattle.captured_flows.specs.Capturing.{IsCapturing, views_in}
use Rattle.captured_flows.specs.Taking.{TakesBy}
use Rattle.captured_flows.proofs.captured_flows.CapturedFlows.take_all.Given as goal

abbrev pub invariant-loop-burst : goal.invariant-loop-burst
invariant-loop-burst g l = record {
  takes : TakesBy g.C.HeaderCheck.accepts g.O.CaptureConsumer.saw
      (λ made handed more. SpellsBursts l.fn.self.map made l.fn.self.waits.wait (views_in l.fn.self) handed l.yielded more (views_in l.self))
      l.fn.self.receiver l.fn.out l.self.receiver l.out;
  capturing : IsCapturing g.C.HeaderCheck.accepts l.self;
  map : l.self.map ≡ l.fn.self.map;
  waits : l.self.waits ≡ l.fn.self.waits;
  selected : l.self.receiver.selected ≡ l.fn.self.receiver.selected;
}
