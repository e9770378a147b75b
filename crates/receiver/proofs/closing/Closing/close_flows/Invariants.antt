-- The flows so far are closed.
use Rattle.std.proofs.Common.{◌≡◌, length}
use Rattle.receiver.specs.Received.{IsBeingClosed, ClosesMore}
use Rattle.receiver.proofs.closing.Closing.close_flows.Given as goal

abbrev pub invariant-loop : goal.invariant-loop
invariant-loop g l = record {
  closes : ClosesMore g.O.Consumer.after g.C.HeaderCheck.accepts l.fn.self l.fn.out l.self l.out;
  closing : IsBeingClosed g.C.HeaderCheck.accepts l.self;
  next : length l.self.counts.items ≡ l.counter;
  flow_count : length l.self.flows.slots.items ≡ length l.fn.self.flows.slots.items;
}
