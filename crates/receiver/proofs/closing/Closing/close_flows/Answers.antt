-- One flow more is closed, or gave some of what it had left to give.
use Rattle.std.proofs.Common.{◌≡◌, suc, length, ◌∙◌, arith}
use Rattle.receiver.proofs.ClosedFlows.{closes-on}
use Rattle.receiver.proofs.closing.Closing.close_flows.Goals as goal

pub returns-in_err-close_next-clause-closes : goal.returns-in_err-close_next-clause-closes
returns-in_err-close_next-clause-closes g c =
    closes-on g.C.HeaderCheck.accepts g.O.Consumer.after c.args.self.now c.loop.self c.close_next.new.self c.args.out.now c.loop.out c.close_next.new.out c.loop.invariant.closes c.close_next.ensures.closes

pub loop-preserved : goal.loop-preserved
loop-preserved g c =
    let one : length c.close_next.new.self.counts.items ≡ suc (length c.loop.self.counts.items) = c.in_ok-close_next.ensures.one in
    let next = c.loop.invariant.next in
    record {
      closes = closes-on g.C.HeaderCheck.accepts g.O.Consumer.after c.args.self.now c.loop.self c.close_next.new.self c.args.out.now c.loop.out c.close_next.new.out c.loop.invariant.closes c.close_next.ensures.closes;
      closing = c.close_next.ensures.closing;
      next = omega arith;
      flow_count = c.close_next.ensures.flows ∙ c.loop.invariant.flow_count;
    }
