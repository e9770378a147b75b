use Rattle.std.proofs.Common.{◌<◌, length, refl, ap, arith}
use Rattle.capture_rules.specs.Order.{most_waiting}
use Rattle.capture_rules.proofs.AtMost.{one-goes, keeps-all, keeps-most, rest-at_most}
use Rattle.capture_rules.proofs.channel_order.ChannelOrder.push.Goals as goal

pub invariant_of-self : goal.invariant_of-self
invariant_of-self g c = record {
  numbered = c.let_wait.ensures.numbered c.args.self.now.numbered;
  bounded = (let same = ap length c.in_err-let_wait.ensures.unchanged in let few = c.args.self.now.bounded in omega (arith, same, few));
}

pub invariant_of-self-then-count-le-MOST_WAITING : goal.invariant_of-self-then-count-le-MOST_WAITING
invariant_of-self-then-count-le-MOST_WAITING g c = record {
  numbered = c.let_wait.ensures.numbered c.args.self.now.numbered;
  bounded = (let few = c.if-count-le-MOST_WAITING.true in let size = c.let_wait.new.waiting.ok.0 in omega (arith, few, size));
}

pub returns-then-count-le-MOST_WAITING-clause-takes_in : goal.returns-then-count-le-MOST_WAITING-clause-takes_in
returns-then-count-le-MOST_WAITING-clause-takes_in g c = record {
  keeps = keeps-all c.args.self.now.waiting.items c.let_wait.new.waiting.items _ c.clock_at-came.result c.args.arrival c.in_ok-let_wait.ensures.waits c.clock_at-came.ensures
      (let few = c.if-count-le-MOST_WAITING.true in let size = c.let_wait.new.waiting.ok.0 in omega (arith, few, size));
  clock = c.clock_at-came.ensures;
  reorder = refl;
  counts = cc;
}

pub take_next-requires : goal.take_next-requires
take_next-requires g c = record { numbered = c.let_wait.ensures.numbered c.args.self.now.numbered }

pub invariant_of-self-2 : goal.invariant_of-self-2
invariant_of-self-2 g c = record {
  numbered = c.take_next.ensures.numbered;
  bounded = rest-at_most c.args.self.now.waiting.items c.let_wait.new.waiting.items _ c.clock_at-came.result c.args.arrival c.in_ok-let_wait.ensures.waits c.clock_at-came.ensures c.take_next.new.waiting.items
      (let many = c.if-count-le-MOST_WAITING.false in let size = c.let_wait.new.waiting.ok.0 in omega (arith, many, size))
      c.take_next.result c.take_next.ensures.some c.take_next.ensures.next c.args.self.now.bounded;
}

pub returns-clause-takes_in : goal.returns-clause-takes_in
returns-clause-takes_in g c = record {
  keeps = keeps-most c.args.self.now.waiting.items c.let_wait.new.waiting.items _ c.clock_at-came.result c.args.arrival c.in_ok-let_wait.ensures.waits c.clock_at-came.ensures c.take_next.new.waiting.items
      (let many = c.if-count-le-MOST_WAITING.false in let size = c.let_wait.new.waiting.ok.0 in omega (arith, many, size))
      c.take_next.result c.take_next.ensures.some c.take_next.ensures.next;
  clock = c.clock_at-came.ensures;
  reorder = refl;
  counts =
      (let size = c.let_wait.new.waiting.ok.0 in
      let many : most_waiting < length c.let_wait.new.waiting.items = let over = c.if-count-le-MOST_WAITING.false in omega (arith, over, size) in
      let goes = one-goes c.let_wait.new.waiting.items many c.take_next.result c.take_next.ensures.some in
      cc);
}
