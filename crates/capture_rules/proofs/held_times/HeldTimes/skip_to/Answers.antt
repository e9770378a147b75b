use Rattle.std.proofs.Common.{◌≤◌, length, subst, ap, arith}
use Rattle.capture_rules.proofs.HeldSoFar.{IsLastOldTo, last_old-some}
use Rattle.capture_rules.proofs.held_times.HeldTimes.skip_to.Goals as goal

pub returns-clause-number : goal.returns-clause-number
returns-clause-number c =
    let items = c.args.self.now.held.items in
    let all : length items ≤ c.loop-one.one-index = (let ends = c.loop-one-test.false in let size = ap length c.deref-one-items.ensures.value in omega (arith, ends, size)) in
    last_old-some c.args.self.now.wait c.args.now c.args.expected items c.loop-one.one-index c.in_ok-number.field-0 all
    (subst (IsLastOldTo c.args.self.now.wait c.args.now c.args.expected items c.loop-one.one-index) c.in_ok-number.was c.loop-one.invariant)
