use Rattle.std.proofs.Common.{rules, arith}
use Rattle.crossbeam_queue.specs.Passes.{view}
use Rattle.mailbox.proofs.Steps.{takes, finds_nothing}
use Rattle.mailbox.proofs.CountingLeft.{nothing_counted, still_takes, has_room, another, finished}
use Rattle.mailbox.proofs.counting.count_left.Goals as goal

pub loop-init : goal.loop-init
loop-init g c = (c.requires.of_queue, (0, nothing_counted (view c.args.pass.now) c.requires.taker, omega arith))

pub pop_as-requires-clause-rule : goal.pop_as-requires-clause-rule
pop_as-requires-clause-rule g c =
    let may = still_takes _ _ _ _ c.loop.invariant.1.1 in
    (takes _ _ may, finds_nothing _ _ may)

pub count-requires : goal.count-requires
count-requires g c =
    let room = has_room _ _ _ _ c.in-Some-pop_as.stamped.from c.in-Some-pop_as.stamped.below c.loop.invariant.1.1 in
    let more = c.loop.invariant.1.2 in
    let less = (c.in-Some.ensures.goes.on tt).2 in
    omega arith

pub loop-preserved : goal.loop-preserved
loop-preserved g c =
    let next = another _ _ _ _ _ _ _ c.loop.invariant.1.1 c.in-Some-pop_as.ensures.rule c.count.ensures in
    let more = c.loop.invariant.1.2 in
    let less = (c.in-Some.ensures.goes.on tt).2 in
    (search rules, (_, next, omega arith))

pub returns-in_default : goal.returns-in_default
returns-in_default g c =
    let held = c.in_default.ensures.rule.1 in
    finished _ _ _ _ held.0 c.loop.invariant.1.1 held.1 held.2
