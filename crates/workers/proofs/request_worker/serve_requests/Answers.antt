-- What a take gives is given to the scheduler.
use Rattle.workers.proofs.RequestsTaken.{none-scheduled, one-scheduled, same-scheduled}
use Rattle.workers.proofs.request_worker.serve_requests.Goals as goal

pub loop-init : goal.loop-init
loop-init g c = none-scheduled g.Q.Consumer.after c.args.work.mouth c.args.work.scheduler

pub loop-preserved-in-Item : goal.loop-preserved-in-Item
loop-preserved-in-Item g c =
    one-scheduled g.Q.Consumer.after c.args.work.mouth c.loop.mouth c.next-in-loop.new.self c.args.work.scheduler c.loop.scheduler c.loop.invariant
    c.next-in-loop.ensures.places _ c.in-Item.item c.request.new.self c.in-Item.ensures.takes.five c.in-Item.ensures.takes.taken_is c.request.ensures

pub loop-preserved-in-End : goal.loop-preserved-in-End
loop-preserved-in-End g c =
    same-scheduled g.Q.Consumer.after c.args.work.mouth c.loop.mouth c.next-in-loop.new.self c.args.work.scheduler c.loop.scheduler c.loop.invariant
    c.next-in-loop.ensures.places c.in-End.ensures.takes.taken_is

pub loop-preserved : goal.loop-preserved
loop-preserved g c =
    same-scheduled g.Q.Consumer.after c.args.work.mouth c.loop.mouth c.next-in-loop.new.self c.args.work.scheduler c.loop.scheduler c.loop.invariant
    c.next-in-loop.ensures.places c.in-Empty.ensures.takes.taken_is
