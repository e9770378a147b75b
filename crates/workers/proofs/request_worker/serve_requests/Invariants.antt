-- What was taken so far was given to the scheduler.
use Rattle.workers.specs.Inside.Scheduling.{HasScheduled}
use Rattle.workers.proofs.request_worker.serve_requests.Given as goal

abbrev pub invariant-loop : goal.invariant-loop
invariant-loop g l = HasScheduled g.Q.Consumer.after l.fn.work.mouth l.fn.work.scheduler l.mouth l.scheduler
