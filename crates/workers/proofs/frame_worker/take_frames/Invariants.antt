-- What was taken so far was given to the consumer.
use Rattle.workers.specs.Inside.Consuming.{HasFed}
use Rattle.workers.proofs.frame_worker.take_frames.Given as goal

abbrev pub invariant-loop : goal.invariant-loop
invariant-loop g l = HasFed g.F.Consumer.after l.fn.work.takers.items l.fn.work.consumer l.takers.items l.consumer
