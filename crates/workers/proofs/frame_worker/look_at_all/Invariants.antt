-- What was taken so far was given to the consumer, and where all looks found `Closed` those so far
-- are closed.
use Rattle.std.proofs.Common.{◌≡◌, true}
use Rattle.std.specs.List.{AllWithin}
use Rattle.delivery.specs.Takers.{is_closed}
use Rattle.workers.specs.Inside.Consuming.{HasFed}
use Rattle.workers.specs.declared.frame_worker.Look.TheVariants.{Closed}
use Rattle.workers.proofs.frame_worker.look_at_all.Given as goal

abbrev pub invariant-loop-flow : goal.invariant-loop-flow
invariant-loop-flow g l = record {
  fed : HasFed g.F.Consumer.after l.fn.takers l.fn.consumer l.takers l.consumer;
  closed : l.found ≡ Closed → AllWithin (λ taker. is_closed taker ≡ true) l.takers 0 l.flow;
}
