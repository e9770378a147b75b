-- What the workers that take frames and requests have done once all workers have returned.
use Rattle.std.specs.Prelude.{List}
use Rattle.consumer.specs.declared.given.Given.{Given}
use Rattle.workers.specs.declared.frame_worker.FrameWork.{FrameWork}
use Rattle.workers.specs.declared.request_worker.RequestWork.{RequestWork}
use Rattle.workers.specs.declared.team.Joined.{Joined}
use Rattle.workers.specs.Given.{BecameBy}
use Rattle.workers.specs.Inside.Consuming.{HaveTakenAll}
use Rattle.workers.specs.Inside.Scheduling.{Sent, given_of, HasTakenAll}

-- What was taken was given to the consumer and the scheduler, and that is everything.
pub record HaveTakenFor {F Q N : Type 0} (takes : F → List Given → F → Type 0) (asks : Q → List Given → Q → Type 0) (frames : FrameWork F) (requests : RequestWork Q) (joined : Joined F Q N) : Type 0 where
  pub given : List Given
  pub sent : List Sent
  pub consumer_became : BecameBy takes frames.consumer given joined.consumers.consumer
  pub scheduler_became : BecameBy asks requests.scheduler (given_of sent) joined.consumers.scheduler
  pub have_all : HaveTakenAll frames.takers.items given joined.done.takers.items
  pub has_all : HasTakenAll requests.mouth sent joined.done.mouth
