-- What the worker of requests has done.
use Rattle.std.specs.Prelude.{◌≡◌, ℕ, ◌<◌, ◌==◌, true, Option, Some, None, List, ◌++◌, All, map, filter_map, if◌then◌else◌}
use Rattle.mailbox.specs.Mouths.{places, taken, ended}
use Rattle.mailbox.specs.declared.mouth.Mouth.{Mouth}
use Rattle.lane.specs.declared.admitted.Request.{Request}
use Rattle.lane.specs.Limits.{senders}
use Rattle.consumer.specs.declared.given.Given.{Given}
use Rattle.consumer.specs.declared.given.Given.TheVariants.{Asked}
use Rattle.workers.specs.declared.request_worker.RequestWork.{RequestWork}
use Rattle.workers.specs.Given.{BecameBy}

-- a request, with the sender from which it came
pub record Sent : Type 0 where
  pub from : ℕ
  pub request : Request

-- the requests that came from this sender, in order
abbrev pub request_from : ℕ → Sent → Option Request
request_from sender sent = if sender == sent.from then Some sent.request else None

abbrev pub requests_from : ℕ → List Sent → List Request
requests_from sender all = filter_map (request_from sender) all

-- the requests as they are given
abbrev pub given_of : List Sent → List Given
given_of all = map (λ sent. Asked sent.request) all

-- these requests were taken since, from these senders
pub record HasTaken (mouth : Mouth Request) (all : List Sent) (mouth' : Mouth Request) : Type 0 where
  pub places_are : places mouth' ≡ places mouth
  pub named : All (λ sent. sent.from < senders) all
  pub taken_are : (sender : ℕ) → taken mouth' sender ≡ taken mouth sender ++ requests_from sender all

-- and they are all
pub record HasTakenAll (mouth : Mouth Request) (all : List Sent) (mouth' : Mouth Request) : Type 0 where
  pub has : HasTaken mouth all mouth'
  pub ended_all : (sender : ℕ) → sender < senders → ended mouth' sender ≡ true

module _ {Q : Type 0} (after : Q → List Given → Q → Type 0) where
  -- what was taken was given to the scheduler
  pub record HasScheduled (mouth : Mouth Request) (scheduler : Q) (mouth' : Mouth Request) (scheduler' : Q) : Type 0 where
    pub all : List Sent
    pub became : BecameBy after scheduler (given_of all) scheduler'
    pub has : HasTaken mouth all mouth'

  -- what was taken was given to the scheduler, and that is everything
  pub record DidSchedule (work done : RequestWork Q) : Type 0 where
    pub all : List Sent
    pub became : BecameBy after work.scheduler (given_of all) done.scheduler
    pub has_all : HasTakenAll work.mouth all done.mouth
