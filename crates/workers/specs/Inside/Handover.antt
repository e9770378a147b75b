-- A worker's thread, which waits until it is handed its work.
use Rattle.std.specs.Prelude.{◌≡◌, ◌<◌, Option, Some, None, [], ◌∷◌, ◌++◌}
use Rattle.std.specs.declared.alloc.Global.{Global}
use Rattle.rtrb.specs.Ring.{sent, known_free, received, IsPair, SameConsumer}
use Rattle.rtrb.specs.declared.AnyItems.{AnyItems}
use Rattle.rtrb.specs.declared.consumer.Consumer.{Consumer}
use Rattle.workers.specs.declared.worker.BusyWorker.{BusyWorker}
use Rattle.workers.specs.declared.worker.Heard.{Heard}
use Rattle.workers.specs.declared.worker.IdleWorker.{IdleWorker}
use Rattle.workers.specs.declared.worker.Word.{Word}
use Rattle.workers.specs.declared.worker.Word.TheVariants.{Begin, Return}
use Rattle.workers.specs.declared.team.IdleTeam.{IdleTeam}
use Rattle.workers.specs.declared.team.Team.{Team}

-- of work that was handed over there is what it came to, and otherwise nothing
abbrev pub HasObeyed : {W T : Type 0} → (W → T → Type 0) → Word W → Option T → Type 0
HasObeyed did (Begin work) (Some done) = did work done
HasObeyed did Return None = Unit {0}
HasObeyed _ _ _ = ⊥

-- a thread took one word from its end of the ring, and did what that says
pub record HasHeard {W T : Type 0} (did : W → T → Type 0) (words : Consumer (Word W) Global AnyItems) (heard : Heard W T) : Type 0 where
  pub same : SameConsumer words heard.words
  pub word : Word W
  pub one : received heard.words ≡ received words ++ word ∷ []
  pub obeyed : HasObeyed did word heard.done

-- a thread was started, and nothing was said to it yet
pub record IsIdle {W T : Type 0} (worker : IdleWorker W T) : Type 0 where
  pub pair : IsPair worker.words worker.thread.promise.0.value
  pub none_sent : sent worker.words ≡ []
  pub none_received : received worker.thread.promise.0.value ≡ []
  pub room : 0 < known_free worker.words

-- it was handed its work, and nothing else was said to it
pub record IsBusy {W T : Type 0} (worker : BusyWorker W T) : Type 0 where
  pub pair : IsPair worker.words worker.thread.promise.0.value
  pub one_sent : sent worker.words ≡ Begin worker.given.value ∷ []
  pub none_received : received worker.thread.promise.0.value ≡ []

pub record AreIdle {S0 S1 S2 S3 D F Q N : Type 0} (idle : IdleTeam S0 S1 S2 S3 D F Q N) : Type 0 where
  pub l0 : IsIdle idle.lanes.0.0
  pub l1 : IsIdle idle.lanes.0.1
  pub l2 : IsIdle idle.lanes.1.0
  pub l3 : IsIdle idle.lanes.1.1
  pub decider : IsIdle idle.decider
  pub frames : IsIdle idle.takers.0
  pub requests : IsIdle idle.takers.1

pub record AreBusy {S0 S1 S2 S3 D F Q N : Type 0} (team : Team S0 S1 S2 S3 D F Q N) : Type 0 where
  pub l0 : IsBusy team.lanes.0.0
  pub l1 : IsBusy team.lanes.0.1
  pub l2 : IsBusy team.lanes.1.0
  pub l3 : IsBusy team.lanes.1.1
  pub decider : IsBusy team.decider
  pub frames : IsBusy team.takers.0
  pub requests : IsBusy team.takers.1
