-- A list of inputs that a receiver takes one at a time.
use Rattle.std.specs.Prelude.{◌≡◌, ℕ, Bool, IsTrue, Option, Some, None, List, ◌++◌, filter_map, count_by, length}
use Rattle.flow_records.specs.Counted.{counted}
use Rattle.lane.specs.declared.input.Input.{Input}
use Rattle.consumer.specs.declared.given.Given.{Given}
use Rattle.consumer.specs.declared.collected.Collected.{Collected}
use Rattle.consumer.specs.declared.counts.Counts.{Counts}
use Rattle.consumer.specs.Given.{frames_of, requests_given}
use Rattle.consumer.specs.Collecting.{list_at}
use Rattle.consumer.specs.Counting.{is_frame, is_request}
use Rattle.bonded_flows.specs.Table.{TableSetup}
use Rattle.receiver.specs.declared.receiver.Receiver.{Receiver}
use Rattle.receiver.specs.declared.closing.Closed.{Closed}
use Rattle.receiver.specs.HandedIn.{HandedIn, came, decided, restarted}
use Rattle.receiver.specs.Receiving.{StandsFor}
use Rattle.receiver.specs.Received.{IsReceived}

-- an input that was handed in, with its channel
abbrev pub input_in : HandedIn → Option (ℕ × Input)
input_in (came channel one) = Some (channel, one.input)
input_in (decided flow decision) = None
input_in (restarted flow first) = None

-- these inputs were handed in, in order, and nothing else
pub record AreInputs (handed : List HandedIn) (inputs : List (ℕ × Input)) : Type 0 where
  pub are : filter_map input_in handed ≡ inputs
  pub no_more : length handed ≡ length inputs

module _ {C O : Type 0} (after : O → List Given → O → Type 0) (accepts : C → List ℕ → Bool) where
  -- whatever was handed in, these inputs were handed in besides
  pub record TakesInputs (receiver : Receiver C) (out : O) (inputs : List (ℕ × Input)) (receiver' : Receiver C) (out' : O) : Type 0 where
    pub given_more : List Given
    pub was_given : (start : O) (given : List Given) → after start given out → after start (given ++ given_more) out'
    pub stands : (check : List ℕ → Bool) (made : TableSetup) (handed : List HandedIn) (given : List Given)
        → StandsFor accepts receiver check made handed given
        → (more : List HandedIn) × AreInputs more inputs × StandsFor accepts receiver' check made (handed ++ more) (given ++ given_more)

  -- and then it was closed, and gave the answer for all that
  pub record ReceivesInputs (receiver : Receiver C) (out : O) (inputs : List (ℕ × Input)) (closed : Closed) (out' : O) : Type 0 where
    pub given_more : List Given
    pub was_given : (start : O) (given : List Given) → after start given out → after start (given ++ given_more) out'
    pub received : (check : List ℕ → Bool) (made : TableSetup) (handed : List HandedIn) (given : List Given)
        → StandsFor accepts receiver check made handed given
        → (more : List HandedIn) × AreInputs more inputs × IsReceived check made (handed ++ more) (given ++ given_more) closed

-- what was given is what one thread gives for these inputs
pub record IsAnswerTo (check : List ℕ → Bool) (made : TableSetup) (inputs : List (ℕ × Input)) (closed : Closed) (given : List Given) : Type 0 where
  pub handed : List HandedIn
  pub are : AreInputs handed inputs
  pub received : IsReceived check made handed given closed

-- What was collected is that answer: of each flow its frames, of each channel its requests.
pub record HasCollectedAnswer (check : List ℕ → Bool) (made : TableSetup) (inputs : List (ℕ × Input)) (closed : Closed) (collected : Collected) : Type 0 where
  pub given : List Given
  pub answer : IsAnswerTo check made inputs closed given
  pub frames : IsTrue collected.whole → (k : ℕ) → list_at collected.frames.items k ≡ frames_of k given
  pub requests : IsTrue collected.whole → (channel : ℕ) → list_at collected.requests.items channel ≡ requests_given channel given

-- What was counted is how many frames and requests it has.
pub record HasCountedAnswer (check : List ℕ → Bool) (made : TableSetup) (inputs : List (ℕ × Input)) (closed : Closed) (counts : Counts) : Type 0 where
  pub given : List Given
  pub answer : IsAnswerTo check made inputs closed given
  pub frames : counts.frames ≡ counted (count_by is_frame given)
  pub requests : counts.requests ≡ counted (count_by is_request given)
