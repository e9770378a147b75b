-- What a receiver has given once it is closed: by the definitions alone, for all that was handed
-- in.
use Rattle.std.specs.Prelude.{◌≡◌, ℕ, zero, suc, ◌<◌, ◌≤◌, Bool, Some, List, [], ◌∷◌, ◌++◌, length, slice_get}
use Rattle.flow_records.specs.declared.record.FlowRecord.{FlowRecord}
use Rattle.flow_core.specs.declared.counts.FlowCounts.{FlowCounts}
use Rattle.lane.specs.Inputs.{AreAnswered}
use Rattle.lane.specs.Report.{requests_of}
use Rattle.consumer.specs.declared.given.Given.{Given}
use Rattle.consumer.specs.Given.{frames_of, requests_given}
use Rattle.bonded_flows.specs.FlowSetup.{FlowSetup}
use Rattle.bonded_flows.specs.ByRule.{GaveByRule}
use Rattle.bonded_flows.specs.Parts.{FlowInput, begins_anew, parts_over, last_part, begun_at, GaveInParts}
use Rattle.bonded_flows.specs.Table.{TableSetup, TableInput, flow_setup, inputs_at}
use Rattle.bonded_flows.specs.Table.{StandsFor as TableStandsFor}
use Rattle.receiver.specs.declared.tally.LaneTally.{LaneTally}
use Rattle.receiver.specs.declared.tallied_lane.TalliedLane.{TalliedLane}
use Rattle.receiver.specs.declared.receiver.Receiver.{Receiver}
use Rattle.receiver.specs.declared.closing.Closed.{Closed}
use Rattle.receiver.specs.declared.closing.Closing.{Closing}
use Rattle.receiver.specs.Tallies.{IsTallyOf}
use Rattle.receiver.specs.HandedIn.{HandedIn, answered_on, flow_inputs, lane_of}
use Rattle.receiver.specs.Receiving.{HaveAnswered, StandsFor}

-- What a flow gave of which all this was handed in, and which is closed: what its parts gave, one
-- after another, each what by the rule comes of all that came to it and of its close. The counts
-- are those of the last part.
pub record GaveAllParts (check : List ℕ → Bool) (setup : FlowSetup) (inputs : List FlowInput) (frames : List (List ℕ)) (counts : FlowCounts) : Type 0 where
  pub earlier : List (List ℕ)
  pub own : List (List ℕ)
  pub gave : GaveInParts check setup (parts_over setup inputs) earlier
  pub last : GaveByRule check (begun_at setup (last_part setup inputs).first) (last_part setup inputs).comings own counts
  pub all : frames ≡ earlier ++ own

-- **The answer for all that was handed in, in this order.** Each input was answered as its lane
-- answers it. Each flow gave what comes of all that came to it. The requests are those of what was
-- admitted, in each channel's order. Counts and tallies are of all that.
pub record IsReceived (check : List ℕ → Bool) (made : TableSetup) (handed : List HandedIn) (given : List Given) (closed : Closed) : Type 0 where
  pub answered : (channel : ℕ) → channel < made.channels → AreAnswered (lane_of made channel) (answered_on channel handed)
  pub flow_count : length closed.flows.items ≡ length made.records
  pub flows : (k : ℕ) (flow_record : FlowRecord) (counts : FlowCounts) → slice_get made.records k ≡ Some flow_record → slice_get closed.flows.items k ≡ Some counts
      → GaveAllParts check (flow_setup made k flow_record) (inputs_at k (flow_inputs (length made.records) handed)) (frames_of k given) counts
  pub others : (k : ℕ) → length made.records ≤ k → frames_of k given ≡ []
  pub requests : (channel : ℕ) → requests_given channel given ≡ requests_of (answered_on channel handed)
  pub lane_count : length closed.lanes.items ≡ made.channels
  pub tallies : (channel : ℕ) (tally : LaneTally) → slice_get closed.lanes.items channel ≡ Some tally → IsTallyOf (answered_on channel handed) tally

-- the tallies of the first lanes, as many as there are
abbrev pub AreTalliesOf : List TalliedLane → List LaneTally → Type 0
AreTalliesOf lanes tallies =
    (channel : ℕ) (one : TalliedLane) (tally : LaneTally) → slice_get lanes channel ≡ Some one → slice_get tallies channel ≡ Some tally → tally ≡ one.tally

-- so many flows, from 0 on, were closed one after another
abbrev pub closings : ℕ → List TableInput
closings zero = []
closings (suc k) = closings k ++ record { flow = k; input = begins_anew 0 } ∷ []

module _ {C : Type 0} where
  -- A receiver that is being closed: some flows are closed and gave what they had to give, the
  -- others are as they were.
  pub record ClosingStandsFor (accepts : C → List ℕ → Bool) (closing : Closing C) (check : List ℕ → Bool) (made : TableSetup) (handed : List HandedIn) (given : List Given) : Type 0 where
    pub lanes : HaveAnswered made closing.lanes.items handed given
    pub few : length closing.counts.items ≤ length made.records
    pub flows : TableStandsFor accepts closing.flows check made (flow_inputs (length made.records) handed ++ closings (length closing.counts.items)) given
    pub closed : (k : ℕ) (flow_record : FlowRecord) (counts : FlowCounts) → slice_get made.records k ≡ Some flow_record → slice_get closing.counts.items k ≡ Some counts
        → GaveAllParts check (flow_setup made k flow_record) (inputs_at k (flow_inputs (length made.records) handed)) (frames_of k given) counts

  -- it stands for something
  pub record IsBeingClosed (accepts : C → List ℕ → Bool) (closing : Closing C) : Type 0 where
    pub check : List ℕ → Bool
    pub made : TableSetup
    pub handed : List HandedIn
    pub given : List Given
    pub stands : ClosingStandsFor accepts closing check made handed given

  module _ {O : Type 0} (after : O → List Given → O → Type 0) (accepts : C → List ℕ → Bool) where
    -- whatever it stood for, it still does, and what was given more was given to the consumer, in
    -- order
    pub record ClosesMore (closing : Closing C) (out : O) (closing' : Closing C) (out' : O) : Type 0 where
      pub given_more : List Given
      pub was_given : (start : O) (given : List Given) → after start given out → after start (given ++ given_more) out'
      pub stands : (check : List ℕ → Bool) (made : TableSetup) (handed : List HandedIn) (given : List Given)
          → ClosingStandsFor accepts closing check made handed given → ClosingStandsFor accepts closing' check made handed (given ++ given_more)

    -- it is closed, and all that there was left to give was given to the consumer
    pub record ClosesAll (closing : Closing C) (out : O) (closed : Closed) (out' : O) : Type 0 where
      pub given_more : List Given
      pub was_given : (start : O) (given : List Given) → after start given out → after start (given ++ given_more) out'
      pub received : (check : List ℕ → Bool) (made : TableSetup) (handed : List HandedIn) (given : List Given)
          → ClosingStandsFor accepts closing check made handed given → IsReceived check made handed (given ++ given_more) closed

    -- **A receiver is closed**: whatever was handed in, what was given of it is the answer for
    -- that.
    pub record Closes (receiver : Receiver C) (out : O) (closed : Closed) (out' : O) : Type 0 where
      pub given_more : List Given
      pub was_given : (start : O) (given : List Given) → after start given out → after start (given ++ given_more) out'
      pub received : (check : List ℕ → Bool) (made : TableSetup) (handed : List HandedIn) (given : List Given)
          → StandsFor accepts receiver check made handed given → IsReceived check made handed (given ++ given_more) closed

    -- its close is begun
    pub record BeginsToClose (receiver : Receiver C) (out : O) (closing : Closing C) (out' : O) : Type 0 where
      pub given_more : List Given
      pub was_given : (start : O) (given : List Given) → after start given out → after start (given ++ given_more) out'
      pub stands : (check : List ℕ → Bool) (made : TableSetup) (handed : List HandedIn) (given : List Given)
          → StandsFor accepts receiver check made handed given → ClosingStandsFor accepts closing check made handed (given ++ given_more)
