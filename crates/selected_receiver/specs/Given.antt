-- What a receiver has given of which nothing is left to be done: by the definitions alone, for all
-- that was handed in.
use Rattle.std.specs.Prelude.{◌≡◌, ℕ, ◌<◌, ◌≤◌, Bool, Some, List, [], ◌++◌, length, slice_get}
use Rattle.flow_records.specs.declared.record.FlowRecord.{FlowRecord}
use Rattle.flow_records.specs.Setup.{IsInRange}
use Rattle.flow_core.specs.declared.counts.FlowCounts.{FlowCounts}
use Rattle.lane.specs.Inputs.{AreAnswered}
use Rattle.lane.specs.Report.{requests_of}
use Rattle.lane.specs.Rows.{CanBeOpenedWithin}
use Rattle.consumer.specs.declared.given.Given.{Given}
use Rattle.consumer.specs.Given.{frames_of, requests_given}
use Rattle.bonded_flows.specs.ByRule.{GaveByRule, HasGivenByRule}
use Rattle.bonded_flows.specs.FlowSetup.{FlowSetup}
use Rattle.bonded_flows.specs.Parts.{FlowInput, parts_over, last_part, begun_at, GaveInParts}
use Rattle.bonded_flows.specs.Table.{TableSetup, flow_setup, inputs_at}
use Rattle.receiver.specs.HandedIn.{HandedIn, answered_on, flow_inputs, lane_of, begun_with, came_since}
use Rattle.receiver.specs.Receiving.{GaveSince}

-- What a flow has given to which all this came: the parts that are over gave what they had to give,
-- and the last one has given what by the rule comes of what came to it.
pub record HasGivenParts (check : List ℕ → Bool) (setup : FlowSetup) (inputs : List FlowInput) (frames : List (List ℕ)) : Type 0 where
  pub earlier : List (List ℕ)
  pub own : List (List ℕ)
  pub counts : FlowCounts
  pub gave : GaveInParts check setup (parts_over setup inputs) earlier
  pub last : HasGivenByRule check (begun_at setup (last_part setup inputs).first) (last_part setup inputs).comings own counts
  pub all : frames ≡ earlier ++ own

-- **This is all that is given for what was handed in**, as long as the receiver isn't closed. Each
-- input was answered as its lane answers it. The requests are those of what was admitted, in each
-- channel's order. Each flow has given what by the rule comes of all that came to it. The rows have
-- no fault, and the records are in range, also where a flow began anew.
pub record IsAllGiven (check : List ℕ → Bool) (made : TableSetup) (handed : List HandedIn) (given : List Given) : Type 0 where
  pub answered : (channel : ℕ) → channel < made.channels → AreAnswered (lane_of made channel) (answered_on channel handed)
  pub requests : (channel : ℕ) → requests_given channel given ≡ requests_of (answered_on channel handed)
  pub flows : (k : ℕ) (flow_record : FlowRecord) → slice_get made.records k ≡ Some flow_record
      → HasGivenParts check (flow_setup made k flow_record) (inputs_at k (flow_inputs (length made.records) handed)) (frames_of k given)
  pub others : (k : ℕ) → length made.records ≤ k → frames_of k given ≡ []
  pub rows_fit : CanBeOpenedWithin made.channels made.rows (length made.records)
  pub in_range : (k : ℕ) (flow_record : FlowRecord) → slice_get made.records k ≡ Some flow_record
      → IsInRange (begun_with made k flow_record (flow_inputs (length made.records) handed)).flow_record

-- a flow is closed of which this was handed in and given: it gives these frames more, and has these
-- counts since it was begun
abbrev pub ClosesFlow : (List ℕ → Bool) → TableSetup → ℕ → List HandedIn → List Given → List (List ℕ) → FlowCounts → Type 0
ClosesFlow check made flow handed given frames counts =
    (flow_record : FlowRecord) → slice_get made.records flow ≡ Some flow_record
    → GaveSince (λ own. GaveByRule check (begun_with made flow flow_record (flow_inputs (length made.records) handed))
    (came_since made flow flow_record (flow_inputs (length made.records) handed)) (own ++ frames) counts) (frames_of flow given)
