-- What a table of flows takes, and what it gives once all its flows are closed.
use Rattle.std.specs.Prelude.{◌≡◌, ℕ, Bool, Some, List, ◌++◌, length, slice_get}
use Rattle.loss_rule.specs.Rule.{on_channel}
use Rattle.flow_core.specs.declared.counts.FlowCounts.{FlowCounts}
use Rattle.flow_records.specs.declared.record.FlowRecord.{FlowRecord}
use Rattle.consumer.specs.declared.given.Given.{Given}
use Rattle.consumer.specs.Given.{frames_of}
use Rattle.bonded_flows.specs.declared.flow_table.FlowTable.{FlowTable}
use Rattle.bonded_flows.specs.Parts.{comes}
use Rattle.bonded_flows.specs.Table.{TableSetup, TableInput, flow_setup, inputs_at, StandsFor}
use Rattle.receiver.specs.Received.{GaveAllParts}
use Rattle.uses.specs.declared.midstream.OnChannel.{OnChannel}

-- a segment comes to its flow on its channel
abbrev pub arrival : ℕ → OnChannel → TableInput
arrival flow one = record { flow = flow; input = comes (on_channel one.channel one.segment.segment) }

module _ {C O : Type 0} (after : O → List Given → O → Type 0) (accepts : C → List ℕ → Bool) where
  -- these inputs were handed in besides, and what the flows gave for them was given to the consumer
  pub record TakesAll (flows : FlowTable C) (out : O) (inputs : List TableInput) (flows' : FlowTable C) (out' : O) : Type 0 where
    pub more : List Given
    pub was_given : (start : O) (given : List Given) → after start given out → after start (given ++ more) out'
    pub stands : (check : List ℕ → Bool) (made : TableSetup) (history : List TableInput) (given : List Given)
        → StandsFor accepts flows check made history given → StandsFor accepts flows' check made (history ++ inputs) (given ++ more)

  -- all flows are closed: with what that gave, each gave all that comes of what was handed in of
  -- it, and these are the counts
  pub record ClosesAll (flows : FlowTable C) (out : O) (counts : List FlowCounts) (out' : O) : Type 0 where
    pub more : List Given
    pub was_given : (start : O) (given : List Given) → after start given out → after start (given ++ more) out'
    pub count : length counts ≡ length flows.slots.items
    pub gave : (check : List ℕ → Bool) (made : TableSetup) (history : List TableInput) (given : List Given)
        → StandsFor accepts flows check made history given
        → (k : ℕ) (flow_record : FlowRecord) (one : FlowCounts) → slice_get made.records k ≡ Some flow_record → slice_get counts k ≡ Some one
        → GaveAllParts check (flow_setup made k flow_record) (inputs_at k history) (frames_of k (given ++ more)) one
