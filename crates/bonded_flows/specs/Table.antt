-- What a table of flows stands for: all that was handed in of its flows, in order.
use Rattle.std.specs.Prelude.{◌≡◌, ◌≢◌, ℕ, ◌≤◌, ◌==◌, Bool, Some, None, List, [], ◌∷◌, ◌++◌, length, map, filter_map, slice_get, if◌then◌else◌}
use Rattle.flow_records.specs.declared.record.FlowRecord.{FlowRecord}
use Rattle.lane.specs.declared.sids.SidRow.{SidRow}
use Rattle.loss_rule.specs.declared.rule.LossRule.{LossRule}
use Rattle.loss_rule.specs.Rule.{Coming}
use Rattle.consumer.specs.declared.given.Given.{Given}
use Rattle.consumer.specs.declared.given.Given.TheVariants.{Frame}
use Rattle.consumer.specs.Given.{frames_of}
use Rattle.bonded_flows.specs.declared.flow_slot.FlowSlot.{FlowSlot}
use Rattle.bonded_flows.specs.declared.flow_table.FlowTable.{FlowTable}
use Rattle.flow_core.specs.declared.counts.FlowCounts.{FlowCounts}
use Rattle.bonded_flows.specs.FlowSetup.{FlowSetup}
use Rattle.bonded_flows.specs.ByRule.{GaveByRule}
use Rattle.bonded_flows.specs.Channels.{channels_within}
use Rattle.bonded_flows.specs.Parts.{FlowInput, begins_anew}
use Rattle.bonded_flows.specs.Taking.{WasGiven}
use Rattle.bonded_flows.specs.Slots.{PartStands, SlotStands, IsPrepared, IsAtRest, IsClosing}

-- what a table is made with
pub record TableSetup : Type 0 where
  pub rule : LossRule
  pub records : List FlowRecord
  pub channels : ℕ
  pub rows : List SidRow

-- what flow k of it is made with
abbrev pub flow_setup : TableSetup → ℕ → FlowRecord → FlowSetup
flow_setup made k flow_record =
    record { index = k; rule = made.rule; flow_record = flow_record; channels = channels_within made.channels made.rows k }

-- something is handed in of the flow with this index
pub record TableInput : Type 0 where
  pub flow : ℕ
  pub input : FlowInput

-- what was handed in of flow k, in order
abbrev pub inputs_at : ℕ → List TableInput → List FlowInput
inputs_at k history = filter_map (λ one. if one.flow == k then Some one.input else None) history

module _ {C : Type 0} where
  -- **A table stands for** all that was handed in of its flows, in this order, and has given this.
  pub record StandsFor (accepts : C → List ℕ → Bool) (table : FlowTable C) (check : List ℕ → Bool) (made : TableSetup) (history : List TableInput) (given : List Given) : Type 0 where
    pub check_is : accepts table.check ≡ check
    pub flow_count : length table.slots.items ≡ length made.records
    pub flows : (k : ℕ) (flow_record : FlowRecord) (slot : FlowSlot) → slice_get made.records k ≡ Some flow_record → slice_get table.slots.items k ≡ Some slot
        → SlotStands check (flow_setup made k flow_record) slot (inputs_at k history) (frames_of k given)
    pub others : (k : ℕ) → length made.records ≤ k → frames_of k given ≡ []

  -- it stands for something
  pub record IsInUse (accepts : C → List ℕ → Bool) (table : FlowTable C) : Type 0 where
    pub check : List ℕ → Bool
    pub made : TableSetup
    pub history : List TableInput
    pub given : List Given
    pub stands : StandsFor accepts table check made history given

  -- what flow k stands for, since it was begun or began anew
  abbrev pub PartStandsAt : (List ℕ → Bool) → FlowSetup → FlowTable C → ℕ → List Coming → List (List ℕ) → Type 0
  PartStandsAt check setup table k comings given = (slot : FlowSlot) → slice_get table.slots.items k ≡ Some slot → PartStands check setup slot comings given

  -- flow k is begun, and nothing of it is left to be taken or to be joined
  abbrev pub IsPreparedAt : FlowTable C → ℕ → Type 0
  IsPreparedAt table k = (slot : FlowSlot) → slice_get table.slots.items k ≡ Some slot → IsPrepared slot

  -- flow k isn't begun, or nothing of it is left to be taken or to be joined
  abbrev pub IsAtRestAt : FlowTable C → ℕ → Type 0
  IsAtRestAt table k = (slot : FlowSlot) → slice_get table.slots.items k ≡ Some slot → IsAtRest slot

  -- flow k is being closed
  abbrev pub IsClosingAt : FlowTable C → ℕ → Type 0
  IsClosingAt table k = (slot : FlowSlot) → slice_get table.slots.items k ≡ Some slot → IsClosing slot

  -- all flows but this one stay as they are
  abbrev pub OthersStay : FlowTable C → ℕ → FlowTable C → Type 0
  OthersStay table k table' = (other : ℕ) → other ≢ k → slice_get table'.slots.items other ≡ slice_get table.slots.items other

  -- no flow begins to be closed
  abbrev pub NoneBeginsToClose : FlowTable C → FlowTable C → Type 0
  NoneBeginsToClose table table' = (k : ℕ) → IsClosingAt table' k → IsClosingAt table k

  -- **Whatever was handed in, this was handed in besides**, and the frames that flow k gave more
  -- were given to the consumer, in order.
  pub record TakesMore {O : Type 0} (after : O → List Given → O → Type 0) (accepts : C → List ℕ → Bool) (table : FlowTable C) (out : O) (k : ℕ) (inputs : List TableInput) (table' : FlowTable C) (out' : O) : Type 0 where
    pub more : List (List ℕ)
    pub was_given : WasGiven after k out more out'
    pub stands : (check : List ℕ → Bool) (made : TableSetup) (history : List TableInput) (given : List Given)
        → StandsFor accepts table check made history given → StandsFor accepts table' check made (history ++ inputs) (given ++ map (Frame k) more)

  -- **The flow is closed and begins anew** at this number. What there was left to give was given to
  -- the consumer, in order: of whatever came to the flow since it was begun, it gave what by the
  -- rule comes of that. All other flows stay.
  pub record BeginsAnewAt {O : Type 0} (after : O → List Given → O → Type 0) (accepts : C → List ℕ → Bool) (table : FlowTable C) (out : O) (k first : ℕ) (counts : FlowCounts) (table' : FlowTable C) (out' : O) : Type 0 where
    pub more : List (List ℕ)
    pub was_given : WasGiven after k out more out'
    pub stands : (check : List ℕ → Bool) (made : TableSetup) (history : List TableInput) (given : List Given)
        → StandsFor accepts table check made history given
        → StandsFor accepts table' check made (history ++ record { flow = k; input = begins_anew first } ∷ []) (given ++ map (Frame k) more)
    pub gave : (setup : FlowSetup) (comings : List Coming) (given : List (List ℕ))
        → PartStandsAt (accepts table.check) setup table k comings given
        → GaveByRule (accepts table.check) setup comings (given ++ more) counts
