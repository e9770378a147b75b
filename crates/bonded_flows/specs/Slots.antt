-- What a slot of a table stands for: a flow that is begun once a segment comes to it.
use Rattle.std.specs.FinMap as map
use Rattle.std.specs.Prelude.{◌≡◌, ℕ, ◌≤◌, Bool, Option, Some, None, List, [], ◌++◌, take, slice_get}
use Rattle.std.specs.Global.{Box}
use Rattle.std.specs.Box.{box_value}
use Rattle.flow_records.specs.declared.record.FlowRecord.{FlowRecord}
use Rattle.flow_records.specs.Setup.{IsInRange}
use Rattle.loss_rule.specs.declared.rule.LossRule.{LossRule}
use Rattle.flow_core.specs.declared.counts.FlowCounts.{FlowCounts}
use Rattle.lane.specs.Limits.{most_channels}
use Rattle.flow_core.specs.Fates.{no_fates}
use Rattle.flow_core.specs.Events.{FlowEvent}
use Rattle.flow_core.specs.Closing.{HaveNoArrival, HaveNoSkip}
use Rattle.loss_rule.specs.Rule.{Coming, Lasts, AreRuled}
use Rattle.consumer.specs.declared.given.Given.{Given}
use Rattle.bonded_flows.specs.declared.bonded_flow.BondedFlow.{BondedFlow}
use Rattle.bonded_flows.specs.declared.flow_slot.FlowSlot.{FlowSlot}
use Rattle.bonded_flows.specs.declared.flow_slot.DecideFault.{DecideFault}
use Rattle.bonded_flows.specs.declared.flow_slot.DecideFault.TheVariants.{NotTaken, Unfinished}
use Rattle.bonded_flows.specs.declared.pending.Pending.TheVariants.{Close}
use Rattle.bonded_flows.specs.FlowSetup.{FlowSetup, ruled_flow}
use Rattle.bonded_flows.specs.ByRule.{GaveByRule}
use Rattle.bonded_flows.specs.Stands.{HasCome, IsSettled}
use Rattle.bonded_flows.specs.Taking.{WasGiven}
use Rattle.bonded_flows.specs.Parts.{FlowInput, parts_over, last_part, begun_at, GaveInParts}

-- A flow that wasn't begun: no segment came to it, and what was decided of it changed nothing.
pub record HasNotBegun (setup : FlowSetup) (comings : List Coming) (given : List (List ℕ)) : Type 0 where
  pub events : List FlowEvent
  pub lasts : Lasts
  pub ruled : AreRuled setup.rule (ruled_flow setup) comings events lasts no_fates
  pub no_arrival : HaveNoArrival events
  pub no_skip : HaveNoSkip events
  pub nothing : given ≡ []

-- the flow, or that it wasn't begun, stands for all this
abbrev pub EntryStands : (List ℕ → Bool) → FlowSetup → Option (Box BondedFlow) → List Coming → List (List ℕ) → Type 0
EntryStands check setup None comings given = HasNotBegun setup comings given
EntryStands check setup (Some flow) comings given = HasCome check setup (box_value flow) comings given

-- The slot's flow was made, or will be, with this, and so much came to it since it last began.
pub record PartStands (check : List ℕ → Bool) (setup : FlowSetup) (slot : FlowSlot) (comings : List Coming) (given : List (List ℕ)) : Type 0 where
  pub index : slot.index ≡ setup.index
  pub rule : slot.rule ≡ setup.rule
  pub record_is : slot.flow_record ≡ setup.flow_record
  pub few : slot.channel_count ≤ most_channels
  pub channels : take slot.channel_count slot.channels ≡ setup.channels
  pub in_range : IsInRange setup.flow_record
  pub entry : EntryStands check setup slot.flow comings given

-- **A slot stands for** all that was handed in of its flow: the parts that are over gave what they
-- had to give, and the last one is under way.
pub record SlotStands (check : List ℕ → Bool) (setup : FlowSetup) (slot : FlowSlot) (inputs : List FlowInput) (given : List (List ℕ)) : Type 0 where
  pub earlier : List (List ℕ)
  pub own : List (List ℕ)
  pub gave : GaveInParts check setup (parts_over setup inputs) earlier
  pub all : given ≡ earlier ++ own
  pub part : PartStands check (begun_at setup (last_part setup inputs).first) slot (last_part setup inputs).comings own

-- how many segments a flow holds, or one that wasn't begun
abbrev pub held_of : Option (Box BondedFlow) → ℕ
held_of None = 0
held_of (Some flow) = map.len (box_value flow).flow.window.held

-- it stands for something
pub record IsInUse (check : List ℕ → Bool) (slot : FlowSlot) : Type 0 where
  pub setup : FlowSetup
  pub comings : List Coming
  pub given : List (List ℕ)
  pub stands : PartStands check setup slot comings given

-- its flow is begun, and nothing is left to be taken or to be joined
abbrev pub IsPrepared : FlowSlot → Type 0
IsPrepared slot = (flow : Box BondedFlow) × (slot.flow ≡ Some flow) × IsSettled (box_value flow)

-- its flow wasn't begun, or nothing is left to be taken or to be joined
abbrev pub IsAtRest : FlowSlot → Type 0
IsAtRest slot = (flow : Box BondedFlow) → slot.flow ≡ Some flow → IsSettled (box_value flow)

-- its flow is being closed
abbrev pub IsClosing : FlowSlot → Type 0
IsClosing slot = (flow : Box BondedFlow) × (slot.flow ≡ Some flow) × ((box_value flow).pending ≡ Close)

-- the slot of a flow that wasn't begun, made with this
pub record IsNewSlot (index : ℕ) (rule : LossRule) (flow_record : FlowRecord) (channels : List Bool) (channel_count : ℕ) (slot : FlowSlot) : Type 0 where
  pub index_is : slot.index ≡ index
  pub rule_is : slot.rule ≡ rule
  pub record_is : slot.flow_record ≡ flow_record
  pub channels_are : slot.channels ≡ channels
  pub count_is : slot.channel_count ≡ channel_count
  pub none : slot.flow ≡ None

-- each slot is a new one of the flow whose record and channels stand at its place
abbrev pub AreNewSlots : LossRule → List FlowRecord → List (List Bool) → ℕ → List FlowSlot → Type 0
AreNewSlots rule records sets channel_count slots =
    (k : ℕ) (flow_record : FlowRecord) (channels : List Bool) (slot : FlowSlot) → slice_get records k ≡ Some flow_record → slice_get sets k ≡ Some channels
    → slice_get slots k ≡ Some slot → IsNewSlot k rule flow_record channels channel_count slot

-- what its flow will be made with
abbrev pub setup_in : FlowSlot → FlowSetup
setup_in slot = record { index = slot.index; rule = slot.rule; flow_record = slot.flow_record; channels = take slot.channel_count slot.channels }

-- how many segments its flow holds
abbrev pub held_in : FlowSlot → ℕ
held_in slot = held_of slot.flow

-- what holds where a decision wasn't taken, and what where it was and something is left to be done
abbrev pub LeavesOf : DecideFault → Type 0 → Type 0 → Type 0
LeavesOf (NotTaken why) NotTakes Takes = NotTakes
LeavesOf Unfinished NotTakes Takes = Takes

module _ {O : Type 0} (after : O → List Given → O → Type 0) where
  -- whatever came to its flow, these came to it besides, and what it has given more was given to
  -- the consumer, in order
  pub record SlotTakes (check : List ℕ → Bool) (slot : FlowSlot) (out : O) (comings : List Coming) (slot' : FlowSlot) (out' : O) : Type 0 where
    pub more : List (List ℕ)
    pub was_given : WasGiven after slot.index out more out'
    pub stands : (setup : FlowSetup) (before : List Coming) (given : List (List ℕ))
        → PartStands check setup slot before given → PartStands check setup slot' (before ++ comings) (given ++ more)

  -- its flow is closed, gave what there was left to give, and begins anew at this number
  pub record BeginsAnew (check : List ℕ → Bool) (slot : FlowSlot) (out : O) (first : ℕ) (counts : FlowCounts) (slot' : FlowSlot) (out' : O) : Type 0 where
    pub more : List (List ℕ)
    pub was_given : WasGiven after slot.index out more out'
    pub gave : (setup : FlowSetup) (comings : List Coming) (given : List (List ℕ))
        → PartStands check setup slot comings given
        → GaveByRule check setup comings (given ++ more) counts × PartStands check (begun_at setup first) slot' [] []
