-- What the assembler of a running receiver has done with what it took.
use Rattle.std.specs.Prelude.{◌≡◌, ℕ, ◌<◌, ◌⊎◌, Bool, All, Option, Some, None, List, Vec, [], ◌∷◌, ◌++◌, length, map, slice_get, slice_index_or}
use Rattle.std.specs.declared.alloc.Global.{Global}
use Rattle.delivery.specs.Feeders.{closed_offered}
use Rattle.delivery.specs.declared.feeder.Feeder.{Feeder}
use Rattle.delivery.specs.declared.feeder.ClosedFeeder.{ClosedFeeder}
use Rattle.flow_records.specs.declared.event.Event.{Event}
use Rattle.flow_records.specs.declared.record.FlowRecord.{FlowRecord}
use Rattle.flow_core.specs.declared.counts.FlowCounts.{FlowCounts}
use Rattle.lane.specs.Limits.{senders}
use Rattle.consumer.specs.declared.given.Given.{Given}
use Rattle.consumer.specs.Given.{frames_of}
use Rattle.bonded_flows.specs.declared.flow_table.FlowTable.{FlowTable}
use Rattle.bonded_flows.specs.Table.{TableSetup, TableInput, flow_setup, inputs_at, StandsFor, TakesMore}
use Rattle.receiver.specs.Order.{picked}
use Rattle.receiver.specs.Received.{GaveAllParts, closings}
use Rattle.receiver.specs.TakenInOrder.{table_input_of, table_inputs}
use Rattle.uplink.specs.declared.assembler.Taking.{Taking}
use Rattle.uplink.specs.declared.assembler.Assembled.{Assembled}
use Rattle.uplink.specs.declared.feeding.Feeding.{Feeding}
use Rattle.uplink.specs.Inside.Feeding.{offered_to, HasOffered}
use Rattle.uplink.specs.Fronts.{ComesFirstIn}
use Rattle.workers.specs.declared.item.Item.{Item}
use Rattle.workers.specs.Inside.Carried.{SentEvent, carried, senders_of, events_of}

-- The events of what was taken of each port since the beginning, with who sends them, are what this
-- order of the ports gives to it, of these.
pub record HasCollected (before now : ℕ → List Item) (ports : List ℕ) (items : List SentEvent) : Type 0 where
  pub named : All (λ port. port < senders) ports
  pub paired : length ports ≡ length items
  pub taken_is : (port : ℕ) → carried (now port) ≡ carried (before port) ++ picked port ports items

-- these senders were appended to an order that is kept; one that isn't kept stays so
abbrev pub HasOrder : Option (Vec ℕ Global) → List ℕ → Option (Vec ℕ Global) → Type 0
HasOrder None order now = now ≡ None
HasOrder (Some was) order now = (kept : Vec ℕ Global) × (now ≡ Some kept) × (kept.items ≡ was.items ++ order)

-- what each closed flow gave, with these counts: all that comes of what was handed in of it
abbrev pub GaveAll : (List ℕ → Bool) → TableSetup → List TableInput → List Given → List FlowCounts → Type 0
GaveAll check made history given counts =
    (k : ℕ) (flow_record : FlowRecord) (count : FlowCounts) → slice_get made.records k ≡ Some flow_record → slice_get counts k ≡ Some count
    → GaveAllParts check (flow_setup made k flow_record) (inputs_at k history) (frames_of k given) count

module _ {C : Type 0} (accepts : C → List ℕ → Bool) where
  -- these inputs were handed in besides, of some flow, and what it gave was offered
  abbrev pub Takes : FlowTable C → Feeding → List TableInput → FlowTable C → Feeding → Type 0
  Takes flows feeding inputs flows' feeding' = (k : ℕ) × TakesMore HasOffered accepts flows feeding k inputs flows' feeding'

  -- one item more of this sender was taken, or passed over, and what its flow gave was offered
  abbrev pub TakesItem : FlowTable C → Feeding → ℕ → Event → FlowTable C → Feeding → Type 0
  TakesItem flows feeding from item flows' feeding' = Takes flows feeding (table_input_of from item ∷ []) flows' feeding'

  -- Of what is handed in nothing was taken, or all, and what its flow gave was offered.
  pub record TakesAtMost (flows : FlowTable C) (feeding : Feeding) (input : TableInput) (flows' : FlowTable C) (feeding' : Feeding) : Type 0 where
    pub flow : ℕ
    pub taken : List TableInput
    pub at_most : (taken ≡ []) ⊎ (taken ≡ input ∷ [])
    pub takes : TakesMore HasOffered accepts flows feeding flow taken flows' feeding'

  -- the same, whatever the flows are then
  abbrev pub FeedsAtMost : FlowTable C → Feeding → TableInput → Feeding → Type 0
  FeedsAtMost flows feeding input feeding' = (flows' : FlowTable C) × TakesAtMost flows feeding input flows' feeding'

  -- So far some items were taken, in this order, and what the flows gave for them was offered.
  pub record HasAssembledSoFar (first : Taking C) (feeding0 : Feeding) (before now : ℕ → List Item) (made : Taking C) (feeding : Feeding) : Type 0 where
    pub ports : List ℕ
    pub items : List SentEvent
    pub given : List Given
    pub ordered : HasOrder first.order (senders_of items) made.order
    pub has_collected : HasCollected before now ports items
    pub stands : (check : List ℕ → Bool) (setup : TableSetup) (history : List TableInput) (given0 : List Given) → StandsFor accepts first.flows check setup history given0
        → StandsFor accepts made.flows check setup (history ++ table_inputs (senders_of items) (events_of items)) (given0 ++ given)
    pub offered : HasOffered feeding0 given feeding

  -- All flows are closed, and what that gave was offered: whatever was handed in and given before,
  -- with this each gave all, and these are the counts.
  pub record ClosesFlows (flows : FlowTable C) (feeding : Feeding) (counts : List FlowCounts) (feeding' : Feeding) : Type 0 where
    pub more : List Given
    pub offered : HasOffered feeding more feeding'
    pub count : length counts ≡ length flows.slots.items
    pub gave : (check : List ℕ → Bool) (setup : TableSetup) (history : List TableInput) (given : List Given)
        → StandsFor accepts flows check setup history given → GaveAll check setup history (given ++ more) counts

  -- So many flows, from the first, are closed and gave all. The rest stand for what was handed in.
  pub record HaveClosed (flows : FlowTable C) (check : List ℕ → Bool) (setup : TableSetup) (history : List TableInput) (given : List Given) (counts : List FlowCounts) : Type 0 where
    pub stands : StandsFor accepts flows check setup (history ++ closings (length counts)) given
    pub gave : GaveAll check setup history given counts

  -- some flows were closed, and what that gave was offered
  pub record ClosesFirst (flows : FlowTable C) (feeding : Feeding) (feeding' : Feeding) : Type 0 where
    pub flows' : FlowTable C
    pub counts : List FlowCounts
    pub more : List Given
    pub offered : HasOffered feeding more feeding'
    pub closed : (check : List ℕ → Bool) (setup : TableSetup) (history : List TableInput) (given : List Given)
        → StandsFor accepts flows check setup history given → HaveClosed flows' check setup history (given ++ more) counts

  -- The first items of each port were taken since the beginning, in this order of the ports, and
  -- some flows closed then; what was given for all that was offered so.
  pub record HasAssembledFirst (first : Taking C) (before now : ℕ → List Item) (is_offered : List Given → Type 0) : Type 0 where
    pub ports : List ℕ
    pub items : List SentEvent
    pub given : List Given
    pub counts : List FlowCounts
    pub named : All (λ port. port < senders) ports
    pub paired : length ports ≡ length items
    pub fronts : (port : ℕ) → ComesFirstIn (carried (before port) ++ picked port ports items) (carried (now port))
    pub stands : (check : List ℕ → Bool) (setup : TableSetup) → StandsFor accepts first.flows check setup [] []
        → (flows : FlowTable C) × HaveClosed flows check setup (table_inputs (senders_of items) (events_of items)) given counts
    pub offered : is_offered given

  -- The items, in this order, and each flow's close gave what was offered to the flow's feeder, and
  -- these counts.
  pub record HasAssembledAll (flows : FlowTable C) (order : List ℕ) (items : List Event) (feeders : List Feeder) (closed : List ClosedFeeder) (counts : List FlowCounts) : Type 0 where
    pub given : List Given
    pub count : length counts ≡ length flows.slots.items
    pub offered : (k : ℕ) → slice_index_or (map closed_offered closed) k [] ≡ offered_to feeders k ++ frames_of k given
    pub gave : (check : List ℕ → Bool) (setup : TableSetup) → StandsFor accepts flows check setup [] [] → GaveAll check setup (table_inputs order items) given counts

  -- All items were taken since the beginning, in some order, and they and each flow's close gave
  -- what was offered and counted.
  pub record HasAssembled (first : Taking C) (feeders : List Feeder) (before now : ℕ → List Item) (closed : List ClosedFeeder) (done : Assembled) : Type 0 where
    pub ports : List ℕ
    pub items : List SentEvent
    pub ordered : HasOrder first.order (senders_of items) done.order
    pub has_collected : HasCollected before now ports items
    pub has_assembled : HasAssembledAll first.flows (senders_of items) (events_of items) feeders closed done.counts.items
