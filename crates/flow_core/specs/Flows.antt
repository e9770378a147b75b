-- All flows of a core, and what becomes of them.
use Rattle.std.specs.Prelude.{◌≡◌, ◌≢◌, ℕ, ◌<◌, ◌↔◌, Bool, IsTrue, Some, List, [], length, slice_get}
use Rattle.flow_records.specs.declared.record.FlowRecord.{FlowRecord}
use Rattle.flow_core.specs.declared.flow.Flow.{Flow}
use Rattle.flow_core.specs.declared.flows.Core.{Core}
use Rattle.flow_records.specs.declared.event.Event.{Event}
use Rattle.flow_records.specs.declared.event.Event.TheVariants.{Arrive, Gap, GapTo, SkipTo}
use Rattle.flow_core.specs.declared.event.Applied.{Applied}
use Rattle.flow_core.specs.declared.event.Applied.TheVariants.{Decision}
use Rattle.flow_core.specs.declared.event.Step.{Step}
use Rattle.reorder.specs.declared.verdict.Declared.{Declared}
use Rattle.reorder.specs.declared.verdict.Declared.TheVariants.{Lost}
use Rattle.flow_core.specs.Fates.{HasLaterKept}
use Rattle.flow_core.specs.Events.{FlowEvent, arrives, gap, gap_to, skip_to}
use Rattle.flow_core.specs.Stands.{StandsFor, IsDrained, TakesEvent, Advances}

-- what happens to the flow that an event names
abbrev pub event_of : Event → FlowEvent
event_of (Arrive flow segment) = arrives segment
event_of (Gap flow) = gap
event_of (GapTo flow number) = gap_to number
event_of (SkipTo flow number) = skip_to number

-- the answer is that a number was declared lost
abbrev pub IsLoss : Declared → Type 0
IsLoss declared = (number : ℕ) × (declared ≡ Lost number)

-- each record has a flow, at the same index, that stands for no events
abbrev pub AreNewFlows : List FlowRecord → List Flow → Type 0
AreNewFlows records flows =
    (k : ℕ) (flow_record : FlowRecord) → slice_get records k ≡ Some flow_record
    → (flow : Flow) × (slice_get flows k ≡ Some flow) × ((check : List ℕ → Bool) → StandsFor check flow_record flow [] [] 0 [])

-- whatever events a flow stands for, no segment was kept after the index to which it has come
abbrev pub HasNoneLater : Flow → Type 0
HasNoneLater flow =
    (check : List ℕ → Bool) (flow_record : FlowRecord) (events : List FlowEvent) (answers : List Applied) (y : ℕ) (given : List (List ℕ))
    → (stands : StandsFor check flow_record flow events answers y given) → ¬ (HasLaterKept stands.fates y)

module _ {C : Type 0} where
  -- the core has this flow at this index
  abbrev pub HasFlow : Core C → ℕ → Flow → Type 0
  HasFlow core k flow = slice_get core.flows.items k ≡ Some flow

  -- there are as many flows as before, with the same check, and all but flow k are as they were
  pub record OthersStay (core after : Core C) (k : ℕ) : Type 0 where
    pub check : after.check ≡ core.check
    pub count : length after.flows.items ≡ length core.flows.items
    pub others : (j : ℕ) → j ≢ k → slice_get after.flows.items j ≡ slice_get core.flows.items j

  -- flow k takes an event
  abbrev pub TakesEventAt : Core C → ℕ → FlowEvent → Applied → Core C → Type 0
  TakesEventAt core k event answer after =
      (flow : Flow) → HasFlow core k flow → (flow' : Flow) × HasFlow after k flow' × TakesEvent flow event answer flow'

  -- flow k advances
  abbrev pub AdvancesAt : (C → List ℕ → Bool) → Core C → ℕ → Step → Core C → Type 0
  AdvancesAt accepts core k step after =
      (flow : Flow) → HasFlow core k flow → (flow' : Flow) × HasFlow after k flow' × Advances (accepts core.check) flow step flow'

  -- Flow k takes a gap, which declares the expected index lost exactly if the answer says so.
  -- Otherwise nothing changes, and no later segment was kept, so that no loss can be declared.
  pub record ClosesGapAt (core : Core C) (k : ℕ) (lost : Bool) (after : Core C) : Type 0 where
    pub declared : Declared
    pub answer : IsTrue lost ↔ IsLoss declared
    pub taken : TakesEventAt core k gap (Decision declared) after
    pub unchanged : ¬ (IsTrue lost) → after ≡ core
    pub closed : ¬ (IsTrue lost) → (flow : Flow) → HasFlow core k flow → HasNoneLater flow

  -- no segment of flow k is next
  pub record IsDrainedAt (core : Core C) (k : ℕ) : Type 0 where
    pub flow : Flow
    pub there : HasFlow core k flow
    pub drained : IsDrained flow

  -- every flow of a new core stands for no events, and no segment of it is next
  pub record IsNewCore (check : C) (records : List FlowRecord) (core : Core C) : Type 0 where
    pub check_is : core.check ≡ check
    pub count : length core.flows.items ≡ length records
    pub each : AreNewFlows records core.flows.items
    pub drained : (k : ℕ) → k < length records → IsDrainedAt core k
