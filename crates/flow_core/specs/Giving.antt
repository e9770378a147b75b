-- What one flow of a core has given, and how it is drained and closed.
use Rattle.std.specs.Prelude.{◌≡◌, ℕ, Bool, List, ◌++◌, replicate}
use Rattle.flow_records.specs.declared.record.FlowRecord.{FlowRecord}
use Rattle.flow_core.specs.declared.flow.Flow.{Flow}
use Rattle.flow_core.specs.declared.flows.Core.{Core}
use Rattle.flow_core.specs.declared.event.Applied.{Applied}
use Rattle.flow_records.specs.Setup.{IsInRange}
use Rattle.flow_core.specs.Events.{FlowEvent, gap}
use Rattle.flow_core.specs.Closing.{IsClosed}
use Rattle.flow_core.specs.Flows.{HasFlow, IsDrainedAt}
use Rattle.flow_core.specs.Stands.{StandsFor, IsDrained}

module _ {C : Type 0} where
  -- Flow k of the core stands for these events, and has given these frames. The headers that the
  -- core's check says yes of are these.
  pub record HasGiven (accepts : C → List ℕ → Bool) (core : Core C) (k : ℕ) (accepted : List ℕ → Bool) (flow_record : FlowRecord) (events : List FlowEvent) (given : List (List ℕ)) : Type 0 where
    pub accepted_are : accepts core.check ≡ accepted
    pub flow : Flow
    pub there : HasFlow core k flow
    pub answers : List Applied
    pub y : ℕ
    pub stands : StandsFor accepted flow_record flow events answers y given

  -- and no segment of it is next
  pub record HasDrained (accepts : C → List ℕ → Bool) (core : Core C) (k : ℕ) (accepted : List ℕ → Bool) (flow_record : FlowRecord) (events : List FlowEvent) (given : List (List ℕ)) : Type 0 where
    pub has_given : HasGiven accepts core k accepted flow_record events given
    pub drained : IsDrained has_given.flow

  -- it stands for these events and then some gaps, which close it
  pub record HasClosed (accepts : C → List ℕ → Bool) (core : Core C) (k : ℕ) (accepted : List ℕ → Bool) (flow_record : FlowRecord) (events : List FlowEvent) (given : List (List ℕ)) : Type 0 where
    pub n : ℕ
    pub has_drained : HasDrained accepts core k accepted flow_record (events ++ replicate n gap) given
    pub closed : IsClosed has_drained.has_given.stands.fates

  -- it stands for some events by a record in range
  pub record IsRunning (accepts : C → List ℕ → Bool) (core : Core C) (k : ℕ) : Type 0 where
    pub accepted : List ℕ → Bool
    pub flow_record : FlowRecord
    pub events : List FlowEvent
    pub given : List (List ℕ)
    pub in_range : IsInRange flow_record
    pub has_given : HasGiven accepts core k accepted flow_record events given

  -- All segments of flow k that were next are joined, and their frames are appended: whatever
  -- events it stood for, it stands for them, has given these frames more, and is drained.
  pub record Drains (accepts : C → List ℕ → Bool) (core : Core C) (k : ℕ) (frames : List (List ℕ)) (after : Core C) (frames' : List (List ℕ)) : Type 0 where
    pub more : List (List ℕ)
    pub appended : frames' ≡ frames ++ more
    pub drained : IsDrainedAt after k
    pub gives : (accepted : List ℕ → Bool) (flow_record : FlowRecord) (events : List FlowEvent) (given : List (List ℕ))
        → IsInRange flow_record → HasGiven accepts core k accepted flow_record events given
        → HasDrained accepts after k accepted flow_record events (given ++ more)

  -- Flow k is closed, and the frames that the close gives are appended: whatever events it stood
  -- for, it stands for them and then for gaps, as many as still changed anything and possibly some
  -- more, has given these frames more, and is drained.
  pub record ClosesFlow (accepts : C → List ℕ → Bool) (core : Core C) (k : ℕ) (frames : List (List ℕ)) (after : Core C) (frames' : List (List ℕ)) : Type 0 where
    pub more : List (List ℕ)
    pub appended : frames' ≡ frames ++ more
    pub gives : (accepted : List ℕ → Bool) (flow_record : FlowRecord) (events : List FlowEvent) (given : List (List ℕ))
        → IsInRange flow_record → HasGiven accepts core k accepted flow_record events given
        → HasClosed accepts after k accepted flow_record events (given ++ more)
