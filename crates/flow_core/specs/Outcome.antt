-- What a flow gives by the definitions alone: no code is named.
use Rattle.std.specs.Prelude.{ℕ, Bool, Option, List, []}
use Rattle.docsis_wire.specs.declared.segment.Segment.{Segment}
use Rattle.ccf.specs.Join.{Joins}
use Rattle.flow_records.specs.declared.record.FlowRecord.{FlowRecord}
use Rattle.flow_core.specs.declared.counts.FlowCounts.{FlowCounts}
use Rattle.flow_core.specs.declared.event.Applied.{Applied}
use Rattle.flow_core.specs.Fates.{Fates, IsExpected, IsSettledBelow}
use Rattle.flow_core.specs.Events.{FlowEvent, IsAfter}
use Rattle.flow_core.specs.Counts.{AreCounts}

-- What a flow with this record gives after these events, once it is drained: these frames, and
-- these counts. What is settled below the expected index is joined.
pub record IsFlowOutcome (check : List ℕ → Bool) (flow_record : FlowRecord) (events : List FlowEvent) (frames : List (List ℕ)) (counts : FlowCounts) : Type 0 where
  pub answers : List Applied
  pub fates : Fates
  pub after : IsAfter flow_record.first flow_record.window events answers fates
  pub x : ℕ
  pub expected : IsExpected fates x
  pub settled : List (Option Segment)
  pub below : IsSettledBelow fates x settled
  pub unfinished : List ℕ
  pub joined : Joins check [] settled frames unfinished
  pub counted : AreCounts answers settled frames unfinished counts
