-- Each gap so far has declared a segment lost, and the frames that came after it are appended.
use Rattle.std.proofs.Common.{◌≡◌, ℕ, ◌+◌, ◌++◌, Bool, List, count_by, replicate}
use Rattle.flow_records.specs.declared.record.FlowRecord.{FlowRecord}
use Rattle.flow_core.specs.Events.{FlowEvent, gap}
use Rattle.flow_records.specs.Setup.{IsInRange}
use Rattle.flow_core.specs.Flows.{OthersStay, IsDrainedAt}
use Rattle.flow_core.specs.Closing.{says_lost}
use Rattle.flow_core.specs.Giving.{HasGiven}
use Rattle.flow_core.proofs.flows.Core.close.Given as goal

abbrev pub invariant-loop-closed : goal.invariant-loop-closed
invariant-loop-closed g l =
    record {
      others : OthersStay l.fn.self l.self l.flow;
      drained : IsDrainedAt l.self l.flow;
      more : List (List ℕ);
      appended : l.frames.items ≡ l.fn.frames.items ++ more;
      gives : (accepted : List ℕ → Bool) (flow_record : FlowRecord) (events : List FlowEvent) (given : List (List ℕ)) → IsInRange flow_record
          → (before : HasGiven g.C.HeaderCheck.accepts l.fn.self l.flow accepted flow_record events given)
          → (now : HasGiven g.C.HeaderCheck.accepts l.self l.flow accepted flow_record (events ++ replicate l._closed gap) (given ++ more))
          × (count_by says_lost now.answers ≡ count_by says_lost before.answers + l._closed);
    }
