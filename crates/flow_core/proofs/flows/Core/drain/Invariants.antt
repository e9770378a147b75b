-- Each segment that was joined has brought the flow further, no more than the window is wide, and
-- its frames are appended.
use Rattle.std.proofs.Common.{◌≡◌, ℕ, ◌+◌, ◌≤◌, ◌++◌, Bool, List}
use Rattle.flow_records.specs.declared.record.FlowRecord.{FlowRecord}
use Rattle.flow_core.specs.Events.{FlowEvent}
use Rattle.flow_core.specs.Flows.{OthersStay}
use Rattle.flow_core.specs.Giving.{HasGiven}
use Rattle.flow_core.proofs.flows.Core.drain.Given as goal

abbrev pub invariant-loop-joined : goal.invariant-loop-joined
invariant-loop-joined g l =
    record {
      others : OthersStay l.fn.self l.self l.flow;
      more : List (List ℕ);
      appended : l.frames.items ≡ l.fn.frames.items ++ more;
      gives : (accepted : List ℕ → Bool) (flow_record : FlowRecord) (events : List FlowEvent) (given : List (List ℕ))
          → (before : HasGiven g.C.HeaderCheck.accepts l.fn.self l.flow accepted flow_record events given)
          → (now : HasGiven g.C.HeaderCheck.accepts l.self l.flow accepted flow_record events (given ++ more))
          × (before.y + l._joined ≤ now.y) × (l._joined ≤ flow_record.window);
    }
