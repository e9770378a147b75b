-- Each segment that was joined has brought the flow further, no more than the window is wide, and
-- its frames were given.
use Rattle.std.proofs.Common.{ℕ, ◌+◌, ◌≤◌, ◌++◌, List}
use Rattle.flow_records.specs.declared.record.FlowRecord.{FlowRecord}
use Rattle.flow_core.specs.declared.event.Applied.{Applied}
use Rattle.flow_core.specs.Events.{FlowEvent}
use Rattle.flow_core.specs.Stands.{StandsFor}
use Rattle.bonded_flows.specs.Taking.{WasGiven}
use Rattle.bonded_flows.proofs.bonded_flow.draining.join_all.Given as goal

abbrev pub invariant-loop-joined : goal.invariant-loop-joined
invariant-loop-joined g l =
    record {
      more : List (List ℕ);
      was_given : WasGiven g.O.Consumer.after l.fn.index l.fn.out more l.out;
      stands : (flow_record : FlowRecord) (events : List FlowEvent) (answers : List Applied) (y : ℕ) (given : List (List ℕ))
          → StandsFor (g.C.HeaderCheck.accepts l.fn.check) flow_record l.fn.flow events answers y given
          → (z : ℕ) × StandsFor (g.C.HeaderCheck.accepts l.fn.check) flow_record l.flow events answers z (given ++ more)
          × (y + l._joined ≤ z) × (l._joined ≤ flow_record.window);
    }
