use Rattle.std.proofs.Common.{◌≡◌, ◌++◌, List}
use Rattle.std.specs.Prelude.{All}
use Rattle.std.specs.Vec.Iter.{into_iter_items}
use Rattle.docsis_wire.specs.declared.segment.Segment.{Segment}
use Rattle.docsis_wire.specs.Ready.{IsReady}
use Rattle.flow_records.specs.Setup.{IsInRange}
use Rattle.flow_core.specs.Flows.{IsDrainedAt}
use Rattle.flow_core.specs.Giving.{HasGiven}
use Rattle.uses.specs.OneFlow.{arrivals}
use Rattle.uses.proofs.one_flow.play.Given as goal

-- the segments so far have arrived, and the flow is drained after each
abbrev pub invariant-loop-segment : goal.invariant-loop-segment
invariant-loop-segment g l =
    All IsReady (into_iter_items l.segment-iterator)
    × IsInRange l.fn.flow_record
    × IsDrainedAt l.core 0
    × ((done : List Segment)
    × (done ++ into_iter_items l.segment-iterator ≡ l.fn.segments.items)
    × HasGiven g.C.HeaderCheck.accepts l.core 0 (g.C.HeaderCheck.accepts l.fn.check) l.fn.flow_record (arrivals done) l.frames.items)
