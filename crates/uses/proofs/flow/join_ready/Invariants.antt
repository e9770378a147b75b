use Rattle.std.proofs.Common.{[], Some, map, take}
use Rattle.ccf.specs.Join.{Joins}
use Rattle.uses.proofs.flow.join_ready.Given as goal

-- the segments so far join to the frames so far
abbrev pub invariant-loop-ready : goal.invariant-loop-ready
invariant-loop-ready g l =
    Joins (g.C.HeaderCheck.accepts l.check) [] (map (λ ready. Some ready.segment) (take l.ready-index l.segments)) l.joined.items l.joiner
