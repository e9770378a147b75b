use Rattle.std.proofs.Common.{[], Some, map, take}
use Rattle.ccf.specs.Join.{Joins}
use Rattle.uses.proofs.cut_joined_again.join_all.Given as goal

-- the segments so far join to the frames so far
abbrev pub invariant-loop-segment : goal.invariant-loop-segment
invariant-loop-segment g l =
    Joins (g.C.HeaderCheck.accepts l.check) [] (map Some (take l.segment-index l.segments)) l.joined.items l.joiner
