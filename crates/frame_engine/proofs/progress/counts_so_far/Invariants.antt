-- The first flows were counted.
use Rattle.std.proofs.Common.{take}
use Rattle.frame_engine.specs.Progress.{AreCounted}
use Rattle.frame_engine.proofs.progress.counts_so_far.Given as goal

abbrev pub invariant-loop-flow : goal.invariant-loop-flow
invariant-loop-flow l = AreCounted l.reading (take l.flow l.tally.summary.flows.items) l.counts
