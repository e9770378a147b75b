use Rattle.std.proofs.Common.{◌-◌, length}
use Rattle.docsis_wire.specs.CutUnderWay.{IsSameCut}
use Rattle.texts.proofs.PutSoFar.{PutSoFar}
use Rattle.texts.proofs.cut.put_cut.Given as goal

abbrev pub invariant-loop-segment : goal.invariant-loop-segment
invariant-loop-segment g l = record {
  same : IsSameCut l.fn.cutter l.cutter;
  so_far : PutSoFar g.O.PutText.after l.cutter l.initial.out l.out;
}

abbrev pub decreases-loop-segment : goal.decreases-loop-segment
decreases-loop-segment g l = length l.cutter.pieces - l.cutter.made
