use Rattle.std.proofs.Common.{◌-◌, length}
use Rattle.docsis_wire.specs.CutUnderWay.{IsSameCut, HasMade}
use Rattle.docsis_wire.proofs.cutter.make.Given as goal

abbrev pub invariant-loop-parts : goal.invariant-loop-parts
invariant-loop-parts l = record {
  same : IsSameCut l.fn.cutter l.cutter;
  made : HasMade l.cutter l.segments.items;
}

abbrev pub decreases-loop-parts : goal.decreases-loop-parts
decreases-loop-parts l = length l.cutter.pieces - l.cutter.made
