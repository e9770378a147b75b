use Rattle.std.proofs.Common.{length}
use Rattle.frame_engine.specs.Begun.{CanJoin}
use Rattle.frame_engine.specs.Inside.Joins.{JoinsSome}
use Rattle.frame_engine.specs.Inside.Beside.{JoinsSomeBeside}
use Rattle.frame_engine.proofs.frame_reading.FrameReading.take_piece.Given as goal

abbrev pub invariant-loop-rest : goal.invariant-loop-rest
invariant-loop-rest l = record {
  joins : JoinsSome l.fn.self l.piece l.rest l.self;
  beside : JoinsSomeBeside l.fn.self l.fn.comparing l.piece l.rest l.self l.comparing;
  ready : CanJoin l.self;
}

abbrev pub decreases-loop-rest : goal.decreases-loop-rest
decreases-loop-rest l = length l.rest
