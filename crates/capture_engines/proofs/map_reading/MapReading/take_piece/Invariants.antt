use Rattle.std.proofs.Common.{length}
use Rattle.capture_engines.specs.Inside.Reading.{MapsSome}
use Rattle.capture_engines.proofs.map_reading.MapReading.take_piece.Given as goal

abbrev pub invariant-loop-rest : goal.invariant-loop-rest
invariant-loop-rest l = MapsSome l.fn.self l.piece l.rest l.self

abbrev pub decreases-loop-rest : goal.decreases-loop-rest
decreases-loop-rest l = length l.rest
