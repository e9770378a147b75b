use Rattle.std.proofs.Common.{◌≤◌, ◌+◌, length}
use Rattle.capture_map.proofs.MapSoFar.{MapSoFar}
use Rattle.capture_map.proofs.reading.read_map.Given as goal

abbrev pub invariant-loop-rest : goal.invariant-loop-rest
invariant-loop-rest l = record {
  so_far : MapSoFar l.text l.rest l.number l.reading;
  within : l.number + length l.rest ≤ length l.text + 1;
}

abbrev pub decreases-loop-rest : goal.decreases-loop-rest
decreases-loop-rest l = length l.rest
