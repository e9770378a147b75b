-- What is seen of the rings' ends stays, and all that was offered to those so far was taken.
use Rattle.std.proofs.Common.{◌≡◌, map, length}
use Rattle.delivery.specs.Feeders.{closed_ring, closed_offered}
use Rattle.delivery.specs.Takers.{taker_ring, taken, is_closed}
use Rattle.workers.proofs.RingsSettled.{AreTakenBelow}
use Rattle.workers.proofs.rings.settle_rings.Given as goal

abbrev pub invariant-loop-k : goal.invariant-loop-k
invariant-loop-k l =
    record {
      count : length l.feeders ≡ length l.fn.feeders;
      feeder_rings : map closed_ring l.feeders ≡ map closed_ring l.fn.feeders;
      taker_rings : map taker_ring l.takers ≡ map taker_ring l.fn.takers;
      offered : map closed_offered l.feeders ≡ map closed_offered l.fn.feeders;
      taken : map taken l.takers ≡ map taken l.fn.takers;
      closed : map is_closed l.takers ≡ map is_closed l.fn.takers;
      all_taken : AreTakenBelow l.fn.feeders l.fn.takers l.k;
    }
