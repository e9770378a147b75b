-- Each record so far has a ring into which nothing was put, and there is room for the rest.
use Rattle.std.proofs.Common.{◌≡◌, ◌≤◌, All, [], map, length, take, vec_capacity}
use Rattle.delivery.specs.Feeders.{feeder_ring, offered, room}
use Rattle.delivery.specs.Takers.{taker_ring, taken}
use Rattle.workers.specs.Inside.Opening.{ring_of}
use Rattle.workers.proofs.rings.open_rings.Given as goal

abbrev pub invariant-loop-flow : goal.invariant-loop-flow
invariant-loop-flow l =
    record {
      feeder_count : length l.feeders.items ≡ l.flow-index;
      taker_count : length l.takers.items ≡ l.flow-index;
      feeder_room : length l.flows ≤ vec_capacity l.feeders;
      rooms : map room l.feeders.items ≡ map ring_of (take l.flow-index l.flows);
      taker_room : length l.flows ≤ vec_capacity l.takers;
      same : map feeder_ring l.feeders.items ≡ map taker_ring l.takers.items;
      none_offered : All (λ feeder. offered feeder ≡ []) l.feeders.items;
      none_taken : All (λ taker. taken taker ≡ []) l.takers.items;
    }
