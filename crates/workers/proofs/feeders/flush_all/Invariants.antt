-- Of the feeders that were flushed so far each has an empty backlog or knows of no room, and it is
-- known whether one of these has frames left.
use Rattle.std.proofs.Common.{◌≡◌, ◌≢◌, ◌<◌, ◌⊎◌, ℕ, true, false, []}
use Rattle.std.specs.Prelude.{map, slice_index_or}
use Rattle.std.specs.List.{AllWithin}
use Rattle.delivery.specs.Feeders.{feeder_ring, offered, backlog, room}
use Rattle.delivery.specs.declared.feeder.Feeder.{Feeder}
use Rattle.workers.proofs.feeders.flush_all.Given as goal

abbrev pub invariant-loop-feeder : goal.invariant-loop-feeder
invariant-loop-feeder l = record {
  rings : map feeder_ring l.feeders ≡ map feeder_ring l.fn.feeders;
  offered : map offered l.feeders ≡ map offered l.fn.feeders;
  flushed : AllWithin (λ (feeder : Feeder). (backlog feeder ≡ []) ⊎ (room feeder ≡ 0)) l.feeders 0 l.feeder-index;
  none_left : l.are_left ≡ false → AllWithin (λ (feeder : Feeder). backlog feeder ≡ []) l.feeders 0 l.feeder-index;
  some_left : l.are_left ≡ true → (k : ℕ) × (feeder : Feeder) × (k < l.feeder-index)
      × (slice_index_or l.feeders k feeder ≡ feeder) × (backlog feeder ≢ []);
}
