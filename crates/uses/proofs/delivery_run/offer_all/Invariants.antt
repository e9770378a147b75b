use Rattle.std.proofs.Common.{◌≡◌, ◌++◌}
use Rattle.std.specs.Vec.Iter.{into_iter_items}
use Rattle.delivery.specs.Frames.{frames_in}
use Rattle.delivery.specs.Feeders.{feeder_ring, offered}
use Rattle.uses.proofs.delivery_run.offer_all.Given as goal

abbrev pub invariant-loop-frame : goal.invariant-loop-frame
invariant-loop-frame l =
    (feeder_ring l.feeder ≡ feeder_ring l.fn.feeder)
    × (offered l.feeder ++ frames_in (into_iter_items l.frame-iterator) ≡ offered l.fn.feeder ++ frames_in l.fn.frames.items)
