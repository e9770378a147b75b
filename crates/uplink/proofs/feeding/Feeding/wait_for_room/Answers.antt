-- Feeders that were waited for were offered what they were.
use Rattle.std.proofs.Common.{List, map, ap, refl, ◌∙◌}
use Rattle.delivery.specs.Feeders.{feeder_ring, offered}
use Rattle.delivery.specs.declared.feeder.Feeder.{Feeder}
use Rattle.uplink.proofs.FramesOffered.{feeders-written, none-offered, only-flushed}
use Rattle.uplink.proofs.feeding.Feeding.wait_for_room.Goals as goal

pub returns-then-self : goal.returns-then-self
returns-then-self g c =
    let old = c.args.self.now in
    let was = c.deref_mut.ensures.value in
    let rings = c.wait_for_room.ensures.rings ∙ ap (λ (all : List Feeder). map feeder_ring all) was in
    let written = feeders-written old c.wait_for_room.new.feeders rings in
    only-flushed old _ (ap (λ (all : List Feeder). map feeder_ring all) written ∙ rings)
    (ap (λ (all : List Feeder). map offered all) written ∙ c.wait_for_room.ensures.offered ∙ ap (λ (all : List Feeder). map offered all) was) refl

pub returns-else-self : goal.returns-else-self
returns-else-self g c = none-offered c.args.self.now
