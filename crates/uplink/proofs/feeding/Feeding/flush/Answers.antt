-- Flushed feeders were offered what they were, and are those that were flushed.
use Rattle.std.proofs.Common.{◌≡◌, ◌≢◌, ◌⊎◌, List, [], All, Any, map, ap, refl, sym, subst, ◌∙◌}
use Rattle.std.specs.Vec.{with_items}
use Rattle.delivery.specs.Feeders.{feeder_ring, offered, backlog, room}
use Rattle.delivery.specs.declared.feeder.Feeder.{Feeder}
use Rattle.uplink.proofs.FramesOffered.{feeders-written, only-flushed}
use Rattle.uplink.proofs.feeding.Feeding.flush.Goals as goal

pub returns-clause-offered : goal.returns-clause-offered
returns-clause-offered c =
    let old = c.args.self.now in
    let was = c.deref_mut.ensures.value in
    let rings = c.flush_all.ensures.rings ∙ ap (λ (all : List Feeder). map feeder_ring all) was in
    let written = feeders-written old c.flush_all.new.feeders rings in
    only-flushed old _ (ap (λ (all : List Feeder). map feeder_ring all) written ∙ rings)
    (ap (λ (all : List Feeder). map offered all) written ∙ c.flush_all.ensures.offered ∙ ap (λ (all : List Feeder). map offered all) was) refl

pub returns-clause-flushed : goal.returns-clause-flushed
returns-clause-flushed c =
    let rings = c.flush_all.ensures.rings ∙ ap (λ (all : List Feeder). map feeder_ring all) c.deref_mut.ensures.value in
    subst (λ (all : List Feeder). All (λ (feeder : Feeder). (backlog feeder ≡ []) ⊎ (room feeder ≡ 0)) all)
    (sym (feeders-written c.args.self.now c.flush_all.new.feeders rings)) c.flush_all.ensures.flushed

pub returns-clause-none_left : goal.returns-clause-none_left
returns-clause-none_left c = λ none.
    let rings = c.flush_all.ensures.rings ∙ ap (λ (all : List Feeder). map feeder_ring all) c.deref_mut.ensures.value in
    subst (λ (all : List Feeder). All (λ (feeder : Feeder). backlog feeder ≡ []) all)
    (sym (feeders-written c.args.self.now c.flush_all.new.feeders rings)) (c.flush_all.ensures.none_left none)

pub returns-clause-some_left : goal.returns-clause-some_left
returns-clause-some_left c = λ some.
    let rings = c.flush_all.ensures.rings ∙ ap (λ (all : List Feeder). map feeder_ring all) c.deref_mut.ensures.value in
    subst (λ (all : List Feeder). Any (λ (feeder : Feeder). backlog feeder ≢ []) all)
    (sym (feeders-written c.args.self.now c.flush_all.new.feeders rings)) (c.flush_all.ensures.some_left some)
