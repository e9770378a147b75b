-- A frame that was offered is offered besides all that was; one that wasn't leaves all as it was.
use Rattle.std.proofs.Common.{List, ◌∷◌, [], map, refl, ap, sym, subst, ◌∙◌}
use Rattle.consumer.specs.declared.given.Given.TheVariants.{Frame}
use Rattle.delivery.specs.Feeders.{feeder_ring, offered}
use Rattle.delivery.specs.declared.feeder.Feeder.{Feeder}
use Rattle.uplink.specs.Inside.Feeding.{Offers}
use Rattle.uplink.proofs.FramesOffered.{feeders-written, offered-on, frame-offered, frame-dropped}
use Rattle.uplink.proofs.feeding.FeedingConsumer.frame.Goals as goal

pub returns-then-not-self : goal.returns-then-not-self
returns-then-not-self c = λ start given before.
    let old = c.args.self.now in
    offered-on start old old given (Frame c.args.flow c.args.frame ∷ []) before (frame-dropped old old c.args.flow c.args.frame refl c.if-not-self.true refl)

pub returns-then-not-offer : goal.returns-then-not-offer
returns-then-not-offer c = λ start given before.
    let old = c.args.self.now in
    let flow = c.args.flow in
    let frame = c.args.frame in
    let was = c.deref_mut.ensures.value in
    let rings = c.offer.ensures.rings ∙ ap (λ (all : List Feeder). map feeder_ring all) was in
    let written = feeders-written old c.offer.new.feeders rings in
    offered-on start old _ given (Frame flow frame ∷ []) before
    (frame-dropped old _ flow frame (ap (λ (all : List Feeder). map feeder_ring all) written ∙ rings) refl
    (ap (λ (all : List Feeder). map offered all) written ∙ c.offer.ensures.not c.if-not-offer.true ∙ ap (λ (all : List Feeder). map offered all) was))

pub returns-else-not-offer : goal.returns-else-not-offer
returns-else-not-offer c = λ start given before.
    let old = c.args.self.now in
    let flow = c.args.flow in
    let frame = c.args.frame in
    let was = c.deref_mut.ensures.value in
    let rings = c.offer.ensures.rings ∙ ap (λ (all : List Feeder). map feeder_ring all) was in
    let written = feeders-written old c.offer.new.feeders rings in
    offered-on start old _ given (Frame flow frame ∷ []) before
    (frame-offered old _ flow frame (ap (λ (all : List Feeder). map feeder_ring all) written ∙ rings) c.if-not-self.false
    (subst (λ (all : List Feeder). Offers old.feeders.items flow frame all) (sym written)
    (subst (λ (all : List Feeder). Offers all flow frame c.offer.new.feeders) was (c.offer.ensures.offers c.if-not-offer.false))))
