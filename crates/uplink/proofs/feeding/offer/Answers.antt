-- A frame that was offered is offered to the feeder at its index.
use Rattle.std.proofs.Common.{arith, sym, ℕ, List, ◌∷◌, [], ◌++◌, ap, ◌∙◌}
use Rattle.std.proofs.Math.Seq.{map-set_same}
use Rattle.delivery.specs.Feeders.{feeder_ring, offered}
use Rattle.delivery.specs.declared.feeder.Feeder.{Feeder}
use Rattle.uplink.proofs.FramesOffered.{on-good, on-bad, offers-at}
use Rattle.uplink.proofs.feeding.offer.Goals as goal

pub returns-clause-rings : goal.returns-clause-rings
returns-clause-rings c =
    map-set_same feeder_ring c.args.feeders.now c.args.flow c.offer.new.self c.index-feeders-flow.result c.offer.ensures.ring

pub returns-clause-offers : goal.returns-clause-offers
returns-clause-offers c = λ said.
    offers-at c.args.feeders.now c.args.flow c.args.frame c.index-feeders-flow.result c.offer.new.self
    (omega (arith, c.if-flow-feeders.false)) c.index-feeders-flow.is
    (on-good c.offer.result (sym c.is_ok-is_offered.ensures.value ∙ said) c.offer.ensures.ok
    ∙ ap (λ (one : Feeder). offered one ++ c.own_copy.result.items ∷ []) (sym c.index-feeders-flow.is)
    ∙ ap (λ (frame : List ℕ). offered c.index-feeders-flow.result ++ frame ∷ []) c.own_copy.ensures)

pub returns-clause-not : goal.returns-clause-not
returns-clause-not c = λ failed.
    map-set_same offered c.args.feeders.now c.args.flow c.offer.new.self c.index-feeders-flow.result
    (on-bad c.offer.result (sym c.is_ok-is_offered.ensures.value ∙ failed) c.offer.ensures.unchanged).offered_same
