-- What the other thread took is what was given of the flow.
use Rattle.std.proofs.Common.{true, [], ◌++◌, List, ℕ, ap, sym, ◌∙◌}
use Rattle.delivery.specs.Frames.{frames_in}
use Rattle.delivery.specs.Takers.{taker_ring, taken}
use Rattle.delivery.specs.declared.taker.Taker.{Taker}
use Rattle.consumer.specs.Given.{frames_of}
use Rattle.uses.specs.declared.handed_on.HandsOn.{HandsOn}
use Rattle.uses.proofs.HandingOn.{hands-on-begins}
use Rattle.uses.proofs.handed_on.take_elsewhere.Goals as goal

pub take_rest-requires : goal.take_rest-requires
take_rest-requires g c =
    let start : HandsOn g.row.R.Denot = record { rt = c.args.rt; flow = c.args.flow; feeder = c.in-Ok.ends.0; is_whole = true } in
    let handed = c.in-Ok-receive.ensures.received.were_given.consumer_became start [] (hands-on-begins start) in
    handed.ring ∙ c.in-Ok.ensures.ring ∙ ap (λ (taker : Taker). taker_ring taker) (sym c.in-Ok-start_consumer.ensures)

pub returns-in-Some-clause-taken : goal.returns-in-Some-clause-taken
returns-in-Some-clause-taken g c =
    let has = c.in-Ok-receive.ensures.received in
    let start : HandsOn g.row.R.Denot = record { rt = c.args.rt; flow = c.args.flow; feeder = c.in-Ok.ends.0; is_whole = true } in
    let handed = has.were_given.consumer_became start [] (hands-on-begins start) in
    let none = ap (λ (taker : Taker). taken taker) c.in-Ok-start_consumer.ensures ∙ c.in-Ok.ensures.taken in
    record {
      sources = has.sources;
      incoming = has.incoming;
      came = has.came;
      order = has.order;
      frames = has.frames;
      requests = has.requests;
      headline = has.headline;
      are =
          ap (λ (before : List (List ℕ)). before ++ frames_in c.in-Some.frames.items) (sym none)
          ∙ c.in-Some.ensures.taken
          ∙ handed.handed c.in-Some.ensures.whole
          ∙ ap (λ (before : List (List ℕ)). before ++ frames_of c.args.flow has.frames) c.in-Ok.ensures.offered;
    }
