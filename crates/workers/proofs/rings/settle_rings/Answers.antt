-- One ring after another is settled.
use Rattle.std.proofs.Common.{rules, arith, ◌≡◌, ◌<◌, true, length, slice_index_or, ap, sym, ◌∙◌}
use Rattle.std.proofs.Math.Seq.{map-set_same}
use Rattle.std.proofs.lemmas.List.{length-map, length-set}
use Rattle.std.proofs.lemmas.List.Elements.{All-get_or}
use Rattle.std.proofs.lemmas.Option.{slice_get-get_or}
use Rattle.delivery.specs.Feeders.{closed_ring, closed_offered}
use Rattle.delivery.specs.Takers.{taker_ring, taken, is_closed}
use Rattle.delivery.specs.declared.taker.Taker.{Taker}
use Rattle.workers.proofs.AlikeLists.{alike_at}
use Rattle.workers.proofs.RingsSettled.{one_more_taken}
use Rattle.workers.proofs.rings.settle_rings.Goals as goal

pub settle-requires : goal.settle-requires
settle-requires c =
    let loop = c.loop-k in
    let same = loop.invariant.feeder_rings ∙ c.requires.rings ∙ sym loop.invariant.taker_rings in
    let within : loop.k < length loop.feeders = search rules in
    let within' : loop.k < length loop.takers =
    omega (arith, within, ap length same, length-map loop.feeders closed_ring, length-map loop.takers taker_ring) in
    alike_at closed_ring taker_ring loop.feeders loop.takers loop.k _ _ same (slice_get-get_or loop.feeders loop.k c.index-feeders-k.result within)
    (slice_get-get_or loop.takers loop.k c.index-takers-k.result within')

pub loop-k-preserved : goal.loop-k-preserved
loop-k-preserved c =
    let loop = c.loop-k in
    let k = loop.k in
    let was = loop.invariant in
    let any = c.index-feeders-k.result in
    let any' = c.index-takers-k.result in
    let now = c.settle.new.feeder in
    let now' = c.settle.new.taker in
    let within : k < length loop.feeders = search rules in
    let same = was.feeder_rings ∙ c.requires.rings ∙ sym was.taker_rings in
    let within' : k < length loop.takers =
    omega (arith, within, ap length same, length-map loop.feeders closed_ring, length-map loop.takers taker_ring) in
    let within0 : k < length c.args.takers.now =
    omega (arith, within', ap length was.taker_rings, length-map loop.takers taker_ring, length-map c.args.takers.now taker_ring) in
    let there = slice_get-get_or loop.feeders k any within in
    let there' = slice_get-get_or loop.takers k any' within' in
    let closed : is_closed (slice_index_or loop.takers k any') ≡ true =
    alike_at is_closed is_closed loop.takers c.args.takers.now k (slice_index_or loop.takers k any') (slice_index_or c.args.takers.now k any')
    was.closed there' (slice_get-get_or c.args.takers.now k any' within0)
    ∙ All-get_or (λ (one : Taker). is_closed one ≡ true) c.args.takers.now k any' within0 c.requires.closed in
    record {
      count = length-set loop.feeders k now ∙ was.count;
      feeder_rings = map-set_same closed_ring loop.feeders k now any c.settle.ensures.feeder_ring ∙ was.feeder_rings;
      taker_rings = map-set_same taker_ring loop.takers k now' any' c.settle.ensures.taker_ring ∙ was.taker_rings;
      offered = map-set_same closed_offered loop.feeders k now any c.settle.ensures.offered ∙ was.offered;
      taken = map-set_same taken loop.takers k now' any' c.settle.ensures.taken ∙ was.taken;
      closed = map-set_same is_closed loop.takers k now' any' c.settle.ensures.closed ∙ was.closed;
      all_taken = one_more_taken c.args.feeders.now c.args.takers.now k loop.feeders loop.takers (slice_index_or loop.feeders k any)
          (slice_index_or loop.takers k any') was.all_taken was.offered was.taken there there' (c.settle.ensures.all_taken closed);
    }
