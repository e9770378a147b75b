use Rattle.std.proofs.Common.{rules, ◌<◌, length, ◌∙◌}
use Rattle.std.proofs.Math.Seq.{map-set_same}
use Rattle.delivery.specs.Takers.{taker_ring}
use Rattle.uses.proofs.DeliveryRounds.{closed_by_look, closed_below-set}
use Rattle.uses.proofs.delivery_flows.consuming.look_at_all.Goals as goal

pub loop-consumed-preserved : goal.loop-consumed-preserved
loop-consumed-preserved c =
    let i = c.loop-consumed.consumed-index in
    let within : i < length c.loop-consumed.all = search rules in (
      map-set_same (λ x. taker_ring x.taker) c.loop-consumed.all i c.look-look.new.self c.consumed-item.result c.look-look.ensures.ring ∙ c.loop-consumed.invariant.0,
      λ is.
          let both = c.and-found.ensures is in
          closed_below-set c.loop-consumed.all i c.look-look.new.self within (closed_by_look _ _ both.1 c.look-look.ensures.sees) (c.loop-consumed.invariant.1 both.0),
    )
