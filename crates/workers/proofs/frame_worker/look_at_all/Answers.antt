-- One look more.
use Rattle.std.proofs.Common.{◌≡◌, ◌<◌, true, length, get_or, ap, rules}
use Rattle.std.proofs.Math.ListN.{set}
use Rattle.std.proofs.lemmas.List.Elements.{AllWithin-more_set}
use Rattle.delivery.specs.Takers.{is_closed}
use Rattle.delivery.specs.declared.taker.Taker.{Taker}
use Rattle.workers.proofs.FramesTaken.{none-fed, fed-on, fed-by-one}
use Rattle.workers.proofs.frame_worker.look_at_all.Goals as goal

pub loop-flow-preserved : goal.loop-flow-preserved
loop-flow-preserved g c =
    let after = g.F.Consumer.after in
    let takers = c.loop-flow.takers in
    let i = c.loop-flow.flow in
    let within : i < length takers = search rules in
    let new = c.look_at-look.new.taker in
    record {
      fed = fed-on after c.args.takers.now takers (set takers i new) c.args.consumer.now c.loop-flow.consumer c.look_at-look.new.consumer c.loop-flow.invariant.fed
          (fed-by-one after takers i (get_or takers i c.index-takers-flow.result) new c.loop-flow.consumer c.look_at-look.new.consumer within
          (ap (λ taker. get_or takers i taker) c.index-takers-flow.is) c.look_at-look.ensures.feeds);
      closed = λ is.
          let both = c.and-found.ensures is in
          AllWithin-more_set takers i new within (λ (taker : Taker). is_closed taker ≡ true)
          (c.loop-flow.invariant.closed both.0) (c.look_at-look.ensures.closed both.1);
    }

pub loop-flow-init : goal.loop-flow-init
loop-flow-init g c = record {
  fed = none-fed g.F.Consumer.after c.args.takers.now c.args.consumer.now;
  closed = λ is. search rules;
}
