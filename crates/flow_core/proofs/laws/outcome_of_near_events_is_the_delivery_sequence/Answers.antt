use Rattle.std.proofs.Common.{subst}
use Rattle.flow_core.specs.Fates.{Fates}
use Rattle.flow_core.specs.Delivery.{IsDeliverySequence}
use Rattle.flow_core.proofs.OneFates.{after-once}
use Rattle.flow_core.proofs.FlowOutcomes.{outcome-of_cut}
use Rattle.flow_core.proofs.PastTheCut.{delivered-joined}
use Rattle.flow_core.proofs.laws.outcome_of_near_events_is_the_delivery_sequence.Goals as goal

pub returns : goal.returns
returns c = λ check frames chunks fill segments flow_record events answers given counts fates cut near o is.
    let same = (after-once flow_record.first flow_record.window events o.answers answers o.fates fates o.after is).1 in
    let of_cut = outcome-of_cut check flow_record events given counts frames chunks fill segments cut near o in
    subst (λ (f : Fates). IsDeliverySequence frames chunks f given) same (
      o.x,
      o.expected,
      delivered-joined check frames chunks segments o.fates of_cut
          (λ n settled joined unfinished settled_of below joins.
          c.settled_segments_join_to_the_delivered_frames.ensures check frames chunks flow_record.first fill n segments o.fates settled joined unfinished cut settled_of below joins)
          o.x o.settled given o.unfinished o.below o.joined,
    )
