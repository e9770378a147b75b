use Rattle.std.proofs.Common.{◌<◌, length, refl, sym, subst, ◌∙◌, arith}
use Rattle.std.proofs.lemmas.List.{length-map}
use Rattle.std.proofs.lemmas.List.Elements.{All-weaker}
use Rattle.flow_records.specs.declared.event.Event.TheVariants.{Arrive}
use Rattle.lane.specs.Limits.{channel_limit, senders}
use Rattle.loss_rule.specs.InOrder.{DecideSafely}
use Rattle.receiver.specs.Modem.{ComeFromAModem, turns_from}
use Rattle.receiver.specs.Ruled.{ruled_flow}
use Rattle.receiver.proofs.DealtItems.{comings-dealt, turns-named, turns-counted, all-channels}
use Rattle.receiver.proofs.laws.segments_in_turn_come_from_a_modem.Goals as goal

pub returns-clause-come : goal.returns-clause-come
returns-clause-come c = λ k segments. comings-dealt k 0 segments

pub returns-clause-order : goal.returns-clause-order
returns-clause-order c = λ k segments. record {
  named = All-weaker (λ tag. tag < channel_limit) (λ tag. tag < senders) (λ tag below. omega arith) (turns_from 0 (length segments)) (turns-named 0 (length segments));
  paired = turns-counted 0 (length segments) ∙ sym (length-map segments (Arrive k));
  lists_are = λ sender below. refl;
}

pub returns-clause-modem : goal.returns-clause-modem
returns-clause-modem c = λ rule check setup k fill r frames chunks segments asks can of_flow wide rows cut.
    let flow = ruled_flow setup.sids.items k r in
    let deals = c.spread_segments_fit_the_window.ensures.dealt check frames chunks fill segments rule flow channel_limit asks (omega arith) wide
    (can.flows.each k r of_flow).window_in_range (all-channels setup.sids.items k rows) cut in
    subst (λ comings. (modem : ComeFromAModem rule check flow frames comings) × DecideSafely rule flow comings modem.index_at) (sym (comings-dealt k 0 segments))
    (record { chunks = chunks; fill = fill; segments = segments; cut = cut; index_at = λ p. p; in_order = deals.0; falls = deals.1 }, deals.3)

pub returns-clause-dealt_out : goal.returns-clause-dealt_out
returns-clause-dealt_out c = λ rule check setup order items k fill n m d r frames chunks segments channel_of index_at asks can of_flow wide are spread cut come.
    let flow = ruled_flow setup.sids.items k r in
    let deals = c.spread_segments_fit_the_window.ensures.dealt_out check frames chunks fill segments rule flow channel_of index_at n m d asks wide
    (can.flows.each k r of_flow).window_in_range cut are spread in
    subst (λ comings. (modem : ComeFromAModem rule check flow frames comings) × DecideSafely rule flow comings modem.index_at) (sym come)
    (record { chunks = chunks; fill = fill; segments = segments; cut = cut; index_at = index_at; in_order = deals.0; falls = deals.1 }, deals.3)
