use Rattle.std.proofs.Common.{◌≡◌, refl, sym, ap, subst, ◌∙◌}
use Rattle.std.proofs.lemmas.Option.{same_Some}
use Rattle.ccf.specs.Filter.{FiltersTo}
use Rattle.flow_records.specs.Counted.{counted}
use Rattle.flow_core.specs.Fates.{no_fates}
use Rattle.loss_rule.specs.Rule.{no_lasts}
use Rattle.loss_rule.specs.InOrder.{IsAllCome}
use Rattle.loss_rule.proofs.RuledTurns.{rules-lead}
use Rattle.receiver.specs.declared.outcome.FlowOutcome.{FlowOutcome}
use Rattle.receiver.specs.Channels.{segment_count}
use Rattle.receiver.specs.Ruled.{ruled_flow, comings_at}
use Rattle.receiver.proofs.RuledCounts.{segments-arrive, all-counted}
use Rattle.receiver.proofs.laws.flows_give_the_frames_that_all_came.Goals as goal

pub returns-clause-frames : goal.returns-clause-frames
returns-clause-frames c = λ rule check setup incoming order outcome k r flow frames asks can is of_flow there modem safe.
    let one = is.flows.each k r of_flow in
    let own = one.2 in
    let same : one.0 ≡ flow = same_Some one.0 flow (sym one.1 ∙ there) in
    let comings = comings_at k order is.intake.items in
    subst (λ (f : FlowOutcome). FiltersTo (IsAllCome frames modem.chunks comings modem.index_at) frames f.frames.items) same
    (c.closed_flow_gives_the_frames_that_all_came.ensures check frames modem.chunks modem.fill own.gave.gives.n modem.segments rule (ruled_flow setup.sids.items k r) r
    comings modem.index_at own.events own.lasts own.fates one.0.frames.items one.0.counts asks (can.flows.each k r of_flow).window_in_range refl refl
    modem.cut modem.in_order modem.falls safe own.ruled own.gave.gives.outcome own.gave.gives.closed)

pub returns-clause-counts : goal.returns-clause-counts
returns-clause-counts c = λ rule check setup incoming order outcome k r flow frames asks can is of_flow there modem safe.
    let one = is.flows.each k r of_flow in
    let own = one.2 in
    let same : one.0 ≡ flow = same_Some one.0 flow (sym one.1 ∙ there) in
    let comings = comings_at k order is.intake.items in
    let of_rule = ruled_flow setup.sids.items k r in
    let led = rules-lead rule of_rule (no_lasts of_rule) no_fates comings own.events own.lasts own.fates own.ruled in
    let arrived = segments-arrive rule of_rule (no_lasts of_rule) own.lasts no_fates own.fates comings own.events safe.decisions own.ruled in
    let tells = all-counted check r own.events own.gave.gives.n one.0.frames.items one.0.counts led.0 own.fates led.1
    (λ j verdict at.
    c.all_that_comes_is_kept.ensures.verdicts check frames modem.chunks modem.fill modem.segments rule of_rule comings modem.index_at own.events led.0 own.lasts own.fates j verdict
    asks (can.flows.each k r of_flow).window_in_range modem.cut modem.in_order modem.falls safe own.ruled led.1 at)
    own.gave.gives.outcome in
    subst (λ (f : FlowOutcome). (f.counts.kept ≡ counted (segment_count comings)) × (f.counts.late ≡ 0) × (f.counts.repeat ≡ 0) × (f.counts.beyond ≡ 0)) same
    (tells.0 ∙ ap counted arrived, tells.1, tells.2, tells.3)
