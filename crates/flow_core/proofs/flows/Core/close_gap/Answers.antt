-- The flow takes a gap.
use Rattle.std.proofs.Common.{refl, sym, subst, ◌∙◌}
use Rattle.std.proofs.lemmas.Option.{slice_get_read, same_Some}
use Rattle.flow_core.specs.declared.event.Applied.TheVariants.{Decision}
use Rattle.flow_core.specs.Events.{gap}
use Rattle.flow_core.specs.Stands.{IsDrained, TakesEvent}
use Rattle.flow_core.specs.Flows.{IsLoss, HasNoneLater}
use Rattle.flow_core.proofs.OneFlow.{none-later, others-stay, changes-at, unchanged-at}
use Rattle.flow_core.proofs.flows.Core.close_gap.Goals as goal

pub returns-in-Lost-clause-flow : goal.returns-in-Lost-clause-flow
returns-in-Lost-clause-flow g c =
    let core = c.args.self.now in
    let here = slice_get_read core.flows.items _ c.args.flow c.index_mut.result.now refl c.requires.exists c.index_mut.ensures.value in
    record {
      declared = c.gap.result;
      answer = (λ _. (c.in-Lost.field-0, c.in-Lost.is), λ _. refl);
      taken = changes-at core.flows.items c.args.flow c.args.flow c.index_mut.result.now c.gap.new.self (λ one one'. TakesEvent one gap (Decision c.gap.result) one') refl here c.gap.ensures.taken;
      unchanged = λ not_lost. absurd (not_lost refl);
      closed = λ not_lost. absurd (not_lost refl);
    }

pub returns-in-Lost-clause-others : goal.returns-in-Lost-clause-others
returns-in-Lost-clause-others g c = others-stay c.args.self.now _ c.args.flow c.args.flow c.gap.new.self refl refl refl

pub returns-in_default : goal.returns-in_default
returns-in_default g c =
    let core = c.args.self.now in
    let one = c.index_mut.result.now in
    let here = slice_get_read core.flows.items _ c.args.flow one refl c.requires.exists c.index_mut.ensures.value in
    let drained = subst IsDrained (same_Some _ _ (sym c.requires.drained.there ∙ here)) c.requires.drained.drained in
    let no_loss : IsLoss c.gap.result → ⊥ = λ loss. c.in_default.not-Lost loss.0 loss.1 in
    let same = c.gap.ensures.unchanged no_loss in
    record {
      flow = record {
        declared = c.gap.result;
        answer = (λ yes. absurd (cc), λ loss. absurd (no_loss loss));
        taken = changes-at core.flows.items c.args.flow c.args.flow one c.gap.new.self (λ one one'. TakesEvent one gap (Decision c.gap.result) one') refl here c.gap.ensures.taken;
        unchanged = λ _. unchanged-at core _ c.args.flow one c.gap.new.self here same refl refl;
        closed = λ _ flow has. subst HasNoneLater (same_Some _ _ (sym here ∙ has)) (none-later one c.gap.new.self c.gap.result drained c.gap.ensures.taken no_loss);
      };
      others = others-stay core _ c.args.flow c.args.flow c.gap.new.self refl refl refl;
    }
