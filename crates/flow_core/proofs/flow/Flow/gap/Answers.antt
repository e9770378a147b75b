-- The flow takes the gap as the window answers it.
use Rattle.std.proofs.Common.{refl, sym, ap, subst, ◌∙◌}
use Rattle.reorder.specs.View.{IsLawful}
use Rattle.flow_core.specs.declared.event.Applied.TheVariants.{Decision}
use Rattle.flow_core.specs.Events.{gap}
use Rattle.flow_core.specs.Inside.Losses.{after_losses}
use Rattle.flow_core.specs.Stands.{TakesEvent}
use Rattle.flow_core.proofs.FlowDeclaring.{gap-lost, gap-unlost}
use Rattle.flow_core.proofs.flow.Flow.gap.Goals as goal

pub returns-in-Lost-clause-taken : goal.returns-in-Lost-clause-taken
returns-in-Lost-clause-taken c =
    subst (λ declared. TakesEvent c.args.self.now gap (Decision declared) c.lose.new.self) (sym c.in-Lost.is)
    (gap-lost c.args.self.now c.lose.new.self c.in-Lost.field-0 c.requires c.in-Lost.ensures.answer (subst (λ w. IsLawful w) c.in-Lost.ensures.after c.declare-declared.ensures.lawful)
    (c.lose.ensures ∙ ap (λ w. after_losses 1 (record c.args.self.now { window = w })) c.in-Lost.ensures.after))

pub returns-in_default-clause-taken : goal.returns-in_default-clause-taken
returns-in_default-clause-taken c =
    gap-unlost c.args.self.now _ c.declare-declared.result c.declare-declared.new.self c.requires c.declare-declared.ensures.answer c.in_default.not-Lost c.declare-declared.ensures.after refl
