-- The next segment is the one that is taken.
use Rattle.std.proofs.Common.{ap, sym, subst, ◌∙◌, ◌≡◌, ◌∷◌, [], List, ℕ}
use Rattle.reorder.specs.View.{IsLawful, next_taken}
use Rattle.reorder.specs.Verdicts.{after_take_next}
use Rattle.flow_core.specs.Inside.Losses.{GoesOn}
use Rattle.flow_core.specs.Inside.Steps.{counts_joined}
use Rattle.flow_core.specs.Stands.{Gives}
use Rattle.flow_core.proofs.FlowJoining.{one-frame-gives}
use Rattle.flow_core.proofs.flow.Flow.give_next.Goals as goal

pub returns : goal.returns
returns c =
    λ check one.
    let flow = c.args.self.now in
    let next = sym c.take_next.ensures.item ∙ c.unwrap-ready.ensures in
    let taken : c.take_next.new.self ≡ next_taken flow.window = c.take_next.ensures.after ∙ ap (after_take_next flow.window) c.unwrap-ready.ensures in
    subst (λ (frame : List ℕ). Gives check flow (frame ∷ []) c.end_step.new.self) (sym c.without_spare_room.ensures) (
    one-frame-gives check flow c.end_step.new.self one c.unwrap-ready.result next (subst IsLawful taken c.take_next.ensures.lawful)
    (subst (λ window. GoesOn flow.going_on (record flow { window = window; counts = counts_joined flow.counts 1 0 }) c.end_step.new.self) taken c.end_step.ensures.after)
    (c.end_step.ensures.lawful c.take_next.ensures.lawful)
    )
