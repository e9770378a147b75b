-- A whole frame is given as a list of one.
use Rattle.std.proofs.Common.{◌≡◌, ◌∷◌, ◌++◌, [], Option, Some, sym, ap, subst, ◌∙◌, List, ℕ}
use Rattle.ccf.specs.declared.joiner.FedUnlessWhole.{FedUnlessWhole}
use Rattle.flow_core.specs.declared.flow.Flow.{Flow}
use Rattle.flow_core.specs.Inside.Steps.{JoinsUnlessWhole}
use Rattle.flow_core.specs.AsItIs.{IsNextOneFrame}
use Rattle.flow_core.specs.Stands.{Gives}
use Rattle.flow_core.proofs.flow.Flow.advance.Goals as goal

pub returns-in_ok-frames-in-Some-Whole-clause-step : goal.returns-in_ok-frames-in-Some-Whole-clause-step
returns-in_ok-frames-in-Some-Whole-clause-step g c =
    let check = g.C.HeaderCheck.accepts c.args.check.now in
    let joined = c.join_unless_whole.new.self in
    let joins : IsNextOneFrame check c.args.self.now × (joined ≡ c.args.self.now) =
    subst (λ (answer : Option FedUnlessWhole). JoinsUnlessWhole check c.args.self.now answer joined) (c.in-Some-Whole.is ∙ ap Some c.in-Some-Whole.field-0-is) c.in_ok-join_unless_whole.ensures.joins in
    let one = joins.0 in
    let frames : c.push_reserved.new.self.items ≡ c.give_next.result ∷ [] =
    c.push_reserved.ensures.items ∙ ap (λ (xs : List (List ℕ)). xs ++ c.give_next.result ∷ []) c.in_ok-frames-in-Some-Whole.ensures.items in (
      λ drained. (let held = one.next in cc),
      subst (λ (flow : Flow). Gives check flow c.push_reserved.new.self.items c.give_next.new.self) joins.1
          (subst (λ (given : List (List ℕ)). Gives check joined given c.give_next.new.self) (sym frames)
          (c.give_next.ensures check (subst (IsNextOneFrame check) (sym joins.1) one))),
    )
