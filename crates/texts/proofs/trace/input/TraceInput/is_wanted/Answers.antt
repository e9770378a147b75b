-- What takes the entries says whose the burst is.
use Rattle.std.proofs.Common.{◌≡◌, ℕ, false, Option, sym, subst, ◌∙◌}
use Rattle.std.specs.Prelude.{IfSome}
use Rattle.flow_selection.specs.Selection.{is_selected}
use Rattle.texts.specs.Inside.StandIn.{IsForAnother}
use Rattle.texts.proofs.trace.input.TraceInput.is_wanted.Goals as goal

pub returns-in-Some-look : goal.returns-in-Some-look
returns-in-Some-look g c is =
    let chosen = is_selected c.args.selected.now in
    subst (λ taker. IsForAnother g.P.TakeEntries.would_come chosen taker c.args.channel c.args.input.now) (sym c.in-Some.is) (
      c.look.result,
      c.look.ensures,
      subst (λ (found : Option ℕ). IfSome found (λ k. chosen k ≡ false)) (sym c.in-Some-look.is) (sym c.has.ensures ∙ is),
    )

pub returns-in-None : goal.returns-in-None
returns-in-None g c is =
    let chosen = is_selected c.args.selected.now in
    subst (λ taker. IsForAnother g.P.TakeEntries.would_come chosen taker c.args.channel c.args.input.now) (sym c.in-Some.is) (
      c.look.result,
      c.look.ensures,
      subst (λ (found : Option ℕ). IfSome found (λ k. chosen k ≡ false)) (sym c.in-None.is) tt,
    )
