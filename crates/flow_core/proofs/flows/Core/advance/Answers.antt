-- One flow advances.
use Rattle.std.proofs.Common.{refl, sym, subst, ◌∙◌}
use Rattle.std.proofs.lemmas.Option.{slice_get_read, same_Some}
use Rattle.flow_core.specs.Stands.{IsDrained, Advances}
use Rattle.flow_core.proofs.OneFlow.{others-stay, changes-at, unchanged-at, ok-follows, err-follows}
use Rattle.flow_core.proofs.flows.Core.advance.Goals as goal

pub returns-clause-step : goal.returns-clause-step
returns-clause-step g c =
    let core = c.args.self.now in
    let here = slice_get_read core.flows.items _ c.args.flow c.index_mut.result.now refl c.requires.exists c.index_mut.ensures.value in
    ok-follows _ _
    (λ step advances. changes-at core.flows.items c.args.flow c.args.flow c.index_mut.result.now c.advance.new.self (λ one one'. Advances (g.C.HeaderCheck.accepts core.check) one step one') refl here advances)
    c.advance.result c.advance.ensures.step

pub returns-clause-nothing : goal.returns-clause-nothing
returns-clause-nothing g c =
    let here = slice_get_read c.args.self.now.flows.items _ c.args.flow c.index_mut.result.now refl c.requires.exists c.index_mut.ensures.value in (
      λ is. record { flow = c.index_mut.result.now; there = here; drained = c.advance.ensures.nothing.0 is },
      λ at. c.advance.ensures.nothing.1 (subst IsDrained (same_Some _ _ (sym at.there ∙ here)) at.drained),
    )

pub returns-clause-others : goal.returns-clause-others
returns-clause-others g c = others-stay c.args.self.now _ c.args.flow c.args.flow c.advance.new.self refl refl refl

pub returns-clause-refused : goal.returns-clause-refused
returns-clause-refused g c =
    let core = c.args.self.now in
    let here = slice_get_read core.flows.items _ c.args.flow c.index_mut.result.now refl c.requires.exists c.index_mut.ensures.value in
    err-follows _ _ (λ same. unchanged-at core _ c.args.flow c.index_mut.result.now c.advance.new.self here same refl refl) c.advance.result c.advance.ensures.refused
