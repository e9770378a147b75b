-- A decision is handed in.
use Rattle.std.proofs.Common.{◌++◌, ◌∷◌, [], refl, sym, subst, ◌∙◌}
use Rattle.receiver.specs.Entries.{decided}
use Rattle.receiver.specs.declared.width.Width.{Width}
use Rattle.texts.proofs.HandedLines.{entry_handed}
use Rattle.texts.proofs.TraceSoFar.{flow_known, decision_without_fault}
use Rattle.texts.proofs.trace.input.TraceInput.add_decision.Goals as goal

pub returns : goal.returns
returns g c = λ given said has.
    let known = flow_known said c.args.self.now.setup c.args.decision.flow has.setup c.in_ok-find_flow.ensures.known in
    let state = record given { said = said } in
    let was = c.in_ok-taker.ensures.taker state has in
    record {
      faultless = decision_without_fault said c.args.decision known;
      has =
          entry_handed g.P.TakeEntries.starts g.P.TakeEntries.has_taken state _ _ _ _ has _ _ _ _ c.in_ok-decide.field-0 (decided c.args.decision)
          c.take_taker.ensures.width c.take_taker.ensures.rule c.take_taker.ensures.setup refl
          (subst (λ (width : Width). g.P.TakeEntries.has_taken given.state given.rule width c.args.self.now.setup.setup (said.entries ++ decided c.args.decision ∷ []) c.in_ok-decide.field-0)
          (c.take_taker.ensures.width ∙ has.width_is)
          (c.in_ok-decide.ensures given.state given.rule c.args.self.now.setup.setup said.entries
          (subst (λ (width : Width). g.P.TakeEntries.has_taken given.state given.rule width c.args.self.now.setup.setup said.entries c.in_ok-taker.taker)
          (sym (c.take_taker.ensures.width ∙ has.width_is)) was)));
    }
