-- An input is handed in.
use Rattle.std.proofs.Common.{◌++◌, ◌∷◌, [], refl, sym, subst, ◌∙◌}
use Rattle.receiver.specs.Entries.{came}
use Rattle.receiver.specs.declared.width.Width.{Width}
use Rattle.texts.proofs.HandedLines.{entry_handed}
use Rattle.texts.proofs.TraceSoFar.{input_without_fault}
use Rattle.texts.proofs.trace.input.TraceInput.add_input.Goals as goal

pub returns : goal.returns
returns g c = λ given said has.
    let state = record given { said = said } in
    let was = c.in_ok-taker.ensures.taker state has in
    record {
      faultless = input_without_fault said c.args.channel c.args.input;
      has =
          entry_handed g.P.TakeEntries.starts g.P.TakeEntries.has_taken state _ _ _ _ has _ _ _ _ c.in_ok-take.field-0 (came c.args.channel c.args.input)
          c.take_taker.ensures.width c.take_taker.ensures.rule c.take_taker.ensures.setup refl
          (subst (λ (width : Width). g.P.TakeEntries.has_taken given.state given.rule width c.args.self.now.setup.setup (said.entries ++ came c.args.channel c.args.input ∷ []) c.in_ok-take.field-0)
          (c.take_taker.ensures.width ∙ has.width_is)
          (c.in_ok-take.ensures given.state given.rule c.args.self.now.setup.setup said.entries
          (subst (λ (width : Width). g.P.TakeEntries.has_taken given.state given.rule width c.args.self.now.setup.setup said.entries c.in_ok-taker.taker)
          (sym (c.take_taker.ensures.width ∙ has.width_is)) was)));
    }
