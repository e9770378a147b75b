-- A flow with nothing left to do has taken all events, and none more.
use Rattle.std.proofs.Common.{◌≡◌, ℕ, Bool, List, ap, sym, subst, ◌∙◌}
use Rattle.flow_core.specs.Fates.{Fates, number_of, IsExpected}
use Rattle.flow_core.specs.Events.{FlowEvent}
use Rattle.flow_core.proofs.OneFates.{after-once}
use Rattle.loss_rule.specs.Rule.{Coming, Lasts, no_lasts, AreRuled}
use Rattle.flow_core.specs.Fates.{no_fates}
use Rattle.loss_rule.proofs.Reaching.{reached-none}
use Rattle.loss_rule.proofs.Rulings.{rules-once}
use Rattle.loss_rule.proofs.RuledTurns.{rules-lead}
use Rattle.bonded_flows.specs.declared.bonded_flow.BondedFlow.{BondedFlow}
use Rattle.bonded_flows.specs.declared.pending.Pending.{Pending}
use Rattle.bonded_flows.specs.FlowSetup.{FlowSetup, ruled_flow}
use Rattle.bonded_flows.specs.Stands.{HasTaken, IsPending, HasCome, IsSettled}
use Rattle.bonded_flows.proofs.TakenEvents.{expects-number}
use Rattle.bonded_flows.proofs.NotedNumbers.{expected-here}

module _ (check : List ℕ → Bool) (setup : FlowSetup) (bonded : BondedFlow) (comings : List Coming) (given : List (List ℕ))
    (has : HasCome check setup bonded comings given) (settled : IsSettled bonded) where
  pub all-taken : HasTaken check setup bonded has.events has.lasts given
  all-taken =
      let left : has.taking.taken ≡ has.events =
      subst (λ (pending : Pending). IsPending setup pending has.events has.taking.taken) settled.nothing_left has.taking.left in
      subst (λ (taken : List FlowEvent). HasTaken check setup bonded taken has.lasts given) left has.taking.has_taken

  -- it expects the number of the index that is expected by the rule
  pub expects-by_rule : (events : List FlowEvent) (lasts : Lasts) (fates : Fates) (x : ℕ) → AreRuled setup.rule (ruled_flow setup) comings events lasts fates
      → IsExpected fates x → bonded.flow.window.expected ≡ number_of setup.flow_record.first x
  expects-by_rule events lasts fates x ruled expected =
      let flow = ruled_flow setup in
      let same = rules-once setup.rule flow (no_lasts flow) no_fates comings events has.events lasts has.lasts fates has.fates (reached-none flow.first flow.width) ruled has.ruled in
      let led = rules-lead setup.rule flow (no_lasts flow) no_fates comings has.events has.lasts has.fates has.ruled in
      let here = expected-here check setup bonded has.events has.lasts given all-taken settled.up_to_date led.0 has.fates x led.1
      (subst (λ (f : Fates). IsExpected f x) same.2 expected) in
      expects-number check setup bonded has.events has.lasts given all-taken settled.up_to_date.drained
      ∙ ap (number_of setup.flow_record.first) (sym here)

  -- and that index is expected by what came
  pub expected-by_rule : IsExpected has.fates all-taken.stands.x
  expected-by_rule =
      let flow = ruled_flow setup in
      let led = rules-lead setup.rule flow (no_lasts flow) no_fates comings has.events has.lasts has.fates has.ruled in
      let same = (after-once flow.first flow.width has.events all-taken.answers led.0 all-taken.stands.fates has.fates all-taken.stands.after led.1).1 in
      subst (λ (f : Fates). IsExpected f all-taken.stands.x) same all-taken.stands.expected
