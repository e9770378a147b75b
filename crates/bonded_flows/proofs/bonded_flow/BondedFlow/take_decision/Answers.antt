-- The flow takes what the decision is to it.
use Rattle.std.proofs.Common.{◌≡◌, ℕ, true, false, refl, ap, sym, subst}
use Rattle.reorder.specs.declared.verdict.Declared.{Declared}
use Rattle.reorder.specs.declared.verdict.Declared.TheVariants.{NextIsHere, NothingHeld, Lost}
use Rattle.flow_core.specs.declared.event.Applied.TheVariants.{Decision, DecisionTo, DecisionSkip}
use Rattle.flow_core.specs.Events.{FlowEvent, gap, gap_to, skip_to}
use Rattle.bonded_flows.specs.Answers.{says_any_lost}
use Rattle.bonded_flows.specs.ByRule.{decision_event}
use Rattle.bonded_flows.specs.Taking.{TakesDecision}
use Rattle.bonded_flows.proofs.TakenEvents.{event-taken}
use Rattle.bonded_flows.proofs.bonded_flow.BondedFlow.take_decision.Goals as goal

-- where no number was declared lost, none is said to be
none-lost : (declared : Declared) → ((number : ℕ) → declared ≡ Lost number → ⊥) → says_any_lost (Decision declared) ≡ false
none-lost NextIsHere none = refl
none-lost NothingHeld none = refl
none-lost (Lost number) none = absurd (none number refl)

pub returns-in-Lost-clause-takes : goal.returns-in-Lost-clause-takes
returns-in-Lost-clause-takes c =
    let self = c.args.self.now in
    subst (λ (event : FlowEvent). TakesDecision self event true (record self { flow = c.gap.new.self })) (sym (ap decision_event c.in-Gap.is))
    (record {
      answer = Decision c.gap.result;
      says = ap (λ (declared : Declared). says_any_lost (Decision declared)) c.in-Lost.is;
      taken = λ check setup taken lasts given has.
          event-taken check setup self taken lasts given has c.requires.up_to_date gap (Decision c.gap.result) c.gap.new.self c.gap.ensures.taken;
    })

pub returns-in_default : goal.returns-in_default
returns-in_default c =
    let self = c.args.self.now in
    record {
      takes = subst (λ (event : FlowEvent). TakesDecision self event false (record self { flow = c.gap.new.self })) (sym (ap decision_event c.in-Gap.is))
          (record {
            answer = Decision c.gap.result;
            says = none-lost c.gap.result c.in_default.not-Lost;
            taken = λ check setup taken lasts given has.
                event-taken check setup self taken lasts given has c.requires.up_to_date gap (Decision c.gap.result) c.gap.new.self c.gap.ensures.taken;
          });
      pending = refl;
      index = refl;
    }

pub returns-in-GapTo-clause-takes : goal.returns-in-GapTo-clause-takes
returns-in-GapTo-clause-takes c =
    let self = c.args.self.now in
    subst (λ (event : FlowEvent). TakesDecision self event c.gap_to.result (record self { flow = c.gap_to.new.self })) (sym (ap decision_event c.in-GapTo.is))
    (record {
      answer = DecisionTo c.gap_to.result;
      says = refl;
      taken = λ check setup taken lasts given has.
          event-taken check setup self taken lasts given has c.requires.up_to_date (gap_to c.in-GapTo.number) (DecisionTo c.gap_to.result) c.gap_to.new.self c.gap_to.ensures;
    })

pub returns-in-SkipTo-clause-takes : goal.returns-in-SkipTo-clause-takes
returns-in-SkipTo-clause-takes c =
    let self = c.args.self.now in
    subst (λ (event : FlowEvent). TakesDecision self event c.skip_to.result (record self { flow = c.skip_to.new.self })) (sym (ap decision_event c.in-SkipTo.is))
    (record {
      answer = DecisionSkip c.skip_to.result;
      says = refl;
      taken = λ check setup taken lasts given has.
          event-taken check setup self taken lasts given has c.requires.up_to_date (skip_to c.in-SkipTo.number) (DecisionSkip c.skip_to.result) c.skip_to.new.self c.skip_to.ensures;
    })
