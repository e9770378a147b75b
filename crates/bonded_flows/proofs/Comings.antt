-- One coming more.
use Rattle.std.proofs.Common.{◌≡◌, ◌≢◌, ℕ, Option, None, List, [], ◌∷◌, ◌++◌, refl, ap, sym, subst, ◌∙◌, append-nil}
use Rattle.docsis_wire.specs.declared.segment.Segment.{Segment}
use Rattle.flow_core.specs.declared.event.Applied.{Applied}
use Rattle.flow_core.specs.Fates.{Fates, no_fates, IsExpected}
use Rattle.flow_core.specs.Events.{FlowEvent, arrives, Leads, IsAfter}
use Rattle.flow_core.proofs.OneFates.{after-once}
use Rattle.flow_core.proofs.Outcome.{expected-unique}
use Rattle.flow_core.proofs.Turns.{leads-split, leads-in_turn}
use Rattle.loss_rule.specs.declared.rule.LossRule.{LossRule}
use Rattle.loss_rule.specs.declared.rule.LossRule.TheVariants.{Decided, Passed, PassedOrSlid}
use Rattle.loss_rule.specs.Rule.{Coming, on_channel, handed_in, RuledFlow, Lasts, no_lasts, Notes, IsPassing, IsRuled, AreRuled}
use Rattle.loss_rule.specs.Numbers.{skips_to}
use Rattle.loss_rule.proofs.Reaching.{leads-some}
use Rattle.loss_rule.proofs.Rulings.{ruled-some, steps-passed, steps-slid}
use Rattle.loss_rule.proofs.Leasts.{passing-once}
use Rattle.loss_rule.proofs.RuledTurns.{ruled-reached, rules-lead, ruled-append}
use Rattle.bonded_flows.specs.FlowSetup.{FlowSetup, ruled_flow}
use Rattle.bonded_flows.specs.Stands.{SlidesNext}

-- What a segment makes of a flow that comes on a channel: what every channel has passed is skipped,
-- then the window slides, then it arrives.
pub record MakesSteps (setup : FlowSetup) (before : List Coming) (events : List FlowEvent) (channel : ℕ) (segment : Segment) (noted : Lasts) (passing sliding : List FlowEvent) : Type 0 where
  pub after : Fates
  pub ruled : AreRuled setup.rule (ruled_flow setup) (before ++ on_channel channel segment ∷ []) (events ++ ((passing ++ sliding) ++ arrives segment ∷ [])) noted after
  pub slides : (setup.rule ≡ PassedOrSlid) → SlidesNext setup (events ++ passing) segment.head.sequence sliding
  pub stays : (setup.rule ≢ PassedOrSlid) → sliding ≡ []

module _ (setup : FlowSetup) (before : List Coming) (events : List FlowEvent) (lasts : Lasts) (fates : Fates) (x : ℕ) (channel : ℕ) (segment : Segment)
    (are : AreRuled setup.rule (ruled_flow setup) before events lasts fates) (expected : IsExpected fates x) where
  -- it makes some steps; the first are the skip of what every channel has passed
  abbrev pub Steps : Type 0
  Steps =
      (noted : Lasts) × (passing sliding : List FlowEvent)
      × MakesSteps setup before events channel segment noted passing sliding
      × Notes setup.flow_record.first x channel segment.head.sequence lasts noted
      × (setup.rule ≡ Decided → passing ≡ [])
      × (setup.rule ≢ Decided → IsPassing (ruled_flow setup) noted x passing)

  -- the steps that these events are
  module _ (own : List FlowEvent) (noted : Lasts) (after : Fates)
      (all : AreRuled setup.rule (ruled_flow setup) (before ++ on_channel channel segment ∷ []) (events ++ own) noted after) where
    all-steps : (passing sliding : List FlowEvent) → own ≡ (passing ++ sliding) ++ arrives segment ∷ []
        → AreRuled setup.rule (ruled_flow setup) (before ++ on_channel channel segment ∷ []) (events ++ ((passing ++ sliding) ++ arrives segment ∷ [])) noted after
    all-steps passing sliding is =
        subst (λ (e : List FlowEvent). AreRuled setup.rule (ruled_flow setup) (before ++ on_channel channel segment ∷ []) (events ++ e) noted after) is all

    -- by each rule
    steps-by : (rule : LossRule) → setup.rule ≡ rule → IsRuled rule (ruled_flow setup) lasts fates (on_channel channel segment) own noted → Steps
    steps-by Decided rule (x', skips, expected', notes, none, is) = (
      noted,
      [],
      [],
      record {
        after = after;
        ruled = all-steps [] [] (is ∙ ap (λ (t : List FlowEvent). t ++ arrives segment ∷ []) none);
        slides = λ slid. (let wrong = sym rule ∙ slid in absurd cc);
        stays = λ _. refl;
      },
      subst (λ k. Notes setup.flow_record.first k channel segment.head.sequence lasts noted) (expected-unique fates x' x expected' expected) notes,
      (λ _. refl),
      (λ other. absurd (other rule)),
    )
    steps-by Passed rule ruled =
        let s = steps-passed (ruled_flow setup) lasts noted fates x channel segment own expected ruled in (
          noted,
          s.0,
          [],
          record {
            after = after;
            ruled = all-steps s.0 [] (s.3 ∙ ap (λ (t : List FlowEvent). t ++ arrives segment ∷ []) (sym (append-nil s.0)));
            slides = λ slid. (let wrong = sym rule ∙ slid in absurd cc);
            stays = λ _. refl;
          },
          s.1,
          (λ decided. (let wrong = sym rule ∙ decided in absurd cc)),
          (λ _. s.2),
        )
    steps-by PassedOrSlid rule ruled =
        let s = steps-slid (ruled_flow setup) lasts noted fates x channel segment own expected ruled in
        let led = rules-lead setup.rule (ruled_flow setup) (no_lasts (ruled_flow setup)) no_fates before events lasts fates are in (
          noted,
          s.0,
          s.1,
          record {
            after = after;
            ruled = all-steps s.0 s.1 s.10;
            slides = λ _. (
              led.0 ++ s.2,
              s.3,
              s.4,
              leads-in_turn setup.flow_record.first setup.flow_record.window events s.0 (led.0 ++ s.2) no_fates s.3 (led.0, s.2, fates, led.1, s.7, refl),
              s.8,
              s.9,
            );
            stays = λ other. absurd (other rule);
          },
          s.5,
          (λ decided. (let wrong = sym rule ∙ decided in absurd cc)),
          (λ _. s.6),
        )

  pub steps-some : Steps
  steps-some =
      let flow = ruled_flow setup in
      let reached = ruled-reached setup.rule flow before events lasts fates are in
      let own = ruled-some setup.rule flow lasts fates (on_channel channel segment) reached in
      let led = leads-some flow.first flow.width own.0 fates reached in
      steps-by own.0 own.1 led.1
      (ruled-append setup.rule flow before events lasts fates (on_channel channel segment) own.0 led.0 own.1 led.1 are own.2 led.2)
      setup.rule refl own.2

-- A decision makes just its event, which leads to the fates to which a flow comes by it.
pub decision-come : (setup : FlowSetup) (before : List Coming) (events : List FlowEvent) (lasts : Lasts) (fates after : Fates) (event : FlowEvent) (answers : List Applied)
    → AreRuled setup.rule (ruled_flow setup) before events lasts fates
    → IsAfter setup.flow_record.first setup.flow_record.window (events ++ event ∷ []) answers after
    → AreRuled setup.rule (ruled_flow setup) (before ++ handed_in event ∷ []) (events ++ event ∷ []) lasts after
decision-come setup before events lasts fates after event answers are is =
    let flow = ruled_flow setup in
    let led = rules-lead setup.rule flow (no_lasts flow) no_fates before events lasts fates are in
    let s = leads-split flow.first flow.width events (event ∷ []) answers no_fates after is in
    let same = (after-once flow.first flow.width events s.0 led.0 s.2 fates s.3 led.1).1 in
    ruled-append setup.rule flow before events lasts fates (handed_in event) (event ∷ []) s.1 lasts after are (refl, refl)
    (subst (λ (f : Fates). Leads flow.first flow.width f (event ∷ []) s.1 after) same s.4)

-- the skip of what every channel has passed is one
pub same-passing : (rule : LossRule) (flow : RuledFlow) (noted : Lasts) (x : ℕ) (passing : List FlowEvent) (passed : Option ℕ)
    → (rule ≡ Decided → passing ≡ []) → (rule ≢ Decided → IsPassing flow noted x passing)
    → (rule ≡ Decided → passed ≡ None) → (rule ≢ Decided → IsPassing flow noted x (skips_to passed))
    → passing ≡ skips_to passed
same-passing Decided flow noted x passing passed none some none' some' = none refl ∙ sym (ap skips_to (none' refl))
same-passing Passed flow noted x passing passed none some none' some' =
    passing-once flow noted x passing (skips_to passed) (some (λ wrong. absurd cc)) (some' (λ wrong. absurd cc))
same-passing PassedOrSlid flow noted x passing passed none some none' some' =
    passing-once flow noted x passing (skips_to passed) (some (λ wrong. absurd cc)) (some' (λ wrong. absurd cc))
