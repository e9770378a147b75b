-- Comings in turn: a list of them, and then another.
use Rattle.std.proofs.Common.{◌≡◌, List, [], ◌∷◌, ◌++◌, refl, ap, sym, subst, ◌∙◌, append_assoc, append-nil}
use Rattle.flow_core.specs.declared.event.Applied.{Applied}
use Rattle.flow_core.specs.Fates.{Fates, no_fates}
use Rattle.flow_core.specs.Events.{FlowEvent, Leads}
use Rattle.flow_core.proofs.Turns.{leads-in_turn}
use Rattle.loss_rule.specs.declared.rule.LossRule.{LossRule}
use Rattle.loss_rule.specs.Rule.{Coming, RuledFlow, Lasts, no_lasts, IsRuled, Rules, AreRuled}
use Rattle.loss_rule.specs.Inside.Reached.{IsReached}
use Rattle.loss_rule.specs.Inside.InTurn.{RulesInTurn}

-- the events of comings lead to the fates
pub rules-lead : (rule : LossRule) (flow : RuledFlow) (lasts : Lasts) (fates : Fates) (comings : List Coming) (events : List FlowEvent) (noted : Lasts) (after : Fates)
    → Rules rule flow lasts fates comings events noted after → (answers : List Applied) × Leads flow.first flow.width fates events answers after
rules-lead rule flow lasts fates [] events noted after rules = ([], subst (λ e. Leads flow.first flow.width fates e [] after) (sym rules.0) (refl, rules.2))
rules-lead rule flow lasts fates (coming ∷ comings) events noted after (own, rest, answers, between_lasts, between, ruled, leads, rules, are) =
    let more = rules-lead rule flow between_lasts between comings rest noted after rules in (
      answers ++ more.0,
      subst (λ e. Leads flow.first flow.width fates e (answers ++ more.0) after) (sym are)
          (leads-in_turn flow.first flow.width own rest (answers ++ more.0) fates after (answers, more.0, between, leads, more.1, refl)),
    )

-- so they are fates to which the flow can come
pub ruled-reached : (rule : LossRule) (flow : RuledFlow) (comings : List Coming) (events : List FlowEvent) (noted : Lasts) (fates : Fates)
    → AreRuled rule flow comings events noted fates → IsReached flow.first flow.width fates
ruled-reached rule flow comings events noted fates ruled =
    let led = rules-lead rule flow (no_lasts flow) no_fates comings events noted fates ruled in (events, led.0, led.1)

-- comings of two lists are ruled in turn
pub rules-split : (rule : LossRule) (flow : RuledFlow) (lasts : Lasts) (fates : Fates) (comings more : List Coming) (events : List FlowEvent) (noted : Lasts) (after : Fates)
    → Rules rule flow lasts fates (comings ++ more) events noted after → RulesInTurn rule flow lasts fates comings more events noted after
rules-split rule flow lasts fates [] more events noted after rules = ([], events, lasts, fates, (refl, refl, refl), rules, refl)
rules-split rule flow lasts fates (coming ∷ comings) more events noted after (own, rest, answers, between_lasts, between, ruled, leads, rules, are) =
    let s = rules-split rule flow between_lasts between comings more rest noted after rules in
    (own ++ s.0, s.1, s.2, s.3, (own, s.0, answers, between_lasts, between, ruled, leads, s.4, refl), s.5, are ∙ ap (λ t. own ++ t) s.6 ∙ sym (append_assoc own s.0 s.1))

-- and ruled in turn they are ruled as one list
rules-join : (rule : LossRule) (flow : RuledFlow) (lasts : Lasts) (fates : Fates) (comings more : List Coming) (events front back : List FlowEvent) (between_lasts noted : Lasts)
    (between after : Fates) → Rules rule flow lasts fates comings front between_lasts between → Rules rule flow between_lasts between more back noted after
    → events ≡ front ++ back → Rules rule flow lasts fates (comings ++ more) events noted after
rules-join rule flow lasts fates [] more events front back between_lasts noted between after p q are =
    let same : back ≡ events = sym (are ∙ ap (λ t. t ++ back) p.0) in
    subst (λ e. Rules rule flow lasts fates more e noted after) same
    (subst (λ l. Rules rule flow l fates more back noted after) p.1 (subst (λ (f : Fates). Rules rule flow between_lasts f more back noted after) p.2 q))
rules-join rule flow lasts fates (coming ∷ comings) more events front back between_lasts noted between after (own, rest, answers, next_lasts, next, ruled, leads, rules, front_is) q are = (
  own,
  rest ++ back,
  answers,
  next_lasts,
  next,
  ruled,
  leads,
  rules-join rule flow next_lasts next comings more (rest ++ back) rest back between_lasts noted between after rules q refl,
  are ∙ ap (λ t. t ++ back) front_is ∙ append_assoc own rest back,
)

-- the other way round
pub rules-in_turn : (rule : LossRule) (flow : RuledFlow) (lasts : Lasts) (fates : Fates) (comings more : List Coming) (events : List FlowEvent) (noted : Lasts) (after : Fates)
    → RulesInTurn rule flow lasts fates comings more events noted after → Rules rule flow lasts fates (comings ++ more) events noted after
rules-in_turn rule flow lasts fates comings more events noted after (front, back, between_lasts, between, p, q, are) =
    rules-join rule flow lasts fates comings more events front back between_lasts noted between after p q are

-- one more coming at the end
pub ruled-append : (rule : LossRule) (flow : RuledFlow) (comings : List Coming) (events : List FlowEvent) (lasts : Lasts) (fates : Fates) (coming : Coming)
    (own : List FlowEvent) (answers : List Applied) (noted : Lasts) (after : Fates) → AreRuled rule flow comings events lasts fates
    → IsRuled rule flow lasts fates coming own noted → Leads flow.first flow.width fates own answers after
    → AreRuled rule flow (comings ++ coming ∷ []) (events ++ own) noted after
ruled-append rule flow comings events lasts fates coming own answers noted after are ruled leads =
    rules-in_turn rule flow (no_lasts flow) no_fates comings (coming ∷ []) (events ++ own) noted after
    (events, own, lasts, fates, are, (own, [], answers, noted, after, ruled, leads, (refl, refl, refl), sym (append-nil own)), refl)

-- What holds before anything came, and stays with each coming, holds after all that came. The
-- comings behind may be known too.
module _ (rule : LossRule) (flow : RuledFlow) (P : List Coming → List Coming → List FlowEvent → Lasts → Fates → Type 0)
    (step : (past behind : List Coming) (events : List FlowEvent) (lasts : Lasts) (fates : Fates) (coming : Coming) (own : List FlowEvent) (answers : List Applied)
    (noted : Lasts) (after : Fates)
    → AreRuled rule flow past events lasts fates → P past (coming ∷ behind) events lasts fates → IsRuled rule flow lasts fates coming own noted
    → Leads flow.first flow.width fates own answers after → P (past ++ coming ∷ []) behind (events ++ own) noted after) where
  holds-from : (past comings : List Coming) (events more : List FlowEvent) (lasts noted : Lasts) (fates after : Fates) → AreRuled rule flow past events lasts fates
      → P past comings events lasts fates → Rules rule flow lasts fates comings more noted after → P (past ++ comings) [] (events ++ more) noted after
  holds-from past [] events more lasts noted fates after are p rules =
      subst (λ c. P c [] (events ++ more) noted after) (sym (append-nil past))
      (subst (λ e. P past [] e noted after) (sym (ap (λ t. events ++ t) rules.0 ∙ append-nil events))
      (subst (λ l. P past [] events l after) (sym rules.1) (subst (λ (f : Fates). P past [] events lasts f) (sym rules.2) p)))
  holds-from past (coming ∷ comings) events more lasts noted fates after are p (own, rest, answers, between_lasts, between, ruled, leads, rules, is) =
      subst (λ c. P c [] (events ++ more) noted after) (append_assoc past (coming ∷ []) comings)
      (subst (λ e. P ((past ++ coming ∷ []) ++ comings) [] e noted after) (append_assoc events own rest ∙ ap (λ t. events ++ t) (sym is))
      (holds-from (past ++ coming ∷ []) comings (events ++ own) rest between_lasts noted between after
      (ruled-append rule flow past events lasts fates coming own answers between_lasts between are ruled leads)
      (step past comings events lasts fates coming own answers between_lasts between are p ruled leads) rules))

  -- from the start on
  pub holds-after : (comings : List Coming) (events : List FlowEvent) (noted : Lasts) (fates : Fates) → P [] comings [] (no_lasts flow) no_fates
      → AreRuled rule flow comings events noted fates → P comings [] events noted fates
  holds-after comings events noted fates p are = holds-from [] comings [] events (no_lasts flow) noted no_fates fates (refl, refl, refl) p are
