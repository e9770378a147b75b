-- What a flow has given by a rule to which something came, and what is told of the last of it.
use Rattle.std.proofs.Common.{◌≡◌, ℕ, ◌+◌, ◌-◌, inl, inr, Bool, Option, Some, None, List, [], ◌∷◌, ◌++◌, refl, sym, ap, subst, ◌∙◌, append-nil, append_assoc}
use Rattle.docsis_wire.specs.declared.segment.Segment.{Segment}
use Rattle.reorder.specs.declared.verdict.Verdict.{Verdict}
use Rattle.flow_core.specs.declared.event.Applied.{Applied}
use Rattle.flow_core.specs.declared.event.Applied.TheVariants.{Arrival, Decision, DecisionTo, DecisionSkip}
use Rattle.flow_core.specs.Counts.{no_counts}
use Rattle.flow_core.specs.Fates.{Fates, no_fates, number_of, IsExpected}
use Rattle.flow_core.specs.Events.{FlowEvent, arrives, skip_to, Changes, Leads, IsAfter}
use Rattle.flow_core.proofs.EmptyFlows.{outcome-empty}
use Rattle.flow_core.proofs.OneFates.{after-once}
use Rattle.flow_core.proofs.Outcome.{expected-unique}
use Rattle.flow_core.proofs.Turns.{leads-split, leads-in_turn}
use Rattle.loss_rule.specs.declared.rule.LossRule.{LossRule}
use Rattle.loss_rule.specs.declared.rule.LossRule.TheVariants.{Decided, Passed, PassedOrSlid}
use Rattle.loss_rule.specs.Rule.{Coming, on_channel, handed_in, own_event, RuledFlow, Lasts, no_lasts, IsPassing, IsSliding, AreSkips, IsRuled, AreRuled}
use Rattle.loss_rule.specs.Inside.Reached.{IsReached}
use Rattle.loss_rule.proofs.Reaching.{reached-none, leads-some}
use Rattle.loss_rule.proofs.Rulings.{ruled-some, rules-once}
use Rattle.loss_rule.proofs.RuledTurns.{rules-lead, ruled-reached, ruled-append}
use Rattle.bonded_flows.specs.declared.told.Told.{Told}
use Rattle.bonded_flows.specs.Answers.{verdict_of, says_any_lost}
use Rattle.bonded_flows.specs.ByRule.{EndInVerdict, IsLastSkip, IsTold, IsToldLost}
use Rattle.bonded_flows.specs.FlowSetup.{FlowSetup, ruled_flow}
use Rattle.receiver.specs.Held.{held_from, HoldsByRule}
use Rattle.answers.specs.Bytes.{AreBytes, Brings}
use Rattle.answers.specs.Beside.{GivesOfBytes, KeepsCarrying}
use Rattle.answers.proofs.GrownOutcome.{GrownOutcome, grown_outcome}
use Rattle.answers.proofs.Keeping.{none_kept, kept-leads}
use Rattle.answers.proofs.RuledEvents.{one-brings}

-- ---- what is skipped before a segment

last_passing : (flow : RuledFlow) (lasts : Lasts) (x : ℕ) (skips : List FlowEvent) → IsPassing flow lasts x skips → (o : Option ℕ) × IsLastSkip o skips
last_passing flow lasts x skips (inl is) = (Some (number_of flow.first is.0), ([], is.2))
last_passing flow lasts x skips (inr is) = (None, is.1)

last_sliding : (flow : RuledFlow) (x number : ℕ) (before skips : List FlowEvent) (o : Option ℕ) → IsLastSkip o before → IsSliding flow x number skips
    → (last : Option ℕ) × IsLastSkip last (before ++ skips)
last_sliding flow x number before skips o last (inl is) =
    (Some (number_of flow.first (is.0 + 1 - flow.width)), (before, ap (λ (t : List FlowEvent). before ++ t) is.3))
last_sliding flow x number before skips o last (inr is) =
    (o, subst (λ (t : List FlowEvent). IsLastSkip o t) (sym (ap (λ (t : List FlowEvent). before ++ t) is.1 ∙ append-nil before)) last)

-- by each rule
last_skip : (rule : LossRule) (flow : RuledFlow) (noted : Lasts) (fates : Fates) (number : ℕ) (skips : List FlowEvent) → AreSkips rule flow noted fates number skips
    → (o : Option ℕ) × IsLastSkip o skips
last_skip Decided flow noted fates number skips are = (None, are)
last_skip Passed flow noted fates number skips (x, expected, passes) = last_passing flow noted x skips passes
last_skip PassedOrSlid flow noted fates number skips (x, y, passing, sliding, answers, between, expected, passes, leads, expects, slides, are) =
    let before = last_passing flow noted x passing passes in
    let last = last_sliding flow y number passing sliding before.0 before.1 slides in
    (last.0, subst (λ (t : List FlowEvent). IsLastSkip last.0 t) (sym are) last.1)

-- ---- the answer to one event

verdict_in : (first width x : ℕ) (segment : Segment) (answer : Applied) (fates after : Fates) → Changes first width x (arrives segment) answer fates after
    → (verdict : Verdict Segment) × (answer ≡ Arrival verdict)
verdict_in first width x segment (Arrival verdict) fates after changes = (verdict, refl)
verdict_in first width x segment (Decision declared) fates after changes = absurd changes
verdict_in first width x segment (DecisionTo declared) fates after changes = absurd changes
verdict_in first width x segment (DecisionSkip skipped) fates after changes = absurd changes

-- one event has one answer
one_answer : (first width : ℕ) (event : FlowEvent) (answers : List Applied) (fates after : Fates) → Leads first width fates (event ∷ []) answers after
    → (x : ℕ) × (answer : Applied) × (between : Fates) × Changes first width x event answer fates between × (answers ≡ answer ∷ [])
one_answer first width event answers fates after (x, answer, rest, between, expected, changes, leads, are) =
    (x, answer, between, changes, are ∙ ap (λ (t : List Applied). answer ∷ t) leads.0)

-- no event stands in an empty list
none_before : (before behind : List FlowEvent) (event : FlowEvent) → [] ≡ before ++ event ∷ behind → ⊥
none_before [] behind event is = absurd cc
none_before (first ∷ before) behind event is = absurd cc

module _ (check : List ℕ → Bool) (setup : FlowSetup) where
  abbrev flow : RuledFlow
  flow = ruled_flow setup

  -- nothing, where nothing came
  pub gives_nothing : GivesOfBytes check setup [] []
  gives_nothing =
      let out = outcome-empty check setup.flow_record [] 0 (λ before behind segment. none_before before behind (arrives segment))
      (λ before behind number. none_before before behind (skip_to number)) in
      record {
        counts = no_counts;
        given = record { events = []; lasts = no_lasts flow; fates = no_fates; ruled = (refl, refl, refl); outcome = out.0 };
        kept = none_kept AreBytes;
      }

  module _ (comings : List Coming) (frames : List (List ℕ)) (was : GivesOfBytes check setup comings frames) where
    -- ---- how it stands

    -- the number that it expects
    pub expects : ℕ
    expects = number_of setup.flow_record.first was.given.outcome.x

    -- its events led to its fates
    led_before : (answers : List Applied) × IsAfter setup.flow_record.first setup.flow_record.window was.given.events answers was.given.fates
    led_before = rules-lead setup.rule flow (no_lasts flow) no_fates comings was.given.events was.given.lasts was.given.fates was.given.ruled

    -- which are those of what it gave
    pub same_fates : was.given.outcome.fates ≡ was.given.fates
    same_fates =
        (after-once setup.flow_record.first setup.flow_record.window was.given.events was.given.outcome.answers led_before.0 was.given.outcome.fates was.given.fates
        was.given.outcome.after led_before.1).1

    expected_here : IsExpected was.given.fates was.given.outcome.x
    expected_here = subst (λ (f : Fates). IsExpected f was.given.outcome.x) same_fates was.given.outcome.expected

    -- it is that of the index which is expected, however the rule is followed
    pub expects_so : (events : List FlowEvent) (lasts : Lasts) (fates : Fates) (x : ℕ) → AreRuled setup.rule flow comings events lasts fates → IsExpected fates x
        → expects ≡ number_of setup.flow_record.first x
    unfolding expects
    expects_so events lasts fates x ruled expected =
        let same = rules-once setup.rule flow (no_lasts flow) no_fates comings events was.given.events lasts was.given.lasts fates was.given.fates
        (reached-none setup.flow_record.first setup.flow_record.window) ruled was.given.ruled in
        ap (number_of setup.flow_record.first)
        (expected-unique was.given.fates was.given.outcome.x x expected_here (subst (λ (f : Fates). IsExpected f x) same.2 expected))

    -- and how many segments it holds
    pub holds_so : HoldsByRule setup comings (held_from was.given.fates was.given.outcome.x)
    holds_so = record {
      events = was.given.events;
      lasts = was.given.lasts;
      fates = was.given.fates;
      ruled = was.given.ruled;
      x = was.given.outcome.x;
      expected = expected_here;
      count = refl;
    }

    -- ---- one thing more

    module _ (coming : Coming) (brings : Brings AreBytes (own_event coming)) where
      reached : IsReached setup.flow_record.first setup.flow_record.window was.given.fates
      reached = ruled-reached setup.rule flow comings was.given.events was.given.lasts was.given.fates was.given.ruled

      one : (events : List FlowEvent) × (noted : Lasts) × IsRuled setup.rule flow was.given.lasts was.given.fates coming events noted
      one = ruled-some setup.rule flow was.given.lasts was.given.fates coming reached

      led : (answers : List Applied) × (after : Fates) × Leads setup.flow_record.first setup.flow_record.window was.given.fates one.0 answers after
      led = leads-some setup.flow_record.first setup.flow_record.window one.0 was.given.fates reached

      all_ruled : AreRuled setup.rule flow (comings ++ coming ∷ []) (was.given.events ++ one.0) one.1 led.1
      all_ruled = ruled-append setup.rule flow comings was.given.events was.given.lasts was.given.fates coming one.0 led.0 one.1 led.1 was.given.ruled one.2 led.2

      kept_after : KeepsCarrying AreBytes led.1
      kept_after =
          kept-leads AreBytes setup.flow_record.first setup.flow_record.window one.0 led.0 was.given.fates led.1 led.2 was.kept
          (one-brings AreBytes setup.rule flow was.given.lasts one.1 was.given.fates coming one.0 brings one.2)

      leads_on : Leads setup.flow_record.first setup.flow_record.window was.given.outcome.fates one.0 led.0 led.1
      leads_on = subst (λ (f : Fates). Leads setup.flow_record.first setup.flow_record.window f one.0 led.0 led.1) (sym same_fates) led.2

      grown : GrownOutcome check setup.flow_record was.given.events one.0 frames was.counts was.given.outcome led.0 led.1 leads_on kept_after
      grown = grown_outcome check setup.flow_record was.given.events one.0 frames was.counts was.given.outcome led.0 led.1 leads_on kept_after

      -- what it gives more
      pub gives_more : List (List ℕ)
      gives_more = grown.more

      pub gives_then : GivesOfBytes check setup (comings ++ coming ∷ []) (frames ++ gives_more)
      unfolding gives_more grown
      gives_then = record {
        counts = grown.grown;
        given = record { events = was.given.events ++ one.0; lasts = one.1; fates = led.1; ruled = all_ruled; outcome = grown.outcome };
        kept = kept_after;
      }

    -- ---- what is told of it

    module _ (channel : ℕ) (segment : Segment) (brings : AreBytes segment.payload) where
      abbrev coming : Coming
      coming = on_channel channel segment

      -- what is told of a segment
      pub some_told : (told : Told) × IsTold setup comings channel segment told
      some_told =
          let first = setup.flow_record.first in
          let width = setup.flow_record.window in
          let ruling = one coming brings in
          let leading = led coming brings in
          let skips = ruling.2.1 in
          let are : ruling.0 ≡ skips ++ arrives segment ∷ [] = ruling.2.5 in
          let last = last_skip setup.rule flow ruling.1 was.given.fates segment.head.sequence skips ruling.2.4 in
          let leads = subst (λ (e : List FlowEvent). Leads first width was.given.fates e leading.0 leading.1) are leading.2 in
          let split = leads-split first width skips (arrives segment ∷ []) leading.0 was.given.fates leading.1 leads in
          let answer = one_answer first width (arrives segment) split.1 split.2 leading.1 split.4 in
          let verdict = verdict_in first width answer.0 segment answer.1 split.2 answer.2 answer.3 in
          let all : IsAfter first width (was.given.events ++ (skips ++ arrives segment ∷ [])) (led_before.0 ++ leading.0) leading.1 =
          leads-in_turn first width was.given.events (skips ++ arrives segment ∷ []) (led_before.0 ++ leading.0) no_fates leading.1
          (led_before.0, leading.0, was.given.fates, led_before.1, leads, refl) in
          let answers : led_before.0 ++ leading.0 ≡ (led_before.0 ++ split.0) ++ Arrival verdict.0 ∷ [] =
          ap (λ (t : List Applied). led_before.0 ++ t)
          (split.5 ∙ ap (λ (t : List Applied). split.0 ++ t) (answer.4 ∙ ap (λ (a : Applied). a ∷ []) verdict.1))
          ∙ sym (append_assoc led_before.0 split.0 (Arrival verdict.0 ∷ [])) in
          let ends : EndInVerdict setup (was.given.events ++ (skips ++ arrives segment ∷ [])) (verdict_of verdict.0) = (
            led_before.0 ++ split.0,
            verdict.0,
            leading.1,
            subst (λ (t : List Applied). IsAfter first width (was.given.events ++ (skips ++ arrives segment ∷ [])) t leading.1) answers all,
            refl,
          ) in
          let ruled = subst (λ (e : List FlowEvent). AreRuled setup.rule flow (comings ++ coming ∷ []) (was.given.events ++ e) ruling.1 leading.1) are
          (all_ruled coming brings) in (
            record { skipped_to = last.0; verdict = verdict_of verdict.0 },
            record {
              events = was.given.events;
              lasts = was.given.lasts;
              fates = was.given.fates;
              before = was.given.ruled;
              skips = skips;
              noted = ruling.1;
              after = leading.1;
              ruled = ruled;
              skipped = last.1;
              verdict = ends;
            },
          )

    -- whether a segment is lost by a decision
    pub some_loss : (event : FlowEvent) → Brings AreBytes event → (lost : Bool) × IsToldLost setup comings event lost
    some_loss event brings =
        let first = setup.flow_record.first in
        let width = setup.flow_record.window in
        let coming = handed_in event in
        let ruling = one coming brings in
        let leading = led coming brings in
        let leads = subst (λ (e : List FlowEvent). Leads first width was.given.fates e leading.0 leading.1) ruling.2.0 leading.2 in
        let answer = one_answer first width event leading.0 was.given.fates leading.1 leads in
        let all : IsAfter first width (was.given.events ++ ruling.0) (led_before.0 ++ leading.0) leading.1 =
        leads-in_turn first width was.given.events ruling.0 (led_before.0 ++ leading.0) no_fates leading.1
        (led_before.0, leading.0, was.given.fates, led_before.1, leading.2, refl) in (
          says_any_lost answer.1,
          record {
            events = was.given.events ++ ruling.0;
            lasts = ruling.1;
            fates = leading.1;
            ruled = all_ruled coming brings;
            answers = led_before.0;
            answer = answer.1;
            answered =
                subst (λ (t : List Applied). IsAfter first width (was.given.events ++ ruling.0) (led_before.0 ++ t) leading.1) answer.4 all;
            says = refl;
          },
        )
