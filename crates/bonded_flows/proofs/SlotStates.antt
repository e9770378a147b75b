-- A flow of a slot before and after it is begun.
use Rattle.std.proofs.Common.{◌≡◌, ℕ, ◌<◌, ⊎_elim, Bool, Option, Some, None, List, [], ◌∷◌, ◌++◌, take, refl, ap, sym, subst, ◌∙◌, append_assoc, append-nil, arith}
use Rattle.std.specs.Global.{Box}
use Rattle.std.specs.Box.{box_value}
use Rattle.flow_records.specs.declared.record.FlowRecord.{FlowRecord}
use Rattle.flow_core.specs.declared.event.Applied.{Applied}
use Rattle.flow_core.specs.Counts.{no_counts}
use Rattle.flow_core.specs.Fates.{Fates, no_fates, number_of, IsExpected}
use Rattle.flow_core.specs.Events.{FlowEvent, arrives}
use Rattle.flow_core.specs.Closing.{HaveNoArrival}
use Rattle.flow_core.specs.Outcome.{IsFlowOutcome}
use Rattle.flow_core.specs.Stands.{StandsFor}
use Rattle.flow_core.proofs.Outcome.{expected-unique, sound-none}
use Rattle.flow_core.proofs.EmptyFlows.{gaps-nothing, stands-empty, outcome-empty}
use Rattle.loss_rule.specs.declared.rule.LossRule.{LossRule}
use Rattle.loss_rule.specs.Rule.{Coming, on_channel, handed_in, RuledFlow, Lasts, no_lasts, Rules, AreRuled}
use Rattle.loss_rule.specs.Numbers.{distances_of, AreDistancesOf}
use Rattle.loss_rule.proofs.Reaching.{reached-none}
use Rattle.loss_rule.proofs.Rulings.{rules-once}
use Rattle.loss_rule.proofs.RuledTurns.{rules-lead}
use Rattle.bonded_flows.specs.declared.bonded_flow.BondedFlow.{BondedFlow}
use Rattle.bonded_flows.specs.declared.flow_slot.FlowSlot.{FlowSlot}
use Rattle.bonded_flows.specs.FlowSetup.{FlowSetup, ruled_flow}
use Rattle.bonded_flows.specs.ByRule.{HasGivenByRule, GaveByRule}
use Rattle.bonded_flows.specs.Stands.{HasTaken, IsPending, HasCome, IsSettled}
use Rattle.bonded_flows.specs.Slots.{HasNotBegun, EntryStands, PartStands, setup_in}
use Rattle.bonded_flows.proofs.SettledFlows.{all-taken}

-- what a slot's flow, or that it wasn't begun, stands for
pub not-begun : (check : List ℕ → Bool) (setup : FlowSetup) (slot : FlowSlot) (comings : List Coming) (given : List (List ℕ))
    → PartStands check setup slot comings given → slot.flow ≡ None → HasNotBegun setup comings given
not-begun check setup slot comings given stands none = subst (λ (f : Option (Box BondedFlow)). EntryStands check setup f comings given) none stands.entry

pub begun : (check : List ℕ → Bool) (setup : FlowSetup) (slot : FlowSlot) (flow : Box BondedFlow) (comings : List Coming) (given : List (List ℕ))
    → PartStands check setup slot comings given → slot.flow ≡ Some flow → HasCome check setup (box_value flow) comings given
begun check setup slot flow comings given stands some = subst (λ (f : Option (Box BondedFlow)). EntryStands check setup f comings given) some stands.entry

-- a number in its range is that of the first index
first-number : (first : ℕ) → first < 8192 → first ≡ number_of first 0
first-number first small = omega arith

module _ (setup : FlowSetup) (comings : List Coming) (given : List (List ℕ)) (none : HasNotBegun setup comings given) where
  -- a flow that wasn't begun expects its first number
  pub first-expected : (events : List FlowEvent) (lasts : Lasts) (fates : Fates) (x : ℕ) → setup.flow_record.first < 8192
      → AreRuled setup.rule (ruled_flow setup) comings events lasts fates → IsExpected fates x → setup.flow_record.first ≡ number_of setup.flow_record.first x
  first-expected events lasts fates x small ruled expected =
      let flow = ruled_flow setup in
      let same = rules-once setup.rule flow (no_lasts flow) no_fates comings events none.events lasts none.lasts fates no_fates (reached-none flow.first flow.width) ruled none.ruled in
      let at : x ≡ 0 = expected-unique no_fates x 0 (subst (λ (f : Fates). IsExpected f x) same.2 expected) (sound-none setup.flow_record.window).expected in
      first-number setup.flow_record.first small ∙ ap (number_of setup.flow_record.first) (sym at)

  -- it has counted nothing
  pub counted-nothing : (check : List ℕ → Bool) → HasGivenByRule check setup comings given no_counts
  counted-nothing check =
      let out = outcome-empty check setup.flow_record none.events 0 none.no_arrival none.no_skip in
      subst (λ (frames : List (List ℕ)). HasGivenByRule check setup comings frames no_counts) (sym none.nothing)
      (record {
        events = none.events;
        lasts = none.lasts;
        fates = no_fates;
        ruled = none.ruled;
        outcome = subst (λ (e : List FlowEvent). IsFlowOutcome check setup.flow_record e [] no_counts) (append-nil none.events) out.0;
      })

  -- and closed, it gave nothing
  pub gave-nothing : (check : List ℕ → Bool) → GaveByRule check setup comings given no_counts
  gave-nothing check =
      let out = outcome-empty check setup.flow_record none.events 0 none.no_arrival none.no_skip in
      subst (λ (frames : List (List ℕ)). GaveByRule check setup comings frames no_counts) (sym none.nothing)
      (record {
        events = none.events;
        lasts = none.lasts;
        fates = no_fates;
        ruled = none.ruled;
        n = 0;
        outcome = out.0;
        closed = out.1;
      })

-- no segment is noted where none arrives
unarrived-unnoted : (rule : LossRule) (flow : RuledFlow) (lasts : Lasts) (fates : Fates) (comings : List Coming) (events : List FlowEvent) (noted : Lasts) (after : Fates)
    → Rules rule flow lasts fates comings events noted after → HaveNoArrival events → noted ≡ lasts
unarrived-unnoted rule flow lasts fates [] events noted after rules none = rules.1
unarrived-unnoted rule flow lasts fates (handed_in event ∷ comings) events noted after (own, rest, answers, between_lasts, between, ruled, leads, rules, are) none =
    unarrived-unnoted rule flow between_lasts between comings rest noted after rules
    (λ before behind segment e. none (own ++ before) behind segment (are ∙ ap (λ t. own ++ t) e ∙ sym (append_assoc own before (arrives segment ∷ behind))))
    ∙ ruled.1
unarrived-unnoted rule flow lasts fates (on_channel channel segment ∷ comings) events noted after (own, rest, answers, between_lasts, between, (x, skips, expected, notes, are_skips, is), leads, rules, are) none =
    absurd (none skips rest segment (are ∙ ap (λ t. t ++ rest) is ∙ append_assoc skips (arrives segment ∷ []) rest))

module _ (check : List ℕ → Bool) (setup : FlowSetup) (bonded : BondedFlow) (fresh : HasCome check setup bonded [] []) (settled : IsSettled bonded) where
  -- a new flow has taken nothing
  nothing-taken : HasTaken check setup bonded [] (no_lasts (ruled_flow setup)) []
  nothing-taken =
      subst (λ (l : Lasts). HasTaken check setup bonded [] l []) fresh.ruled.1
      (subst (λ (e : List FlowEvent). HasTaken check setup bonded e fresh.lasts []) fresh.ruled.0 (all-taken check setup bonded [] [] fresh settled))

  -- it stands for nothing
  new-flow : StandsFor check setup.flow_record bonded.flow [] [] 0 []
  new-flow =
      let s = nothing-taken.stands in
      let at : s.x ≡ 0 = expected-unique no_fates s.x 0 (subst (λ (f : Fates). IsExpected f s.x) s.after.1 s.expected) (sound-none setup.flow_record.window).expected in
      let start : nothing-taken.y ≡ 0 = ⊎_elim (λ same. same ∙ at) (λ before. let less = before.0 in absurd (omega arith)) s.come_to in
      subst (λ (y : ℕ). StandsFor check setup.flow_record bonded.flow [] [] y []) start
      (subst (λ (a : List Applied). StandsFor check setup.flow_record bonded.flow [] a nothing-taken.y []) s.after.0 s)

  -- so it stands for what was decided of a flow to which no segment came
  pub begins : (comings : List Coming) (given : List (List ℕ)) → HasNotBegun setup comings given → HasCome check setup bonded comings given
  begins comings given none =
      let flow = ruled_flow setup in
      let led = rules-lead setup.rule flow (no_lasts flow) no_fates comings none.events none.lasts no_fates none.ruled in
      let stands = stands-empty check setup.flow_record bonded.flow none.events led.0 no_fates new-flow led.1 none.no_arrival none.no_skip in
      let stays = (gaps-nothing setup.flow_record.first setup.flow_record.window none.events led.0 stands.fates stands.after none.no_arrival none.no_skip).0 in
      let at : stands.x ≡ 0 = expected-unique no_fates stands.x 0 (subst (λ (f : Fates). IsExpected f stands.x) stays stands.expected) (sound-none setup.flow_record.window).expected in
      let s = nothing-taken.stands in
      let at_first : s.x ≡ 0 = expected-unique no_fates s.x 0 (subst (λ (f : Fates). IsExpected f s.x) s.after.1 s.expected) (sound-none setup.flow_record.window).expected in
      let onward = nothing-taken.onward in
      let unnoted : none.lasts ≡ no_lasts flow = unarrived-unnoted setup.rule flow (no_lasts flow) no_fates comings none.events none.lasts no_fates none.ruled none.no_arrival in
      subst (λ (frames : List (List ℕ)). HasCome check setup bonded comings frames) (sym none.nothing)
      (record {
        events = none.events;
        lasts = none.lasts;
        fates = no_fates;
        ruled = none.ruled;
        taking = record {
          taken = none.events;
          has_taken = record {
            made = nothing-taken.made;
            answers = led.0;
            y = 0;
            stands = stands;
            from = nothing-taken.from;
            number = nothing-taken.number;
            distances = subst (λ (l : Lasts). AreDistancesOf nothing-taken.from l (distances_of bonded.lasts)) (sym unnoted) nothing-taken.distances;
            onward = omega arith;
            near = omega arith;
          };
          left = subst (λ p. IsPending setup p none.events none.events) (sym settled.nothing_left) refl;
        };
      })

-- a setup is its parts
same-setup : (setup : FlowSetup) (index : ℕ) (rule : LossRule) (flow_record : FlowRecord) (channels : List Bool)
    → index ≡ setup.index → rule ≡ setup.rule → flow_record ≡ setup.flow_record → channels ≡ setup.channels
    → record { index = index; rule = rule; flow_record = flow_record; channels = channels } ≡ setup
same-setup setup index rule flow_record channels index_is rule_is record_is channels_are =
    ap (λ (i : ℕ). record { index = i; rule = rule; flow_record = flow_record; channels = channels }) index_is
    ∙ ap (λ (r : LossRule). record { index = setup.index; rule = r; flow_record = flow_record; channels = channels }) rule_is
    ∙ ap (λ (r : FlowRecord). record { index = setup.index; rule = setup.rule; flow_record = r; channels = channels }) record_is
    ∙ ap (λ (l : List Bool). record { index = setup.index; rule = setup.rule; flow_record = setup.flow_record; channels = l }) channels_are

-- a slot whose flow is begun stands for what it stood for
pub slot-begins : (check : List ℕ → Bool) (setup : FlowSetup) (slot : FlowSlot) (flow : Box BondedFlow) (comings : List Coming) (given : List (List ℕ))
    → HasCome check (setup_in slot) (box_value flow) [] [] → IsSettled (box_value flow) → slot.flow ≡ None → PartStands check setup slot comings given
    → PartStands check setup (record slot { flow = Some flow }) comings given
slot-begins check setup slot flow comings given fresh settled none stands =
    let same = same-setup setup slot.index slot.rule slot.flow_record (take slot.channel_count slot.channels) stands.index stands.rule stands.record_is stands.channels in
    record {
      index = stands.index;
      rule = stands.rule;
      record_is = stands.record_is;
      few = stands.few;
      channels = stands.channels;
      in_range = stands.in_range;
      entry = begins check setup (box_value flow) (subst (λ (s : FlowSetup). HasCome check s (box_value flow) [] []) same fresh) settled comings given
          (not-begun check setup slot comings given stands none);
    }
