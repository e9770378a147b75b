-- A flow to which no segment came gives nothing.
use Rattle.std.proofs.Common.{◌≡◌, ◌≢◌, ℕ, zero, suc, ◌==◌, Bool, true, false, Option, Some, None, List, [], ◌∷◌, ◌++◌, replicate, refl, ap, ◌∙◌}
use Rattle.std.proofs.lemmas.Bool.{eqb-true}
use Rattle.std.specs.Prelude.{◌&&◌, nat_lt, if◌then◌else◌}
use Rattle.std.specs.List.{AllByRecursion, cons_option}
use Rattle.std.specs.Option.{option_map}
use Rattle.docsis_wire.specs.declared.segment.Segment.{Segment}
use Rattle.ccf.specs.Join.{Joins}
use Rattle.flow_records.specs.declared.record.FlowRecord.{FlowRecord}
use Rattle.flow_core.specs.declared.counts.FlowCounts.{FlowCounts}
use Rattle.flow_core.specs.Events.{FlowEvent, gap}
use Rattle.flow_core.specs.Fates.{no_fates}
use Rattle.flow_core.specs.Outcome.{IsFlowOutcome}
use Rattle.lane.specs.declared.admitted.Admitted.{Admitted}
use Rattle.lane.specs.Report.{admitted_by}
use Rattle.loss_rule.specs.Rule.{Coming, no_lasts}
use Rattle.bonded_flows.specs.declared.decision.FlowDecision.{FlowDecision}
use Rattle.bonded_flows.specs.declared.decision.FlowDecision.TheVariants.{Gap, GapTo, SkipTo}
use Rattle.bonded_flows.specs.ByRule.{decision_event, is_in_range, HasGivenByRule, GaveByRule}
use Rattle.bonded_flows.specs.FlowSetup.{FlowSetup, ruled_flow}
use Rattle.bonded_flows.specs.Parts.{FlowInput, comes, begins_anew, Part, parts_over_from, last_part_from, begun_at, GaveInParts}
use Rattle.bonded_flows.specs.Table.{TableInput, inputs_at}
use Rattle.receiver.specs.HandedIn.{HandedIn, came, decided, restarted, arrives_on, decides_of, flow_input_of, flow_inputs}
use Rattle.receiver.specs.Received.{GaveAllParts}
use Rattle.answers.specs.Bytes.{IsLostOrCarries, Brings}
use Rattle.answers.proofs.Everywhere.{all_append}
use Rattle.answers.proofs.Keeping.{none_kept, kept-leads, settled-carries}
use Rattle.answers.proofs.RuledEvents.{ComesWith, rules-bring}
use Rattle.selected_receiver.specs.Given.{HasGivenParts}

-- no payload is such
abbrev Never : List ℕ → Type 0
Never bytes = ⊥

-- where all is lost no frame is joined
joins-lost : (check : List ℕ → Bool) (before : List ℕ) (settled : List (Option Segment)) (frames : List (List ℕ)) (after : List ℕ)
    → AllByRecursion (IsLostOrCarries Never) settled → Joins check before settled frames after → frames ≡ []
joins-lost check before [] frames after lost joins = joins.0
joins-lost check before (None ∷ settled) frames after lost joins = joins-lost check [] settled frames after lost.1 joins
joins-lost check before (Some segment ∷ settled) frames after lost joins = absurd lost.0

-- nor where no event is a segment's
outcome-none : (check : List ℕ → Bool) (flow_record : FlowRecord) (events : List FlowEvent) (frames : List (List ℕ)) (counts : FlowCounts)
    → IsFlowOutcome check flow_record events frames counts → AllByRecursion (Brings Never) events → frames ≡ []
outcome-none check flow_record events frames counts out bring =
    let kept = kept-leads Never flow_record.first flow_record.window events out.answers no_fates out.fates out.after (none_kept Never) bring in
    joins-lost check [] out.settled frames out.unfinished (settled-carries Never out.fates out.x out.settled kept out.below) out.joined

gaps-bring : (n : ℕ) → AllByRecursion (Brings Never) (replicate n gap)
gaps-bring zero = tt
gaps-bring (suc n) = (tt, gaps-bring n)

-- none of what came is a segment
abbrev BringNone : List Coming → Type 0
BringNone comings = AllByRecursion (ComesWith Never) comings

module _ (check : List ℕ → Bool) (setup : FlowSetup) (comings : List Coming) (frames : List (List ℕ)) (counts : FlowCounts) (none : BringNone comings) where
  gives-none : HasGivenByRule check setup comings frames counts → frames ≡ []
  gives-none given =
      outcome-none check setup.flow_record given.events frames counts given.outcome
      (rules-bring Never setup.rule (ruled_flow setup) (no_lasts (ruled_flow setup)) given.lasts no_fates given.fates comings given.events none given.ruled)

  gave-none : GaveByRule check setup comings frames counts → frames ≡ []
  gave-none gave =
      outcome-none check setup.flow_record (gave.events ++ replicate gave.n gap) frames counts gave.outcome
      (all_append (Brings Never) gave.events (replicate gave.n gap)
      (rules-bring Never setup.rule (ruled_flow setup) (no_lasts (ruled_flow setup)) gave.lasts no_fates gave.fates comings gave.events none gave.ruled)
      (gaps-bring gave.n))

-- ---- part by part

-- nothing that is handed in of a flow is a segment
abbrev pub IsNoSegment : FlowInput → Type 0
IsNoSegment (comes coming) = ComesWith Never coming
IsNoSegment (begins_anew again) = Unit {0}

last-none : (first : ℕ) (before : List Coming) (inputs : List FlowInput) → BringNone before → AllByRecursion IsNoSegment inputs → BringNone (last_part_from first before inputs).comings
last-none first before [] none all = none
last-none first before (comes coming ∷ inputs) none all =
    last-none first (before ++ coming ∷ []) inputs (all_append (ComesWith Never) before (coming ∷ []) none (all.0, tt)) all.1
last-none first before (begins_anew again ∷ inputs) none all = last-none again [] inputs tt all.1

over-none : (first : ℕ) (before : List Coming) (inputs : List FlowInput) → BringNone before → AllByRecursion IsNoSegment inputs
    → AllByRecursion (λ (part : Part). BringNone part.comings) (parts_over_from first before inputs)
over-none first before [] none all = tt
over-none first before (comes coming ∷ inputs) none all =
    over-none first (before ++ coming ∷ []) inputs (all_append (ComesWith Never) before (coming ∷ []) none (all.0, tt)) all.1
over-none first before (begins_anew again ∷ inputs) none all = (none, over-none again [] inputs tt all.1)

parts-none : (check : List ℕ → Bool) (setup : FlowSetup) (parts : List Part) (frames : List (List ℕ)) → AllByRecursion (λ (part : Part). BringNone part.comings) parts
    → GaveInParts check setup parts frames → frames ≡ []
parts-none check setup [] frames all gave = gave
parts-none check setup (part ∷ parts) frames all (own, rest, counts, its, more, are) =
    are ∙ ap (λ (t : List (List ℕ)). t ++ rest) (gave-none check (begun_at setup part.first) part.comings own counts all.0 its)
    ∙ parts-none check setup parts rest all.1 more

-- so it has given nothing, as long as it isn't closed, and gives nothing at its close
module _ (check : List ℕ → Bool) (setup : FlowSetup) (inputs : List FlowInput) (frames : List (List ℕ)) (all : AllByRecursion IsNoSegment inputs) where
  pub given-none : HasGivenParts check setup inputs frames → frames ≡ []
  given-none given =
      let last = last_part_from setup.flow_record.first [] inputs in
      given.all ∙ ap (λ (t : List (List ℕ)). t ++ given.own) (parts-none check setup (parts_over_from setup.flow_record.first [] inputs) given.earlier
      (over-none setup.flow_record.first [] inputs tt all) given.gave)
      ∙ gives-none check (begun_at setup last.first) last.comings given.own given.counts (last-none setup.flow_record.first [] inputs tt all) given.last

  pub closed-none : (counts : FlowCounts) → GaveAllParts check setup inputs frames counts → frames ≡ []
  closed-none counts gave =
      let last = last_part_from setup.flow_record.first [] inputs in
      gave.all ∙ ap (λ (t : List (List ℕ)). t ++ gave.own) (parts-none check setup (parts_over_from setup.flow_record.first [] inputs) gave.earlier
      (over-none setup.flow_record.first [] inputs tt all) gave.gave)
      ∙ gave-none check (begun_at setup last.first) last.comings gave.own counts (last-none setup.flow_record.first [] inputs tt all) gave.last

-- ---- what is handed in

module _ (k n : ℕ) where
  -- nothing is admitted of it to flow k
  abbrev pub IsNoneOf : HandedIn → Type 0
  IsNoneOf (came channel one) = (admitted : Admitted) → admitted_by one.answer ≡ Some admitted → admitted.flow ≢ k
  IsNoneOf (decided flow decision) = Unit {0}
  IsNoneOf (restarted flow first) = Unit {0}

  -- an input of a table, if it is of flow k
  abbrev IsNoneIn : Option TableInput → Type 0
  IsNoneIn None = Unit {0}
  IsNoneIn (Some input) = input.flow ≡ k → IsNoSegment input.input

  decision-none : (decision : FlowDecision) → Brings Never (decision_event decision)
  decision-none Gap = tt
  decision-none (GapTo number) = tt
  decision-none (SkipTo number) = tt

  decided-none : (flow : ℕ) (decision : FlowDecision) (b : Bool) → IsNoneIn (if b then Some (decides_of flow decision) else None)
  decided-none flow decision true = λ is. decision-none decision
  decided-none flow decision false = tt

  came-none : (channel : ℕ) (admitted : Option Admitted) → ((one : Admitted) → admitted ≡ Some one → one.flow ≢ k) → IsNoneIn (option_map (arrives_on channel) admitted)
  came-none channel None none = tt
  came-none channel (Some one) none = λ is. absurd (none one refl is)

  input-none : (one : HandedIn) → IsNoneOf one → IsNoneIn (flow_input_of n one)
  input-none (came channel one) none = came-none channel (admitted_by one.answer) none
  input-none (decided flow decision) none = decided-none flow decision (nat_lt flow n && is_in_range decision)
  input-none (restarted flow first) none = λ is. tt

  -- of one input, and of others behind
  picked-none : (input : TableInput) (rest : List FlowInput) (b : Bool) → input.flow == k ≡ b → IsNoneIn (Some input) → AllByRecursion IsNoSegment rest
      → AllByRecursion IsNoSegment (cons_option (if b then Some input.input else None) rest)
  picked-none input rest true is none all = (none (eqb-true input.flow k is), all)
  picked-none input rest false is none all = all

  behind-none : (one : Option TableInput) (rest : List TableInput) → IsNoneIn one → AllByRecursion IsNoSegment (inputs_at k rest)
      → AllByRecursion IsNoSegment (inputs_at k (cons_option one rest))
  behind-none None rest none all = all
  behind-none (Some input) rest none all = picked-none input (inputs_at k rest) (input.flow == k) refl none all

  pub inputs-none : (handed : List HandedIn) → AllByRecursion IsNoneOf handed → AllByRecursion IsNoSegment (inputs_at k (flow_inputs n handed))
  inputs-none [] all = tt
  inputs-none (one ∷ handed) all = behind-none (flow_input_of n one) (flow_inputs n handed) (input-none one all.0) (inputs-none handed all.1)
