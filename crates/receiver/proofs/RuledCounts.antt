-- Where each segment was kept, as many are counted as kept as came, and nothing as late, as a
-- repeat or as beyond the window.
use Rattle.std.proofs.Common.{◌≡◌, ℕ, zero, suc, ◌+◌, inl, inr, Bool, true, false, cond, Some, List, [], ◌∷◌, ◌++◌, replicate, count_by, slice_get, refl, sym, ap, subst, ◌∙◌, arith}
use Rattle.std.proofs.lemmas.List.Sums.{sum_by-append}
use Rattle.std.proofs.lemmas.Option.{same_Some}
use Rattle.docsis_wire.specs.declared.segment.Segment.{Segment}
use Rattle.reorder.specs.declared.verdict.Verdict.{Verdict}
use Rattle.reorder.specs.declared.verdict.Verdict.TheVariants.{Kept}
use Rattle.reorder.specs.declared.verdict.Declared.{Declared}
use Rattle.flow_records.specs.Counted.{counted}
use Rattle.flow_records.specs.declared.record.FlowRecord.{FlowRecord}
use Rattle.flow_core.specs.declared.counts.FlowCounts.{FlowCounts}
use Rattle.flow_core.specs.declared.event.Applied.{Applied}
use Rattle.flow_core.specs.declared.event.Applied.TheVariants.{Arrival, Decision, DecisionTo, DecisionSkip}
use Rattle.flow_core.specs.Counts.{says_kept, says_late, says_repeat, says_beyond}
use Rattle.flow_core.specs.Fates.{Fates, no_fates}
use Rattle.flow_core.specs.Events.{FlowEvent, arrives, gap, gap_to, skip_to, Changes, Leads, IsAfter}
use Rattle.flow_core.specs.Outcome.{IsFlowOutcome}
use Rattle.flow_core.proofs.OneFates.{after-once}
use Rattle.flow_core.proofs.Turns.{leads-split}
use Rattle.loss_rule.specs.declared.rule.LossRule.{LossRule}
use Rattle.loss_rule.specs.declared.rule.LossRule.TheVariants.{Decided, Passed, PassedOrSlid}
use Rattle.loss_rule.specs.Rule.{Coming, on_channel, handed_in, RuledFlow, Lasts, IsPassing, IsSliding, AreSkips, IsRuled, Rules}
use Rattle.loss_rule.specs.InOrder.{HandInDecisions}
use Rattle.loss_rule.specs.Inside.Verdicts.{EachVerdict, SaysKept}
use Rattle.loss_rule.proofs.ArrivalAnswers.{verdicts-in_turn}
use Rattle.receiver.specs.Channels.{is_segment, segment_count}
use Rattle.receiver.proofs.MergedLists.{count-cons}

-- what neither a kept segment nor a decision counts as
module _ (counts_as : Applied → Bool) (kept : counts_as (Arrival Kept) ≡ false) (declared : (answer : Declared) → counts_as (Decision answer) ≡ false)
    (declared_to : (any : Bool) → counts_as (DecisionTo any) ≡ false) (skipped : (any : Bool) → counts_as (DecisionSkip any) ≡ false) where
  not-counted : (answer : Applied) → ((verdict : Verdict Segment) → answer ≡ Arrival verdict → SaysKept verdict) → counts_as answer ≡ false
  not-counted (Arrival verdict) each = ap (λ v. counts_as (Arrival v)) (each verdict refl) ∙ kept
  not-counted (Decision answer) each = declared answer
  not-counted (DecisionTo any) each = declared_to any
  not-counted (DecisionSkip any) each = skipped any

  none-counted : (answers : List Applied) → EachVerdict SaysKept answers → count_by counts_as answers ≡ 0
  none-counted [] each = refl
  none-counted (answer ∷ answers) each =
      let rest = none-counted answers (λ k verdict at. each (suc k) verdict at) in
      let first : cond {A = ℕ} (counts_as answer) 1 0 ≡ 0 = ap (λ b. cond {A = ℕ} b 1 0) (not-counted answer (λ verdict is. each 0 verdict (ap Some is))) in
      let count = count-cons counts_as answer answers in
      omega arith

-- gaps have no verdict
gap-verdicts : (first width n : ℕ) (answers : List Applied) (fates after : Fates) → Leads first width fates (replicate n gap) answers after → EachVerdict SaysKept answers
gap-verdicts first width zero answers fates after leads k verdict at =
    let there : slice_get [] k ≡ Some (Arrival verdict) = ap (λ l. slice_get l k) (sym leads.0) ∙ at in
    absurd cc
gap-verdicts first width (suc n) answers fates after (x, answer, rest, between, expected, changes, leads, are) zero verdict at =
    let is : answer ≡ Arrival verdict = same_Some answer (Arrival verdict) (ap (λ l. slice_get l 0) (sym are) ∙ at) in
    absurd (subst (λ a. Changes first width x gap a fates between) is changes)
gap-verdicts first width (suc n) answers fates after (x, answer, rest, between, expected, changes, leads, are) (suc k) verdict at =
    gap-verdicts first width n rest between after leads k verdict (ap (λ l. slice_get l (suc k)) (sym are) ∙ at)

-- a segment that arrives
abbrev pub arrives_one : FlowEvent → Bool
arrives_one (arrives segment) = true
arrives_one gap = false
arrives_one (gap_to number) = false
arrives_one (skip_to number) = false

-- one that is kept has that answer, and nothing else has it
one-kept : (first width x : ℕ) (event : FlowEvent) (answer : Applied) (fates after : Fates) → Changes first width x event answer fates after
    → ((verdict : Verdict Segment) → answer ≡ Arrival verdict → SaysKept verdict) → says_kept answer ≡ arrives_one event
one-kept first width x (arrives segment) (Arrival verdict) fates after changes each = ap (λ v. says_kept (Arrival v)) (each verdict refl)
one-kept first width x (arrives segment) (Decision declared) fates after changes each = absurd changes
one-kept first width x (arrives segment) (DecisionTo any) fates after changes each = absurd changes
one-kept first width x (arrives segment) (DecisionSkip any) fates after changes each = absurd changes
one-kept first width x gap (Arrival verdict) fates after changes each = absurd changes
one-kept first width x gap (Decision declared) fates after changes each = refl
one-kept first width x gap (DecisionTo any) fates after changes each = absurd changes
one-kept first width x gap (DecisionSkip any) fates after changes each = absurd changes
one-kept first width x (gap_to number) (Arrival verdict) fates after changes each = absurd changes
one-kept first width x (gap_to number) (Decision declared) fates after changes each = absurd changes
one-kept first width x (gap_to number) (DecisionTo any) fates after changes each = refl
one-kept first width x (gap_to number) (DecisionSkip any) fates after changes each = absurd changes
one-kept first width x (skip_to number) (Arrival verdict) fates after changes each = absurd changes
one-kept first width x (skip_to number) (Decision declared) fates after changes each = absurd changes
one-kept first width x (skip_to number) (DecisionTo any) fates after changes each = absurd changes
one-kept first width x (skip_to number) (DecisionSkip any) fates after changes each = refl

-- so as many are kept as arrive
kept-arrivals : (first width : ℕ) (events : List FlowEvent) (answers : List Applied) (fates after : Fates) → Leads first width fates events answers after
    → EachVerdict SaysKept answers → count_by says_kept answers ≡ count_by arrives_one events
kept-arrivals first width [] answers fates after leads each = ap (count_by says_kept) leads.0
kept-arrivals first width (event ∷ events) answers fates after (x, answer, rest, between, expected, changes, leads, are) each =
    let more : EachVerdict SaysKept (answer ∷ rest) = subst (EachVerdict SaysKept) are each in
    let first_one = one-kept first width x event answer fates between changes (λ verdict is. more 0 verdict (ap Some is)) in
    let others = kept-arrivals first width events rest between after leads (λ k verdict at. more (suc k) verdict at) in
    ap (count_by says_kept) are ∙ count-cons says_kept answer rest ∙ ap (λ b. cond {A = ℕ} b 1 0 + count_by says_kept rest) first_one
    ∙ ap (λ n. cond {A = ℕ} (arrives_one event) 1 0 + n) others ∙ sym (count-cons arrives_one event events)

-- events of two lists in turn
count-in_turn : {X : Type 0} (p : X → Bool) (front back : List X) → count_by p (front ++ back) ≡ count_by p front + count_by p back
count-in_turn p front back = sum_by-append (λ x. cond {A = ℕ} (p x) 1 0) front back

-- gaps bring none
gap-arrivals : (n : ℕ) → count_by arrives_one (replicate n gap) ≡ 0
gap-arrivals zero = refl
gap-arrivals (suc n) = let count = count-cons arrives_one gap (replicate n gap) in let rest = gap-arrivals n in omega arith

-- nor does what is skipped to what every channel has passed, or so that the window slides
passing-arrivals : (flow : RuledFlow) (lasts : Lasts) (x : ℕ) (skips : List FlowEvent) → IsPassing flow lasts x skips → count_by arrives_one skips ≡ 0
passing-arrivals flow lasts x skips (inl p) = ap (count_by arrives_one) p.2
passing-arrivals flow lasts x skips (inr p) = ap (count_by arrives_one) p.1

sliding-arrivals : (flow : RuledFlow) (x number : ℕ) (skips : List FlowEvent) → IsSliding flow x number skips → count_by arrives_one skips ≡ 0
sliding-arrivals flow x number skips (inl p) = ap (count_by arrives_one) p.3
sliding-arrivals flow x number skips (inr p) = ap (count_by arrives_one) p.1

skip-arrivals : (rule : LossRule) (flow : RuledFlow) (noted : Lasts) (fates : Fates) (number : ℕ) (skips : List FlowEvent)
    → AreSkips rule flow noted fates number skips → count_by arrives_one skips ≡ 0
skip-arrivals Decided flow noted fates number skips are = ap (count_by arrives_one) are
skip-arrivals Passed flow noted fates number skips are = passing-arrivals flow noted are.0 skips are.2
skip-arrivals PassedOrSlid flow noted fates number skips (x, y, passing, sliding, answers, between, expected, passes, leads, expects, slides, are) =
    let front = passing-arrivals flow noted x passing passes in
    let back = sliding-arrivals flow y number sliding slides in
    let both = ap (count_by arrives_one) are ∙ count-in_turn arrives_one passing sliding in
    omega arith

-- so of what comes each segment arrives, and nothing else
one-arrives : (rule : LossRule) (flow : RuledFlow) (lasts noted : Lasts) (fates : Fates) (coming : Coming) (own : List FlowEvent)
    → ((segment : Segment) → coming ≡ handed_in (arrives segment) → ⊥) → IsRuled rule flow lasts fates coming own noted
    → count_by arrives_one own ≡ cond {A = ℕ} (is_segment coming) 1 0
one-arrives rule flow lasts noted fates (handed_in (arrives segment)) own decides ruled = absurd (decides segment refl)
one-arrives rule flow lasts noted fates (handed_in gap) own decides ruled = ap (count_by arrives_one) ruled.0
one-arrives rule flow lasts noted fates (handed_in (gap_to number)) own decides ruled = ap (count_by arrives_one) ruled.0
one-arrives rule flow lasts noted fates (handed_in (skip_to number)) own decides ruled = ap (count_by arrives_one) ruled.0
one-arrives rule flow lasts noted fates (on_channel channel segment) own decides (x, skips, expected, notes, are, is) =
    let none = skip-arrivals rule flow noted fates segment.head.sequence skips are in
    ap (count_by arrives_one) is ∙ count-in_turn arrives_one skips (arrives segment ∷ []) ∙ ap (λ n. n + 1) none

pub segments-arrive : (rule : LossRule) (flow : RuledFlow) (lasts noted : Lasts) (fates after : Fates) (comings : List Coming) (events : List FlowEvent)
    → HandInDecisions comings → Rules rule flow lasts fates comings events noted after → count_by arrives_one events ≡ segment_count comings
segments-arrive rule flow lasts noted fates after [] events decide rules = ap (count_by arrives_one) rules.0
segments-arrive rule flow lasts noted fates after (coming ∷ comings) events decide (own, rest, answers, between_lasts, between, ruled, leads, rules, are) =
    let here = one-arrives rule flow lasts between_lasts fates coming own (λ segment is. decide 0 segment (ap Some is)) ruled in
    let there = segments-arrive rule flow between_lasts noted between after comings rest (λ p segment at. decide (suc p) segment at) rules in
    ap (count_by arrives_one) are ∙ count-in_turn arrives_one own rest ∙ ap (λ n. n + count_by arrives_one rest) here
    ∙ ap (λ n. cond {A = ℕ} (is_segment coming) 1 0 + n) there ∙ sym (count-cons is_segment coming comings)

-- so of a flow that is closed by gaps
pub all-counted : (check : List ℕ → Bool) (r : FlowRecord) (events : List FlowEvent) (n : ℕ) (frames : List (List ℕ)) (counts : FlowCounts) (answers : List Applied) (fates : Fates)
    → IsAfter r.first r.window events answers fates → EachVerdict SaysKept answers → (outcome : IsFlowOutcome check r (events ++ replicate n gap) frames counts)
    → (counts.kept ≡ counted (count_by arrives_one events)) × (counts.late ≡ 0) × (counts.repeat ≡ 0) × (counts.beyond ≡ 0)
all-counted check r events n frames counts answers fates is each outcome =
    let s = leads-split r.first r.window events (replicate n gap) outcome.answers no_fates outcome.fates outcome.after in
    let same = (after-once r.first r.window events answers s.0 fates s.2 is s.3).0 in
    let gaps = gap-verdicts r.first r.window n s.1 s.2 outcome.fates s.4 in
    let all : EachVerdict SaysKept outcome.answers =
    subst (EachVerdict SaysKept) (sym s.5) (verdicts-in_turn SaysKept s.0 s.1 (subst (EachVerdict SaysKept) same each) gaps) in
    let arrived = kept-arrivals r.first r.window (events ++ replicate n gap) outcome.answers no_fates outcome.fates outcome.after all
    ∙ count-in_turn arrives_one events (replicate n gap) in
    let gap_count = gap-arrivals n in (
      outcome.counted.kept ∙ ap counted (omega arith),
      outcome.counted.late ∙ ap counted (none-counted says_late refl (λ answer. refl) (λ any. refl) (λ any. refl) outcome.answers all),
      outcome.counted.repeat ∙ ap counted (none-counted says_repeat refl (λ answer. refl) (λ any. refl) (λ any. refl) outcome.answers all),
      outcome.counted.beyond ∙ ap counted (none-counted says_beyond refl (λ answer. refl) (λ any. refl) (λ any. refl) outcome.answers all),
    )
