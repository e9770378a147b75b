-- What is decided of a flow to which no segment came changes nothing, if nothing is skipped.
use Rattle.std.proofs.Common.{◌≡◌, ℕ, zero, suc, inl, inr, Bool, false, cond, Option, List, [], ◌∷◌, ◌++◌, replicate, refl, ap, sym, subst, ◌∙◌, arith, count_by}
use Rattle.std.proofs.lemmas.List.Sums.{sum_by-cons}
use Rattle.std.proofs.lemmas.Option.{slice_get_within}
use Rattle.std.specs.Cmp.{nat_cmp_total}
use Rattle.std.specs.Ordering.{nat_cmp}
use Rattle.std.specs.FinMap.{nat_cmp-IsAntisymmetric}
use Rattle.std.specs.FinMap as map
use Rattle.docsis_wire.specs.declared.segment.Segment.{Segment}
use Rattle.reorder.specs.declared.verdict.Declared.{Declared}
use Rattle.flow_records.specs.Counted.{counted}
use Rattle.flow_records.specs.declared.record.FlowRecord.{FlowRecord}
use Rattle.flow_core.specs.declared.flow.Flow.{Flow}
use Rattle.flow_core.specs.declared.counts.FlowCounts.{FlowCounts}
use Rattle.flow_core.specs.declared.event.Applied.{Applied}
use Rattle.flow_core.specs.declared.event.Applied.TheVariants.{Arrival, Decision, DecisionTo, DecisionSkip}
use Rattle.flow_core.specs.Fates.{Fates, no_fates, IsKept, IsExpected}
use Rattle.flow_core.specs.Events.{FlowEvent, arrives, gap, gap_to, skip_to, Leads, IsAfter}
use Rattle.flow_core.specs.Closing.{IsClosed, HaveNoArrival, HaveNoSkip}
use Rattle.flow_core.specs.Counts.{says_kept, says_late, says_repeat, says_beyond, no_counts, AreCounts}
use Rattle.flow_core.specs.Outcome.{IsFlowOutcome}
use Rattle.flow_core.specs.Stands.{StandsFor}
use Rattle.flow_core.proofs.OneFates.{after-exists}
use Rattle.flow_core.proofs.Windows.{some-none}
use Rattle.flow_core.proofs.FlowCounting.{counts-new}
use Rattle.flow_core.proofs.Turns.{in_either, gaps-no_arrival}
use Rattle.flow_core.proofs.Closing.{gap-cases}

-- nothing is kept before anything came
nothing-kept : (i : ℕ) → IsKept no_fates i → ⊥
nothing-kept i kept = some-none _ (sym kept.1 ∙ map.get-empty nat_cmp i)

-- and the first index is expected
first-expected : IsExpected no_fates 0
first-expected = record { open_itself = map.get-empty nat_cmp 0; settled = λ i below. absurd (omega arith) }

-- a kind of answer that none to a gap is
abbrev pub IsOfNoGap : (Applied → Bool) → Type 0
IsOfNoGap p = ((declared : Declared) → p (Decision declared) ≡ false) × ((any : Bool) → p (DecisionTo any) ≡ false)

none-more : (p : Applied → Bool) (answer : Applied) (rest answers : List Applied) → answers ≡ answer ∷ rest → p answer ≡ false → count_by p rest ≡ 0 → count_by p answers ≡ 0
none-more p answer rest answers are not_so none =
    let head = sum_by-cons (λ a. cond {A = ℕ} (p a) 1 0) answer rest in
    let zero_here : cond {A = ℕ} (p answer) 1 0 ≡ 0 = ap (λ b. cond {A = ℕ} b 1 0) not_so in
    let whole = ap (count_by p) are in
    omega arith

-- gaps of a flow to which no segment came lose nothing
pub gaps-nothing : (first width : ℕ) (events : List FlowEvent) (answers : List Applied) (fates : Fates) → IsAfter first width events answers fates
    → HaveNoArrival events → HaveNoSkip events → (fates ≡ no_fates) × ((p : Applied → Bool) → IsOfNoGap p → count_by p answers ≡ 0)
gaps-nothing first width [] answers fates leads unarrived unskipped = (leads.1, λ p not_so. ap (count_by p) leads.0)
gaps-nothing first width (arrives segment ∷ events) answers fates leads unarrived unskipped = absurd (unarrived [] events segment refl)
gaps-nothing first width (skip_to number ∷ events) answers fates leads unarrived unskipped = absurd (unskipped [] events number refl)
gaps-nothing first width (gap ∷ events) answers fates (x, Arrival verdict, rest, between, expected, changes, leads, are) unarrived unskipped = absurd changes
gaps-nothing first width (gap ∷ events) answers fates (x, DecisionTo any, rest, between, expected, changes, leads, are) unarrived unskipped = absurd changes
gaps-nothing first width (gap ∷ events) answers fates (x, DecisionSkip any, rest, between, expected, changes, leads, are) unarrived unskipped = absurd changes
gaps-nothing first width (gap ∷ events) answers fates (x, Decision declared, rest, between, expected, changes, leads, are) unarrived unskipped =
    let same : between ≡ no_fates = elim (gap-cases first width x (Decision declared) no_fates between changes) [
      | inl lost ↦ absurd (nothing-kept lost.0.0 lost.0.2)
      | inr none ↦ none.1
    ] in
    let more = gaps-nothing first width events rest fates (subst (λ (f : Fates). Leads first width f events rest fates) same leads)
    (λ before behind segment e. unarrived (gap ∷ before) behind segment (ap (λ t. gap ∷ t) e))
    (λ before behind number e. unskipped (gap ∷ before) behind number (ap (λ t. gap ∷ t) e)) in
    (more.0, λ p not_so. none-more p (Decision declared) rest answers are (not_so.0 declared) (more.1 p not_so))
gaps-nothing first width (gap_to number ∷ events) answers fates (x, Arrival verdict, rest, between, expected, changes, leads, are) unarrived unskipped = absurd changes
gaps-nothing first width (gap_to number ∷ events) answers fates (x, Decision declared, rest, between, expected, changes, leads, are) unarrived unskipped = absurd changes
gaps-nothing first width (gap_to number ∷ events) answers fates (x, DecisionSkip any, rest, between, expected, changes, leads, are) unarrived unskipped = absurd changes
gaps-nothing first width (gap_to number ∷ events) answers fates (x, DecisionTo any, rest, between, expected, changes, leads, are) unarrived unskipped =
    let same : between ≡ no_fates = map.same_map nat_cmp_total nat_cmp-IsAntisymmetric between no_fates
    (λ i. changes.others i (λ p. nothing-kept p.later_kept.0 p.later_kept.2)) in
    let more = gaps-nothing first width events rest fates (subst (λ (f : Fates). Leads first width f events rest fates) same leads)
    (λ before behind segment e. unarrived (gap_to number ∷ before) behind segment (ap (λ t. gap_to number ∷ t) e))
    (λ before behind other e. unskipped (gap_to number ∷ before) behind other (ap (λ t. gap_to number ∷ t) e)) in
    (more.0, λ p not_so. none-more p (DecisionTo any) rest answers are (not_so.1 any) (more.1 p not_so))

-- so they count nothing
counts-stay : (answers : List Applied) (settled : List (Option Segment)) (given : List (List ℕ)) (unfinished : List ℕ) (counts : FlowCounts)
    → ((p : Applied → Bool) → IsOfNoGap p → count_by p answers ≡ 0) → AreCounts [] settled given unfinished counts → AreCounts answers settled given unfinished counts
counts-stay answers settled given unfinished counts none are =
    record {
      kept = are.kept ∙ ap counted (sym (none says_kept (λ _. refl, λ _. refl)));
      late = are.late ∙ ap counted (sym (none says_late (λ _. refl, λ _. refl)));
      repeat = are.repeat ∙ ap counted (sym (none says_repeat (λ _. refl, λ _. refl)));
      beyond = are.beyond ∙ ap counted (sym (none says_beyond (λ _. refl, λ _. refl)));
      lost = are.lost;
      frames = are.frames;
      skipped_bytes = are.skipped_bytes;
      balance = are.balance;
      skipped = are.skipped;
    }

-- and a new flow stands for them
pub stands-empty : (check : List ℕ → Bool) (flow_record : FlowRecord) (flow : Flow) (events : List FlowEvent) (answers : List Applied) (fates : Fates)
    → StandsFor check flow_record flow [] [] 0 [] → IsAfter flow_record.first flow_record.window events answers fates → HaveNoArrival events → HaveNoSkip events
    → StandsFor check flow_record flow events answers 0 []
stands-empty check flow_record flow events answers fates s after unarrived unskipped =
    let is = gaps-nothing flow_record.first flow_record.window events answers fates after unarrived unskipped in
    record {
      fates = s.fates;
      after = subst (λ (f : Fates). IsAfter flow_record.first flow_record.window events answers f) (is.0 ∙ sym s.after.1) after;
      x = s.x;
      expected = s.expected;
      come_to = s.come_to;
      window = s.window;
      remembered = s.remembered;
      settled = s.settled;
      below = s.below;
      joined = s.joined;
      counts = counts-stay answers s.settled [] flow.joiner flow.counts is.1 s.counts;
    }

-- gaps skip nothing
gaps-no_skip : (n : ℕ) → HaveNoSkip (replicate n gap)
gaps-no_skip zero [] behind number e = absurd cc
gaps-no_skip zero (b ∷ before) behind number e = absurd cc
gaps-no_skip (suc n) [] behind number e = let wrong : gap ≡ skip_to number = cc in absurd cc
gaps-no_skip (suc n) (b ∷ before) behind number e = gaps-no_skip n before behind number cc

-- what they give, with any gaps after them, is nothing, and the flow is closed
pub outcome-empty : (check : List ℕ → Bool) (flow_record : FlowRecord) (events : List FlowEvent) (n : ℕ) → HaveNoArrival events → HaveNoSkip events
    → (outcome : IsFlowOutcome check flow_record (events ++ replicate n gap) [] no_counts) × IsClosed outcome.fates
outcome-empty check flow_record events n unarrived unskipped =
    let first = flow_record.first in
    let width = flow_record.window in
    let found = after-exists first width (events ++ replicate n gap) in
    let is = gaps-nothing first width (events ++ replicate n gap) found.0 found.1 found.3
    (λ before behind segment e. elim (in_either events (replicate n gap) before behind (arrives segment) e) [
      | inl h ↦ unarrived before h.0 segment h.1
      | inr h ↦ gaps-no_arrival n h.0 behind segment h.1
    ])
    (λ before behind number e. elim (in_either events (replicate n gap) before behind (skip_to number) e) [
      | inl h ↦ unskipped before h.0 number h.1
      | inr h ↦ gaps-no_skip n h.0 behind number h.1
    ]) in (
      record {
        answers = found.0;
        fates = no_fates;
        after = subst (λ (f : Fates). IsAfter first width (events ++ replicate n gap) found.0 f) is.0 found.3;
        x = 0;
        expected = first-expected;
        settled = [];
        below = record { size = refl; each = λ i fate has. absurd (let within = slice_get_within [] i fate has in omega arith) };
        unfinished = [];
        joined = (refl, refl);
        counted = counts-stay found.0 [] [] [] no_counts is.1 (counts-new [] refl);
      },
      (0, first-expected, λ later_kept. nothing-kept later_kept.0 later_kept.2),
    )
