-- What a flow gives by the definitions: it is one thing, a drained flow has it, and of near events
-- it is the delivery sequence.
use Rattle.std.proofs.Common.{◌≡◌, ℕ, zero, suc, ◌<◌, Bool, false, cond, Option, List, [], ◌++◌, length, get_or, replicate, refl, ap, sym, subst, ◌∙◌, arith, count_by}
use Rattle.std.proofs.lemmas.List.{same_lists}
use Rattle.std.proofs.lemmas.Option.{slice_get-get_or}
use Rattle.docsis_wire.specs.declared.segment.Segment.{Segment}
use Rattle.docsis_wire.specs.Cut.{IsLawfulCut}
use Rattle.ccf.specs.Join.{Joins}
use Rattle.flow_records.specs.declared.record.FlowRecord.{FlowRecord}
use Rattle.flow_core.specs.declared.flow.Flow.{Flow}
use Rattle.flow_core.specs.declared.counts.FlowCounts.{FlowCounts}
use Rattle.flow_core.specs.declared.event.Applied.{Applied}
use Rattle.flow_core.specs.Fates.{Fates, no_fates, IsExpected, IsSettledBelow}
use Rattle.reorder.specs.declared.verdict.Declared.{Declared}
use Rattle.flow_core.specs.declared.event.Applied.TheVariants.{Arrival, Decision, DecisionTo, DecisionSkip}
use Rattle.flow_core.specs.Events.{FlowEvent, gap, Leads}
use Rattle.flow_core.specs.Closing.{IsClosed}
use Rattle.flow_core.specs.Near.{AreNear}
use Rattle.flow_records.specs.Counted.{counted}
use Rattle.flow_core.specs.Counts.{says_kept, says_late, says_repeat, says_beyond, AreCounts}
use Rattle.flow_core.specs.Stands.{StandsFor, IsDrained}
use Rattle.flow_core.specs.Outcome.{IsFlowOutcome}
use Rattle.flow_core.proofs.Outcome.{expected-unique}
use Rattle.flow_core.proofs.OneFates.{after-once}
use Rattle.flow_core.proofs.Nearness.{AreOfIndex, numbered_of_cut, of_index-after}
use Rattle.flow_core.proofs.Giving.{expected_of_drained}
use Rattle.flow_core.proofs.Closing.{only-close}
use Rattle.flow_core.proofs.Turns.{leads-split}
use Rattle.std.proofs.lemmas.List.Sums.{sum_by-cons, sum_by-append}

-- what is settled below an index is one list
settled-once : (fates : Fates) (n : ℕ) (settled others : List (Option Segment)) → IsSettledBelow fates n settled → IsSettledBelow fates n others → settled ≡ others
settled-once fates n settled others p q =
    same_lists settled others (p.size ∙ sym q.size) (λ k d within.
    let size = p.size in
    let other_size = q.size in
    let within_others : k < length others = omega arith in
    let here = p.each k (get_or settled k d) (slice_get-get_or settled k d within) in
    let there = q.each k (get_or others k d) (slice_get-get_or others k d within_others) in
    cc)

-- counts of the same are the same
counts-once : (answers : List Applied) (settled : List (Option Segment)) (given : List (List ℕ)) (unfinished : List ℕ) (counts others : FlowCounts)
    → AreCounts answers settled given unfinished counts → AreCounts answers settled given unfinished others → counts ≡ others
counts-once answers settled given unfinished counts others p q =
    let skipped : p.skipped_bytes ≡ q.skipped_bytes = omega (arith, p.balance, q.balance) in
    let kept : counts.kept ≡ others.kept = p.kept ∙ sym q.kept in
    let late : counts.late ≡ others.late = p.late ∙ sym q.late in
    let repeat : counts.repeat ≡ others.repeat = p.repeat ∙ sym q.repeat in
    let beyond : counts.beyond ≡ others.beyond = p.beyond ∙ sym q.beyond in
    let lost : counts.lost ≡ others.lost = p.lost ∙ sym q.lost in
    let frames : counts.frames ≡ others.frames = p.frames ∙ sym q.frames in
    let skips : counts.skipped ≡ others.skipped = p.skipped ∙ ap counted skipped ∙ sym q.skipped in
    ap (λ n. record counts { kept = n }) kept
    ∙ ap (λ n. record counts { kept = others.kept; late = n }) late
    ∙ ap (λ n. record counts { kept = others.kept; late = others.late; repeat = n }) repeat
    ∙ ap (λ n. record counts { kept = others.kept; late = others.late; repeat = others.repeat; beyond = n }) beyond
    ∙ ap (λ n. record others { lost = n; frames = counts.frames; skipped = counts.skipped }) lost
    ∙ ap (λ n. record others { frames = n; skipped = counts.skipped }) frames
    ∙ ap (λ n. record others { skipped = n }) skips

pub one-outcome : (check : List ℕ → Bool) (flow_record : FlowRecord) (events : List FlowEvent) (frames others : List (List ℕ)) (counts more : FlowCounts)
    → ((before : List ℕ) (settled : List (Option Segment)) (joined again : List (List ℕ)) (after rest : List ℕ)
    → Joins check before settled joined after → Joins check before settled again rest → (joined ≡ again) × (after ≡ rest))
    → IsFlowOutcome check flow_record events frames counts → IsFlowOutcome check flow_record events others more → (frames ≡ others) × (counts ≡ more)
one-outcome check flow_record events frames others counts more joining p q =
    let same = after-once flow_record.first flow_record.window events p.answers q.answers p.fates q.fates p.after q.after in
    let at = expected-unique q.fates p.x q.x (subst (λ (f : Fates). IsExpected f p.x) same.1 p.expected) q.expected in
    let below : IsSettledBelow q.fates q.x p.settled = subst (λ k. IsSettledBelow q.fates k p.settled) at (subst (λ (f : Fates). IsSettledBelow f p.x p.settled) same.1 p.below) in
    let settled = settled-once q.fates q.x p.settled q.settled below q.below in
    let joined = joining [] q.settled frames others p.unfinished q.unfinished (subst (λ s. Joins check [] s frames p.unfinished) settled p.joined) q.joined in
    let counted : AreCounts q.answers q.settled others q.unfinished counts =
    subst (λ u. AreCounts q.answers q.settled others u counts) joined.1
    (subst (λ g. AreCounts q.answers q.settled g p.unfinished counts) joined.0
    (subst (λ s. AreCounts q.answers s frames p.unfinished counts) settled (subst (λ a. AreCounts a p.settled frames p.unfinished counts) same.0 p.counted))) in
    (joined.0, counts-once q.answers q.settled others q.unfinished counts more counted q.counted)

-- a drained flow gave what the definitions say
pub drained-outcome : (check : List ℕ → Bool) (flow_record : FlowRecord) (flow : Flow) (events : List FlowEvent) (answers : List Applied) (y : ℕ) (given : List (List ℕ))
    → StandsFor check flow_record flow events answers y given → IsDrained flow → IsFlowOutcome check flow_record events given flow.counts
drained-outcome check flow_record flow events answers y given s drained =
    record {
      answers = answers;
      fates = s.fates;
      after = s.after;
      x = y;
      expected = expected_of_drained check flow_record flow events answers y given s drained;
      settled = s.settled;
      below = s.below;
      unfinished = flow.joiner;
      joined = s.joined;
      counted = s.counts;
    }

-- what near events keep is of the cut
pub outcome-of_cut : (check : List ℕ → Bool) (flow_record : FlowRecord) (events : List FlowEvent) (given : List (List ℕ)) (counts : FlowCounts)
    (frames chunks : List (List ℕ)) (fill : ℕ) (segments : List Segment)
    → IsLawfulCut check frames flow_record.first fill chunks segments → AreNear flow_record.first flow_record.window segments events
    → (o : IsFlowOutcome check flow_record events given counts) → AreOfIndex segments o.fates
outcome-of_cut check flow_record events given counts frames chunks fill segments cut near o =
    of_index-after flow_record.first flow_record.window segments events o.answers o.fates
    (numbered_of_cut check frames chunks flow_record.first fill segments cut)
    (λ before behind segment so_far fates x e is expected _. near before behind segment so_far fates x e is expected) o.after

-- among the answers to gaps there is none of a kind that no decision is
gaps-none : (p : Applied → Bool) → ((declared : Declared) → p (Decision declared) ≡ false) → (first width n : ℕ) (answers : List Applied) (fates after : Fates)
    → Leads first width fates (replicate n gap) answers after → count_by p answers ≡ 0
gaps-none p not_so first width zero answers fates after leads = ap (count_by p) leads.0
gaps-none p not_so first width (suc n) answers fates after (x, Arrival verdict, rest, between, expected, changes, leads, are) = absurd changes
gaps-none p not_so first width (suc n) answers fates after (x, Decision declared, rest, between, expected, changes, leads, are) =
    let none : cond {A = ℕ} (p (Decision declared)) 1 0 ≡ 0 = ap (λ b. cond {A = ℕ} b 1 0) (not_so declared) in
    let head = sum_by-cons (λ a. cond {A = ℕ} (p a) 1 0) (Decision declared) rest in
    let tail = gaps-none p not_so first width n rest between after leads in
    let whole = ap (count_by p) are in
    omega arith
gaps-none p not_so first width (suc n) answers fates after (x, DecisionTo declared, rest, between, expected, changes, leads, are) = absurd changes
gaps-none p not_so first width (suc n) answers fates after (x, DecisionSkip skipped, rest, between, expected, changes, leads, are) = absurd changes

-- so gaps at the end add none
gaps-add_none : (p : Applied → Bool) → ((declared : Declared) → p (Decision declared) ≡ false) → (first width n : ℕ) (answers front back : List Applied) (fates after : Fates)
    → answers ≡ front ++ back → Leads first width fates (replicate n gap) back after → count_by p answers ≡ count_by p front
gaps-add_none p not_so first width n answers front back fates after are leads =
    let none = gaps-none p not_so first width n back fates after leads in
    let both = sum_by-append (λ a. cond {A = ℕ} (p a) 1 0) front back in
    let whole = ap (count_by p) are in
    omega arith

-- however many gaps close a flow, it has then given the same
pub closed-outcome : (check : List ℕ → Bool) (flow_record : FlowRecord) (n m : ℕ) (events : List FlowEvent) (frames others : List (List ℕ)) (counts more : FlowCounts)
    → ((before : List ℕ) (settled : List (Option Segment)) (joined again : List (List ℕ)) (after rest : List ℕ)
    → Joins check before settled joined after → Joins check before settled again rest → (joined ≡ again) × (after ≡ rest))
    → (one : IsFlowOutcome check flow_record (events ++ replicate n gap) frames counts)
    → (other : IsFlowOutcome check flow_record (events ++ replicate m gap) others more)
    → IsClosed one.fates → IsClosed other.fates → (frames ≡ others) × (counts ≡ more)
closed-outcome check flow_record n m events frames others counts more joining p q closed closed' =
    let first = flow_record.first in
    let width = flow_record.window in
    let s = leads-split first width events (replicate n gap) p.answers no_fates p.fates p.after in
    let t = leads-split first width events (replicate m gap) q.answers no_fates q.fates q.after in
    let same = after-once first width events s.0 t.0 s.2 t.2 s.3 t.3 in
    let ended : Leads first width s.2 (replicate m gap) t.1 q.fates = subst (λ (f : Fates). Leads first width f (replicate m gap) t.1 q.fates) (sym same.1) t.4 in
    let fates = only-close first width s.2 p.fates q.fates (n, s.1, s.4, closed) (m, t.1, ended, closed') in
    let at = expected-unique q.fates p.x q.x (subst (λ (f : Fates). IsExpected f p.x) fates p.expected) q.expected in
    let below : IsSettledBelow q.fates q.x p.settled = subst (λ k. IsSettledBelow q.fates k p.settled) at (subst (λ (f : Fates). IsSettledBelow f p.x p.settled) fates p.below) in
    let settled = settled-once q.fates q.x p.settled q.settled below q.below in
    let joined = joining [] q.settled frames others p.unfinished q.unfinished (subst (λ s. Joins check [] s frames p.unfinished) settled p.joined) q.joined in
    let c : AreCounts p.answers q.settled others q.unfinished counts =
    subst (λ u. AreCounts p.answers q.settled others u counts) joined.1
    (subst (λ g. AreCounts p.answers q.settled g p.unfinished counts) joined.0
    (subst (λ s. AreCounts p.answers s frames p.unfinished counts) settled p.counted)) in
    let as_many : (says : Applied → Bool) → ((declared : Declared) → says (Decision declared) ≡ false) → count_by says p.answers ≡ count_by says q.answers =
    λ says not_so. gaps-add_none says not_so first width n p.answers s.0 s.1 s.2 p.fates s.5 s.4 ∙ ap (count_by says) same.0
    ∙ sym (gaps-add_none says not_so first width m q.answers t.0 t.1 t.2 q.fates t.5 t.4) in
    let counted_same : AreCounts q.answers q.settled others q.unfinished counts = record {
      kept = c.kept ∙ ap counted (as_many says_kept (λ _. refl));
      late = c.late ∙ ap counted (as_many says_late (λ _. refl));
      repeat = c.repeat ∙ ap counted (as_many says_repeat (λ _. refl));
      beyond = c.beyond ∙ ap counted (as_many says_beyond (λ _. refl));
      lost = c.lost;
      frames = c.frames;
      skipped_bytes = c.skipped_bytes;
      balance = c.balance;
      skipped = c.skipped;
    } in
    (joined.0, counts-once q.answers q.settled others q.unfinished counts more counted_same q.counted)
