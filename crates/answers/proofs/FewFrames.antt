-- A flow gives no more frames than the segments that arrive have room for.
use Rattle.std.proofs.Common.{◌≡◌, ℕ, zero, suc, ◌*◌, ◌≤◌, Bool, true, false, cond, Option, Some, None, List, [], ◌∷◌, ◌++◌, length, replicate, count_by, sum_by, is_some, refl, ap, arith}
use Rattle.std.specs.List.{AllByRecursion}
use Rattle.std.proofs.lemmas.List.Sums.{sum_by-cons, sum_by-append}
use Rattle.docsis_wire.specs.declared.segment.Segment.{Segment}
use Rattle.flow_records.specs.declared.record.FlowRecord.{FlowRecord}
use Rattle.flow_core.specs.declared.counts.FlowCounts.{FlowCounts}
use Rattle.flow_core.specs.declared.event.Applied.{Applied}
use Rattle.flow_core.specs.declared.event.Applied.TheVariants.{Arrival, Decision, DecisionTo, DecisionSkip}
use Rattle.flow_core.specs.Fates.{Fates, no_fates}
use Rattle.flow_core.specs.Events.{FlowEvent, arrives, gap, gap_to, skip_to, Changes, Leads}
use Rattle.flow_core.specs.Counts.{says_kept, payload_bytes}
use Rattle.flow_core.specs.Outcome.{IsFlowOutcome}
use Rattle.receiver.specs.Outcome.{GivesAtItsClose}
use Rattle.receiver.proofs.KeptSegments.{kept-joined-held}
use Rattle.receiver.proofs.MergedLists.{count-cons}
use Rattle.receiver.proofs.RuledCounts.{arrives_one}
use Rattle.answers.specs.Bytes.{IsLostOrCarries, Brings}
use Rattle.answers.proofs.Everywhere.{all_append}
use Rattle.answers.proofs.Sizes.{few-frames}
use Rattle.answers.proofs.Keeping.{none_kept, kept-leads, settled-carries}

-- no longer than a grant
abbrev pub IsShort : List ℕ → Type 0
IsShort payload = length payload ≤ 65535

-- what is settled has no more bytes than so many such segments
sum-short : (settled : List (Option Segment)) → AllByRecursion (IsLostOrCarries IsShort) settled → sum_by payload_bytes settled ≤ 65535 * count_by is_some settled
sum-short [] short = omega arith
sum-short (None ∷ settled) short =
    omega (arith, sum_by-cons payload_bytes None settled, count-cons (λ (fate : Option Segment). is_some fate) None settled, sum-short settled short.1)
sum-short (Some segment ∷ settled) short =
    omega (arith, sum_by-cons payload_bytes (Some segment) settled, count-cons (λ (fate : Option Segment). is_some fate) (Some segment) settled, sum-short settled short.1, short.0)

-- a test counts one at most
one_most : (b : Bool) → cond {A = ℕ} b 1 0 ≤ 1
one_most true = omega arith
one_most false = omega arith

-- only a segment that arrives is kept
one-kept : (first width x : ℕ) (event : FlowEvent) (answer : Applied) (fates after : Fates) → Changes first width x event answer fates after
    → cond {A = ℕ} (says_kept answer) 1 0 ≤ cond {A = ℕ} (arrives_one event) 1 0
one-kept first width x (arrives segment) answer fates after changes = one_most (says_kept answer)
one-kept first width x gap (Arrival verdict) fates after changes = absurd changes
one-kept first width x gap (Decision declared) fates after changes = omega arith
one-kept first width x gap (DecisionTo declared) fates after changes = omega arith
one-kept first width x gap (DecisionSkip skipped) fates after changes = omega arith
one-kept first width x (gap_to number) (Arrival verdict) fates after changes = absurd changes
one-kept first width x (gap_to number) (Decision declared) fates after changes = omega arith
one-kept first width x (gap_to number) (DecisionTo declared) fates after changes = omega arith
one-kept first width x (gap_to number) (DecisionSkip skipped) fates after changes = omega arith
one-kept first width x (skip_to number) (Arrival verdict) fates after changes = absurd changes
one-kept first width x (skip_to number) (Decision declared) fates after changes = omega arith
one-kept first width x (skip_to number) (DecisionTo declared) fates after changes = omega arith
one-kept first width x (skip_to number) (DecisionSkip skipped) fates after changes = omega arith

kept-arrive : (first width : ℕ) (events : List FlowEvent) (answers : List Applied) (fates after : Fates) → Leads first width fates events answers after
    → count_by says_kept answers ≤ count_by arrives_one events
kept-arrive first width [] answers fates after leads = omega (arith, ap (count_by says_kept) leads.0)
kept-arrive first width (event ∷ events) answers fates after (x, answer, rest, between, expected, changes, leads, are) =
    omega (
      arith,
      ap (count_by says_kept) are,
      count-cons says_kept answer rest,
      count-cons arrives_one event events,
      one-kept first width x event answer fates between changes,
      kept-arrive first width events rest between after leads,
    )

-- of the frames that a flow gave each took six bytes of those that arrived
outcome-few : (check : List ℕ → Bool) (flow_record : FlowRecord) (events : List FlowEvent) (frames : List (List ℕ)) (counts : FlowCounts)
    → AllByRecursion (Brings IsShort) events → IsFlowOutcome check flow_record events frames counts → 6 * length frames ≤ 65535 * count_by arrives_one events
outcome-few check flow_record events frames counts short o =
    let first = flow_record.first in
    let width = flow_record.window in
    let kept = kept-leads IsShort first width events o.answers no_fates o.fates o.after (none_kept IsShort) short in
    let settled = sum-short o.settled (settled-carries IsShort o.fates o.x o.settled kept o.below) in
    let few = few-frames check [] o.settled frames o.unfinished o.joined in
    let joined = kept-joined-held first width o.x events o.answers o.fates o.settled o.after o.below in
    let arrived = kept-arrive first width events o.answers no_fates o.fates o.after in
    omega arith

-- gaps bring nothing
gaps-bring : (P : List ℕ → Type 0) (n : ℕ) → AllByRecursion (Brings P) (replicate n gap)
gaps-bring P zero = tt
gaps-bring P (suc n) = (tt, gaps-bring P n)

gaps-none : (n : ℕ) → count_by arrives_one (replicate n gap) ≡ 0
gaps-none zero = refl
gaps-none (suc n) = let count = count-cons arrives_one gap (replicate n gap) in let rest = gaps-none n in omega arith

-- and so at its close
pub close-few : (check : List ℕ → Bool) (flow_record : FlowRecord) (events : List FlowEvent) (frames : List (List ℕ)) (counts : FlowCounts)
    → AllByRecursion (Brings IsShort) events → GivesAtItsClose check flow_record events frames counts → 6 * length frames ≤ 65535 * count_by arrives_one events
close-few check flow_record events frames counts short gives =
    let gaps = replicate gives.n gap in
    let few = outcome-few check flow_record (events ++ gaps) frames counts (all_append (Brings IsShort) events gaps short (gaps-bring IsShort gives.n)) gives.outcome in
    let both = sum_by-append (λ event. cond {A = ℕ} (arrives_one event) 1 0) events gaps in
    let none = gaps-none gives.n in
    omega arith
