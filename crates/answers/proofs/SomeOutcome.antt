-- Whatever events come to a flow, there is what it gives, once it is drained and at its close.
use Rattle.std.proofs.Common.{◌≡◌, ℕ, zero, suc, ◌+◌, ◌-◌, ◌≤◌, Bool, Option, List, [], ◌++◌, length, replicate, refl, sym, subst, arith, sum_by, count_by, is_some, not}
use Rattle.std.specs.List.{concat}
use Rattle.docsis_wire.specs.declared.segment.Segment.{Segment}
use Rattle.flow_records.specs.Counted.{counted}
use Rattle.flow_records.specs.declared.record.FlowRecord.{FlowRecord}
use Rattle.flow_core.specs.declared.counts.FlowCounts.{FlowCounts}
use Rattle.flow_core.specs.declared.event.Applied.{Applied}
use Rattle.flow_core.specs.Fates.{Fates, no_fates, IsExpected}
use Rattle.flow_core.specs.Events.{FlowEvent, gap, IsAfter}
use Rattle.flow_core.specs.Counts.{says_kept, says_late, says_repeat, says_beyond, payload_bytes, AreCounts}
use Rattle.flow_core.specs.Closing.{IsClosed}
use Rattle.flow_core.specs.Outcome.{IsFlowOutcome}
use Rattle.flow_core.proofs.OneFates.{after-exists}
use Rattle.flow_core.proofs.Closing.{some-close}
use Rattle.flow_core.proofs.Turns.{leads-in_turn}
use Rattle.receiver.specs.Outcome.{GivesAtItsClose}
use Rattle.answers.specs.Bytes.{AreBytes, BringBytes}
use Rattle.answers.specs.Beside.{KeepsCarrying}
use Rattle.answers.proofs.SomeWalk.{no_bytes}
use Rattle.answers.proofs.SomeJoining.{some_joining}
use Rattle.answers.proofs.Sizes.{joins-fit}
use Rattle.answers.proofs.Keeping.{none_kept, kept-leads, settled-carries, some_settled}

-- the counts
abbrev pub counts_of : List Applied → List (Option Segment) → List (List ℕ) → ℕ → FlowCounts
counts_of answers settled given skipped_bytes = record {
  kept = counted (count_by says_kept answers);
  late = counted (count_by says_late answers);
  repeat = counted (count_by says_repeat answers);
  beyond = counted (count_by says_beyond answers);
  lost = counted (count_by (λ fate. not (is_some fate)) settled);
  frames = counted (length given);
  skipped = counted skipped_bytes;
}

pub some_counts : (answers : List Applied) (settled : List (Option Segment)) (given : List (List ℕ)) (unfinished : List ℕ) (skipped_bytes : ℕ)
    → skipped_bytes + length (concat given) + length unfinished ≡ sum_by payload_bytes settled → (counts : FlowCounts) × AreCounts answers settled given unfinished counts
some_counts answers settled given unfinished skipped_bytes balance = (
  counts_of answers settled given skipped_bytes,
  record { kept = refl; late = refl; repeat = refl; beyond = refl; lost = refl; frames = refl; skipped_bytes = skipped_bytes; balance = balance; skipped = refl },
)

-- What a flow gave, of which the fates are these.
pub record SomeOutcome (check : List ℕ → Bool) (flow_record : FlowRecord) (events : List FlowEvent) (fates : Fates) : Type 0 where
  pub frames : List (List ℕ)
  pub counts : FlowCounts
  pub outcome : IsFlowOutcome check flow_record events frames counts
  pub same : outcome.fates ≡ fates

-- what events lead to gives an outcome
outcome_of : (check : List ℕ → Bool) (flow_record : FlowRecord) (events : List FlowEvent) (answers : List Applied) (fates : Fates) (x : ℕ)
    → IsAfter flow_record.first flow_record.window events answers fates → IsExpected fates x → KeepsCarrying AreBytes fates → SomeOutcome check flow_record events fates
outcome_of check flow_record events answers fates x after expected are =
    let below = some_settled fates x expected.settled in
    let carried = settled-carries AreBytes fates x below.0 are below.1 in
    let joined = some_joining check [] below.0 no_bytes carried in
    let fits = (joins-fit check [] below.0 joined.0 joined.1 joined.2).fits in
    let all = sum_by payload_bytes below.0 in
    let used = length (concat joined.0) + length joined.1 in
    let within : used ≤ all = omega arith in
    let counted_all = some_counts answers below.0 joined.0 joined.1 (all - used) (omega arith) in
    record {
      frames = joined.0;
      counts = counted_all.0;
      outcome = record {
        answers = answers;
        fates = fates;
        after = after;
        x = x;
        expected = expected;
        settled = below.0;
        below = below.1;
        unfinished = joined.1;
        joined = joined.2;
        counted = counted_all.1;
      };
      same = refl;
    }

-- events have an outcome
pub some_outcome : (check : List ℕ → Bool) (flow_record : FlowRecord) (events : List FlowEvent) → BringBytes events
    → (frames : List (List ℕ)) × (counts : FlowCounts) × IsFlowOutcome check flow_record events frames counts
some_outcome check flow_record events are =
    let first = flow_record.first in
    let width = flow_record.window in
    let found = after-exists first width events in
    let gave = outcome_of check flow_record events found.0 found.1 found.2 found.3 found.4 (kept-leads AreBytes first width events found.0 no_fates found.1 found.3 (none_kept AreBytes) are) in
    (gave.frames, gave.counts, gave.outcome)

-- gaps carry no bytes
pub gaps-of_bytes : (n : ℕ) → BringBytes (replicate n gap)
gaps-of_bytes zero = tt
gaps-of_bytes (suc n) = (tt, gaps-of_bytes n)

-- What a flow gave at its close.
pub record SomeClose (check : List ℕ → Bool) (flow_record : FlowRecord) (events : List FlowEvent) : Type 0 where
  pub frames : List (List ℕ)
  pub counts : FlowCounts
  pub gives : GivesAtItsClose check flow_record events frames counts

pub some_close : (check : List ℕ → Bool) (flow_record : FlowRecord) (events : List FlowEvent) → BringBytes events → SomeClose check flow_record events
some_close check flow_record events are =
    let first = flow_record.first in
    let width = flow_record.window in
    let found = after-exists first width events in
    let close = some-close first width events found.0 found.1 found.3 in
    let after = close.0 in
    let n = close.1.0 in
    let gaps = close.1.1 in
    let leads = close.1.2 in
    let closed = close.1.3 in
    let kept = kept-leads AreBytes first width events found.0 no_fates found.1 found.3 (none_kept AreBytes) are in
    let all : IsAfter first width (events ++ replicate n gap) (found.0 ++ gaps) after =
    leads-in_turn first width events (replicate n gap) (found.0 ++ gaps) no_fates after (found.0, gaps, found.1, found.3, leads, refl) in
    let gave = outcome_of check flow_record (events ++ replicate n gap) (found.0 ++ gaps) after closed.0 all closed.1
    (kept-leads AreBytes first width (replicate n gap) gaps found.1 after leads kept (gaps-of_bytes n)) in
    record {
      frames = gave.frames;
      counts = gave.counts;
      gives = record { n = n; outcome = gave.outcome; closed = subst (λ (f : Fates). IsClosed f) (sym gave.same) closed };
    }
