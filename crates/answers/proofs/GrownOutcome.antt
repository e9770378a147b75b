-- What a flow has given stays given as more comes to it, and more may come behind it.
use Rattle.std.proofs.Common.{◌≡◌, ℕ, zero, suc, ◌+◌, ◌-◌, ◌<◌, ◌≤◌, inl, inr, Bool, IsSome, is_some, Option, Some, None, List, [], ◌∷◌, ◌++◌, length, refl, sym, ap, subst, ◌∙◌, arith, append-nil, append_assoc, sum_by}
use Rattle.std.specs.List.{concat}
use Rattle.std.specs.FinMap as map
use Rattle.std.proofs.lemmas.Bool.{false≢true}
use Rattle.docsis_wire.specs.declared.segment.Segment.{Segment}
use Rattle.ccf.specs.Join.{Joins}
use Rattle.ccf.proofs.OneJoining.{Feeds-once, Joins-append}
use Rattle.ccf.proofs.TwoSplits.{AllByRecursion-front, AllByRecursion-behind}
use Rattle.flow_records.specs.declared.record.FlowRecord.{FlowRecord}
use Rattle.flow_core.specs.declared.counts.FlowCounts.{FlowCounts}
use Rattle.flow_core.specs.declared.event.Applied.{Applied}
use Rattle.flow_core.specs.Counts.{payload_bytes}
use Rattle.flow_core.specs.Fates.{Fates, no_fates, IsSettledBelow}
use Rattle.flow_core.specs.Events.{FlowEvent, Leads}
use Rattle.flow_core.specs.Outcome.{IsFlowOutcome}
use Rattle.flow_core.proofs.Deciding.{open_or_settled}
use Rattle.flow_core.proofs.Turns.{leads-in_turn}
use Rattle.loss_rule.specs.Inside.Reached.{IsReached}
use Rattle.loss_rule.proofs.Reaching.{reached-leads, reached-expected, expected-onward, fate-stays}
use Rattle.answers.specs.Bytes.{AreBytes, IsLostOrCarries, CarryBytes}
use Rattle.answers.specs.Beside.{KeepsCarrying}
use Rattle.answers.proofs.SomeWalk.{no_bytes}
use Rattle.answers.proofs.SomeJoining.{some_feed, some_joining}
use Rattle.answers.proofs.SomeOutcome.{some_counts}
use Rattle.answers.proofs.Sizes.{joins-fit}
use Rattle.answers.proofs.Keeping.{settled-carries, settled-push}

-- what a settled list of bytes leaves unfinished is of bytes
joined_bytes : (check : List ℕ → Bool) (before : List ℕ) (settled : List (Option Segment)) (frames : List (List ℕ)) (after : List ℕ) → AreBytes before
    → CarryBytes settled → Joins check before settled frames after → AreBytes after
joined_bytes check before [] frames after bytes are joins = subst AreBytes (sym joins.1) bytes
joined_bytes check before (None ∷ settled) frames after bytes are joins = joined_bytes check [] settled frames after no_bytes are.1 joins
joined_bytes check before (Some segment ∷ settled) frames after bytes are (fed, rest, between, feeds, joins, is) =
    let found = some_feed check before segment bytes are.0 in
    let same = Feeds-once check before segment found.frames fed found.after between found.feeds feeds in
    joined_bytes check between settled rest after (subst AreBytes same.1 found.after_bytes) are.1 joins

-- what is settled of more indexes
settled_more : (fates : Fates) (n : ℕ) (front : List (Option Segment)) (m : ℕ) → IsSettledBelow fates n front
    → ((i : ℕ) → i < n + m → IsSome (map.get fates i)) → (more : List (Option Segment)) × IsSettledBelow fates (n + m) (front ++ more)
settled_more fates n front zero below known =
    let same : n ≡ n + 0 = omega arith in
    ([], subst (λ (k : ℕ). IsSettledBelow fates k (front ++ [])) same (subst (IsSettledBelow fates n) (sym (append-nil front)) below))
settled_more fates n front (suc m) below known =
    let rest = settled_more fates n front m below (λ i less. known i (omega arith)) in
    elim (open_or_settled fates (n + m)) [
      | inl free ↦ let there = known (n + m) (omega arith) in absurd (false≢true (sym (ap is_some free) ∙ there))
      | inr fate ↦
          let next : suc (n + m) ≡ n + suc m = omega arith in (
            rest.0 ++ fate.0 ∷ [],
            subst (λ (k : ℕ). IsSettledBelow fates k (front ++ (rest.0 ++ fate.0 ∷ []))) next
                (subst (IsSettledBelow fates (suc (n + m))) (append_assoc front rest.0 (fate.0 ∷ [])) (settled-push fates (n + m) (front ++ rest.0) fate.0 rest.1 fate.1)),
          )
    ]

module _ (check : List ℕ → Bool) (flow_record : FlowRecord) (events own : List FlowEvent) (frames : List (List ℕ)) (counts : FlowCounts)
    (was : IsFlowOutcome check flow_record events frames counts) (answers : List Applied) (after : Fates)
    (leads : Leads flow_record.first flow_record.window was.fates own answers after) (carries : KeepsCarrying AreBytes after) where
  -- What a flow has given after more events, of which the fates are these: its frames from before,
  -- and some behind them.
  pub record GrownOutcome : Type 0 where
    pub more : List (List ℕ)
    pub grown : FlowCounts
    pub outcome : IsFlowOutcome check flow_record (events ++ own) (frames ++ more) grown
    pub same : outcome.fates ≡ after

  -- its events lead to its fates
  reached : IsReached flow_record.first flow_record.window was.fates
  reached = (events, was.answers, was.after)

  -- what was settled is settled still
  still_settled : IsSettledBelow after was.x was.settled
  still_settled = record {
    size = was.below.size;
    each = λ i fate there.
        fate-stays flow_record.first flow_record.window i fate own answers was.fates after reached leads (was.below.each i fate there);
  }

  -- there is such an outcome
  pub grown_outcome : GrownOutcome
  grown_outcome =
      let expects = reached-expected flow_record.first flow_record.window after
      (reached-leads flow_record.first flow_record.window own answers was.fates after reached leads) in
      let onward = expected-onward flow_record.first flow_record.window was.x expects.0 own answers was.fates after reached was.expected leads expects.1 in
      let n = expects.0 - was.x in
      let all : was.x + n ≡ expects.0 = omega arith in
      let settled = settled_more after was.x was.settled n still_settled (λ i less. expects.1.settled i (omega arith)) in
      let below : IsSettledBelow after expects.0 (was.settled ++ settled.0) = subst (λ (k : ℕ). IsSettledBelow after k (was.settled ++ settled.0)) all settled.1 in
      let carry = settled-carries AreBytes after expects.0 (was.settled ++ settled.0) carries below in
      let unfinished = joined_bytes check [] was.settled frames was.unfinished no_bytes
      (AllByRecursion-front (IsLostOrCarries AreBytes) was.settled settled.0 carry) was.joined in
      let joined = some_joining check was.unfinished settled.0 unfinished (AllByRecursion-behind (IsLostOrCarries AreBytes) was.settled settled.0 carry) in
      let whole = Joins-append check was.settled settled.0 [] was.unfinished joined.1 frames joined.0 was.joined joined.2 in
      let fits = (joins-fit check [] (was.settled ++ settled.0) (frames ++ joined.0) joined.1 whole).fits in
      let bytes = sum_by payload_bytes (was.settled ++ settled.0) in
      let used = length (concat (frames ++ joined.0)) + length joined.1 in
      let within : used ≤ bytes = omega arith in
      let counted = some_counts (was.answers ++ answers) (was.settled ++ settled.0) (frames ++ joined.0) joined.1 (bytes - used) (omega arith) in
      record {
        more = joined.0;
        grown = counted.0;
        outcome = record {
          answers = was.answers ++ answers;
          fates = after;
          after =
              leads-in_turn flow_record.first flow_record.window events own (was.answers ++ answers) no_fates after
              (was.answers, answers, was.fates, was.after, leads, refl);
          x = expects.0;
          expected = expects.1;
          settled = was.settled ++ settled.0;
          below = below;
          unfinished = joined.1;
          joined = whole;
          counted = counted.1;
        };
        same = refl;
      }
