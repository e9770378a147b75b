-- What is taken in an order has an outcome, by each rule.
use Rattle.std.proofs.Common.{◌≡◌, ℕ, zero, suc, ◌+◌, ◌^◌, ◌<◌, ◌≤◌, Bool, Some, List, [], ◌∷◌, length, count_by, slice_get, lit<, refl, ap, sym, subst, ◌∙◌, arith}
use Rattle.std.specs.Global.{Vec}
use Rattle.std.specs.List.{AllByRecursion}
use Rattle.std.proofs.lemmas.List.{length-map}
use Rattle.std.proofs.lemmas.List.Sums.{count_by-le-length}
use Rattle.flow_records.specs.declared.record.FlowRecord.{FlowRecord}
use Rattle.flow_core.specs.Fates.{no_fates}
use Rattle.flow_core.specs.Events.{FlowEvent, arrives, gap, gap_to, skip_to}
use Rattle.lane.specs.declared.admitted.Admitted.{Admitted}
use Rattle.lane.specs.declared.admitted.Request.{Request}
use Rattle.lane.specs.declared.report.LaneReport.{LaneReport}
use Rattle.lane.specs.Limits.{channel_limit}
use Rattle.lane.specs.Inputs.{AnsweredInput}
use Rattle.lane.specs.Report.{admitted_by, admitted_of, refused_by, requests_of, admitted_count, refusal_numbers, IsReportOf}
use Rattle.loss_rule.specs.declared.rule.LossRule.{LossRule}
use Rattle.loss_rule.specs.Rule.{no_lasts, AreRuled}
use Rattle.loss_rule.proofs.Reaching.{reached-none}
use Rattle.loss_rule.proofs.Rulings.{rules-some}
use Rattle.receiver.specs.declared.outcome.FlowOutcome.{FlowOutcome}
use Rattle.receiver.specs.declared.outcome.Outcome.{Outcome}
use Rattle.receiver.specs.declared.setup.Setup.{Setup}
use Rattle.receiver.specs.Channels.{is_segment}
use Rattle.receiver.specs.Items.{Incoming, IsLaneOf}
use Rattle.receiver.specs.Intake.{IsIntake}
use Rattle.receiver.specs.Outcome.{requests_on}
use Rattle.receiver.specs.Ruled.{ruled_flow, comings_at, IsRuledOutcome, IsOutcomeBy}
use Rattle.receiver.proofs.FlowComings.{hands-in_decisions}
use Rattle.receiver.proofs.RuledCounts.{arrives_one, segments-arrive}
use Rattle.receiver.proofs.Senders.{four}
use Rattle.answers.specs.Bytes.{AreBytes, Brings}
use Rattle.answers.specs.Room.{AreBurstsOfBytes, HasRoom}
use Rattle.answers.proofs.Vectors.{vec_of}
use Rattle.answers.proofs.Everywhere.{all_weaker, few_given}
use Rattle.answers.proofs.SomeOutcome.{some_close}
use Rattle.answers.proofs.FewFrames.{IsShort, close-few}
use Rattle.answers.proofs.RuledEvents.{ItemBrings, rules-bring, comings-bring, comings-few}
use Rattle.answers.proofs.AdmittedPayloads.{IsPayload, intake-brings}

-- events that bring such payloads bring bytes, and no more than a grant has
brings-bytes : (event : FlowEvent) → Brings IsPayload event → Brings AreBytes event
brings-bytes (arrives segment) brings = brings.bytes
brings-bytes gap brings = tt
brings-bytes (gap_to number) brings = tt
brings-bytes (skip_to number) brings = tt

brings-short : (event : FlowEvent) → Brings IsPayload event → Brings IsShort event
brings-short (arrives segment) brings = brings.short
brings-short gap brings = tt
brings-short (gap_to number) brings = tt
brings-short (skip_to number) brings = tt

-- a flow has given something, whatever came to it
some_flow : (rule : LossRule) (check : List ℕ → Bool) (setup : Setup) (order : List ℕ) (incoming : Incoming) (intake : IsIntake setup incoming order)
    → AllByRecursion (ItemBrings IsPayload) intake.items → length order < 2 ^ 48 → (k : ℕ) (flow_record : FlowRecord)
    → (flow : FlowOutcome) × IsRuledOutcome rule check (ruled_flow setup.sids.items k flow_record) flow_record (comings_at k order intake.items) flow
some_flow rule check setup order incoming intake bring few k flow_record =
    let flow = ruled_flow setup.sids.items k flow_record in
    let comings = comings_at k order intake.items in
    let found = rules-some rule flow (no_lasts flow) no_fates comings (reached-none flow.first flow.width) in
    let events = found.0 in
    let ruled : AreRuled rule flow comings events found.1 found.2 = found.3 in
    let brings = rules-bring IsPayload rule flow (no_lasts flow) found.1 no_fates found.2 comings events (comings-bring IsPayload k order intake.items bring) ruled in
    let close = some_close check flow_record events (all_weaker (Brings IsPayload) (Brings AreBytes) brings-bytes events brings) in
    let frames = close-few check flow_record events close.frames close.counts (all_weaker (Brings IsPayload) (Brings IsShort) brings-short events brings) close.gives in
    let arrive : count_by arrives_one events ≡ count_by is_segment comings =
    segments-arrive rule flow (no_lasts flow) found.1 no_fates found.2 comings events (hands-in_decisions k order intake.items) ruled in
    let segments = count_by-le-length is_segment comings in
    let came = comings-few k order intake.items in
    let room : length close.frames < 2 ^ 63 = omega arith in (
      record { sfid = flow_record.sfid; frames = vec_of close.frames room; counts = close.counts },
      record { events = events; lasts = found.1; fates = found.2; ruled = ruled; gave = record { sfid = refl; gives = close.gives } },
    )

-- Of each element of a list one that is related to it.
record Listed (A B : Type 0) (R : ℕ → A → B → Type 0) (from : ℕ) (xs : List A) : Type 0 where
  ys : List B
  count : length ys ≡ length xs
  each : (k : ℕ) (x : A) → slice_get xs k ≡ Some x → (y : B) × (slice_get ys k ≡ Some y) × R (from + k) x y

listed : (A B : Type 0) (R : ℕ → A → B → Type 0) → ((k : ℕ) (x : A) → (y : B) × R k x y) → (from : ℕ) (xs : List A) → Listed A B R from xs
listed A B R some from [] = record { ys = []; count = refl; each = λ k x is. absurd cc }
listed A B R some from (x ∷ xs) =
    let first = some from x in
    let rest = listed A B R some (suc from) xs in
    record {
      ys = first.0 ∷ rest.ys;
      count = ap suc rest.count;
      each = λ k other is. each_of first rest k other is;
    }
  where
    each_of : (first : (y : B) × R from x y) (rest : Listed A B R (suc from) xs) (k : ℕ) (other : A) → slice_get (x ∷ xs) k ≡ Some other
        → (y : B) × (slice_get (first.0 ∷ rest.ys) k ≡ Some y) × R (from + k) other y
    each_of first rest zero other is =
        let e : x ≡ other = cc in
        let at : from ≡ from + 0 = omega arith in
        (first.0, refl, subst (λ n. R n other first.0) at (subst (λ o. R from o first.0) e first.1))
    each_of first rest (suc k) other is =
        let found = rest.each k other is in
        let at : suc from + k ≡ from + suc k = omega arith in
        (found.0, found.1, subst (λ n. R n other found.0) at found.2)

-- no channel has more requests or refusals than inputs
answered-count : (setup : Setup) (incoming : Incoming) (channel : ℕ) (answered : List AnsweredInput) → IsLaneOf setup incoming channel answered
    → length answered ≡ length (incoming.inputs channel)
answered-count setup incoming channel answered lane = sym (length-map answered (λ (one : AnsweredInput). one.input)) ∙ ap length lane.inputs

few_requests : (answered : List AnsweredInput) → length (requests_of answered) ≤ length answered
few_requests answered =
    let admitted = few_given (λ (one : AnsweredInput). admitted_by one.answer) answered in
    let requests = few_given (λ (one : Admitted). one.request) (admitted_of answered) in
    omega arith

few_refusals : (answered : List AnsweredInput) → length (refusal_numbers answered) ≤ length answered
few_refusals answered = few_given (λ (one : AnsweredInput). refused_by one.answer) answered

module _ (setup : Setup) (incoming : Incoming) (order : List ℕ) (intake : IsIntake setup incoming order) (room : HasRoom incoming order) where
  -- the requests and the report of a channel
  requests-room : (channel : ℕ) → channel < channel_limit → length (requests_of (intake.answered channel)) < 2 ^ 63
  requests-room channel below =
      let inputs = room.inputs channel below in
      let count = answered-count setup incoming channel (intake.answered channel) (intake.lanes channel below) in
      omega (arith, few_requests (intake.answered channel))

  refusals-room : (channel : ℕ) → channel < channel_limit → length (refusal_numbers (intake.answered channel)) < 2 ^ 63
  refusals-room channel below =
      let inputs = room.inputs channel below in
      let count = answered-count setup incoming channel (intake.answered channel) (intake.lanes channel below) in
      omega (arith, few_refusals (intake.answered channel))

  abbrev requests : (channel : ℕ) → channel < channel_limit → Vec Request
  requests channel below = vec_of (requests_of (intake.answered channel)) (requests-room channel below)

  abbrev report : (channel : ℕ) → channel < channel_limit → LaneReport
  report channel below = record {
    admitted = admitted_count (intake.answered channel);
    refused = vec_of (refusal_numbers (intake.answered channel)) (refusals-room channel below);
  }

  report-of : (channel : ℕ) (below : channel < channel_limit) (found : LaneReport) → report channel below ≡ found → IsReportOf (intake.answered channel) found
  report-of channel below found is = subst (IsReportOf (intake.answered channel)) is (record { admitted = refl; refused = refl })

  -- there is an outcome
  pub some_replay : (rule : LossRule) (check : List ℕ → Bool) → AreBurstsOfBytes incoming → (outcome : Outcome) × IsOutcomeBy rule check setup incoming order outcome
  some_replay rule check are =
      let bring = intake-brings setup incoming order intake are in
      let flows = listed FlowRecord FlowOutcome
      (λ k flow_record flow. IsRuledOutcome rule check (ruled_flow setup.sids.items k flow_record) flow_record (comings_at k order intake.items) flow)
      (some_flow rule check setup order incoming intake bring room.items) 0 setup.flows.items in
      let counted = flows.count in
      let few = setup.flows.ok in
      let small = setup.flows.small in
      let flows-room : length flows.ys < 2 ^ 63 = omega arith in
      let items = room.items in
      let order-room : length order < 2 ^ 63 = omega arith in
      let outcome : Outcome = record {
        flows = vec_of flows.ys flows-room;
        requests = requests 0 (lit< tt) ∷ requests 1 (lit< tt) ∷ requests 2 (lit< tt) ∷ requests 3 (lit< tt) ∷ [];
        lanes = report 0 (lit< tt) ∷ report 1 (lit< tt) ∷ report 2 (lit< tt) ∷ report 3 (lit< tt) ∷ [];
        order = vec_of order order-room;
      } in (
        outcome,
        record {
          intake = intake;
          flows = record {
            count = flows.count;
            each = λ k flow_record there.
                let found = flows.each k flow_record there in
                let at : 0 + k ≡ k = omega arith in (
                  found.0,
                  found.1,
                  subst (λ n. IsRuledOutcome rule check (ruled_flow setup.sids.items n flow_record) flow_record (comings_at n order intake.items) found.0) at found.2,
                );
          };
          request_lists = refl;
          requests = four (λ channel. requests_on outcome channel ≡ requests_of (intake.answered channel)) refl refl refl refl;
          report_count = refl;
          reports = λ channel found below is.
              four (λ c. slice_get outcome.lanes c ≡ Some found → IsReportOf (intake.answered c) found)
              (λ e. report-of 0 (lit< tt) found cc) (λ e. report-of 1 (lit< tt) found cc) (λ e. report-of 2 (lit< tt) found cc) (λ e. report-of 3 (lit< tt) found cc)
              channel below is;
          order_is = refl;
        },
      )
