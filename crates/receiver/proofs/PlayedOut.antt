-- What a replay gave, at its beginning and at its end.
use Rattle.std.proofs.Common.{◌≡◌, ℕ, zero, suc, ◌<◌, ◌≤◌, ⊎_elim, Bool, IsTrue, Some, All, List, Vec, Global, [], ◌∷◌, ◌++◌, length, map, drop, slice_get, slice_index_or, refl, sym, ap, subst, ◌∙◌, arith, append-nil}
use Rattle.std.proofs.lemmas.List.{get_or-map}
use Rattle.std.proofs.lemmas.Option.{same_Some, slice_get_within, slice_get_cases, slice_get-get_or, get_or_from_slice_get}
use Rattle.flow_records.specs.declared.record.FlowRecord.{FlowRecord}
use Rattle.flow_core.specs.declared.counts.FlowCounts.{FlowCounts}
use Rattle.lane.specs.declared.admitted.Request.{Request}
use Rattle.lane.specs.declared.report.LaneReport.{LaneReport}
use Rattle.lane.specs.Limits.{channel_limit}
use Rattle.lane.specs.Report.{refusal_numbers}
use Rattle.lane.proofs.LaneTaking.{from-pushed}
use Rattle.loss_rule.specs.declared.rule.LossRule.{LossRule}
use Rattle.consumer.specs.declared.given.Given.{Given}
use Rattle.consumer.specs.declared.collected.Collected.{Collected}
use Rattle.consumer.specs.Given.{frames_of, requests_given}
use Rattle.consumer.specs.Collecting.{AreEmpty, HasNothing, HasCollected, list_at}
use Rattle.bonded_flows.specs.Parts.{FlowInput, comes}
use Rattle.bonded_flows.specs.Table.{flow_setup, inputs_at}
use Rattle.receiver.specs.declared.setup.Setup.{Setup}
use Rattle.receiver.specs.declared.tally.LaneTally.{LaneTally}
use Rattle.receiver.specs.declared.closing.Closed.{Closed}
use Rattle.receiver.specs.declared.outcome.FlowOutcome.{FlowOutcome}
use Rattle.receiver.specs.declared.outcome.Outcome.{Outcome}
use Rattle.receiver.specs.declared.playing.Playing.{Playing}
use Rattle.receiver.specs.Ruled.{comings_at, IsRuledOutcome, ruled_flow}
use Rattle.receiver.specs.HandedIn.{HandedIn, made_of, answered_on, flow_inputs}
use Rattle.receiver.specs.HandedOrder.{IsSent, items_in, order_of}
use Rattle.receiver.specs.Receiving.{StandsFor}
use Rattle.receiver.specs.Received.{IsReceived, GaveAllParts, Closes}
use Rattle.receiver.specs.Playing.{Plays, HaveGiven, IsReportWith, IsGiven}
use Rattle.receiver.proofs.TakenInOrder.{inputs-come, one-part_gave, ruled-outcome}
use Rattle.receiver.proofs.HandedOrder.{inputs-taken}

-- nothing was handed in yet
pub plays-nothing : {C : Type 0} (accepts : C → List ℕ → Bool) (rule : LossRule) (check : List ℕ → Bool) (setup : Setup) (playing : Playing C)
    → StandsFor accepts playing.receiver check (made_of rule channel_limit setup) [] [] → HasNothing (length setup.flows.items) channel_limit playing.collected
    → AreEmpty channel_limit playing.refused.items → Plays accepts rule check setup playing []
plays-nothing accepts rule check setup playing stands nothing empty = record {
  given = [];
  stands = stands;
  start = playing.collected;
  nothing = nothing;
  collected = λ whole. (
    whole,
    record {
      flow_count = refl;
      channel_count = refl;
      frames = λ k. sym (append-nil (list_at playing.collected.frames.items k));
      requests = λ channel. sym (append-nil (list_at playing.collected.requests.items channel));
    },
  );
  many = empty.many;
  refused = λ channel below. empty.empty channel;
}

-- the list at a place
pub list-there : {A : Type 0} (lists : List (Vec A Global)) (k : ℕ) (list : Vec A Global) → slice_get lists k ≡ Some list → list_at lists k ≡ list.items
list-there {A} lists k list there =
    get_or-map (λ (v : Vec A Global). v.items) lists k list [] (slice_get_within lists k list there)
    ∙ ap (λ (v : Vec A Global). v.items) (get_or_from_slice_get lists k list list there)

-- the first of what is left of a list after its first k
pub first_left : {X : Type 0} (xs : List X) (k : ℕ) (x : X) (rest : List X) → drop k xs ≡ x ∷ rest
    → (slice_get xs k ≡ Some x) × (drop (suc k) xs ≡ rest)
first_left [] zero x rest is = absurd (cc)
first_left [] (suc k) x rest is = absurd (cc)
first_left (y ∷ xs) zero x rest is = (cc, cc)
first_left (y ∷ xs) (suc k) x rest is = first_left xs k x rest is

-- one flow more has its outcome
pub given-more : (records : List FlowRecord) (frames : List (Vec (List ℕ) Global)) (counts : List FlowCounts) (flows : List FlowOutcome) (flow_record : FlowRecord) (flow : FlowOutcome)
    → slice_get records (length flows) ≡ Some flow_record → flow.sfid ≡ flow_record.sfid → slice_get frames (length flows) ≡ Some flow.frames
    → slice_get counts (length flows) ≡ Some flow.counts → HaveGiven records frames counts flows → HaveGiven records frames counts (flows ++ flow ∷ [])
given-more records frames counts flows flow_record flow here sfid its counted given k other one at there =
    ⊎_elim
    (λ before. given k other one at before)
    (λ last.
    let same : flow ≡ one = sym last.1 in
    let record_is : flow_record ≡ other = same_Some flow_record other (sym here ∙ ap (slice_get records) (sym last.0) ∙ at) in (
      sym (ap (λ (f : FlowOutcome). f.sfid) same) ∙ sfid ∙ ap (λ (r : FlowRecord). r.sfid) record_is,
      sym (ap (λ (f : FlowOutcome). f.frames.items) same) ∙ sym (list-there frames (length flows) flow.frames its) ∙ ap (list_at frames) (sym last.0),
      ap (slice_get counts) last.0 ∙ counted ∙ ap (λ (f : FlowOutcome). Some f.counts) same,
    ))
    (from-pushed flows flow k one there)

-- what was collected of what was given
pub record AreCollected (flow_count : ℕ) (given : List Given) (collected : Collected) : Type 0 where
  pub flow_count_is : length collected.frames.items ≡ flow_count
  pub channel_count_is : length collected.requests.items ≡ channel_limit
  pub frames : (k : ℕ) → list_at collected.frames.items k ≡ frames_of k given
  pub requests : (channel : ℕ) → list_at collected.requests.items channel ≡ requests_given channel given

pub all-collected : (flow_count : ℕ) (start end : Collected) (given : List Given) → HasNothing flow_count channel_limit start → HasCollected start given end → IsTrue end.whole
    → AreCollected flow_count given end
all-collected flow_count start end given nothing has whole =
    let grew = (has whole).1 in
    record {
      flow_count_is = grew.flow_count ∙ nothing.frames.many;
      channel_count_is = grew.channel_count ∙ nothing.requests.many;
      frames = λ k. grew.frames k ∙ ap (λ (t : List (List ℕ)). t ++ frames_of k given) (nothing.frames.empty k);
      requests = λ channel. grew.requests channel ∙ ap (λ (t : List Request). t ++ requests_given channel given) (nothing.requests.empty channel);
    }

module _ (rule : LossRule) (check : List ℕ → Bool) (setup : Setup) (handed : List HandedIn) (given : List Given) (closed : Closed) (collected : Collected)
    (received : IsReceived check (made_of rule channel_limit setup) handed given closed) (are : AreCollected (length setup.flows.items) given collected) (sent : All IsSent handed) where
  -- what a flow gave
  flow-given : (flows : List FlowOutcome) → HaveGiven setup.flows.items collected.frames.items closed.flows.items flows → (k : ℕ) (flow_record : FlowRecord) (flow : FlowOutcome)
      → slice_get setup.flows.items k ≡ Some flow_record → slice_get flows k ≡ Some flow
      → IsRuledOutcome rule check (ruled_flow setup.sids.items k flow_record) flow_record
      (comings_at k (order_of (length setup.flows.items) handed) (items_in (length setup.flows.items) handed)) flow
  flow-given flows have k flow_record flow at there =
      let its = have k flow_record flow at there in
      let comings = comings_at k (order_of (length setup.flows.items) handed) (items_in (length setup.flows.items) handed) in
      let inputs : inputs_at k (flow_inputs (length setup.flows.items) handed) ≡ map comes comings =
      ap (inputs_at k) (inputs-taken (length setup.flows.items) handed sent)
      ∙ inputs-come k (order_of (length setup.flows.items) handed) (items_in (length setup.flows.items) handed) in
      let frames : frames_of k given ≡ flow.frames.items = sym (its.1 ∙ are.frames k) in
      let gave = subst (λ (t : List FlowInput). GaveAllParts check (flow_setup (made_of rule channel_limit setup) k flow_record) t flow.frames.items flow.counts) inputs
      (subst (λ (t : List (List ℕ)). GaveAllParts check (flow_setup (made_of rule channel_limit setup) k flow_record) (inputs_at k (flow_inputs (length setup.flows.items) handed)) t flow.counts) frames
      (received.flows k flow_record flow.counts at its.2)) in
      ruled-outcome check (made_of rule channel_limit setup) k flow_record comings flow refl its.0
      (one-part_gave check (flow_setup (made_of rule channel_limit setup) k flow_record) comings flow.frames.items flow.counts gave)

  pub all-given : (refused : List (Vec ℕ Global)) (outcome : Outcome)
      → ((channel : ℕ) → channel < channel_limit → list_at refused channel ≡ refusal_numbers (answered_on channel handed))
      → length outcome.flows.items ≡ length setup.flows.items → HaveGiven setup.flows.items collected.frames.items closed.flows.items outcome.flows.items
      → outcome.requests ≡ collected.requests.items → length outcome.lanes ≡ channel_limit
      → ((channel : ℕ) (report : LaneReport) → slice_get outcome.lanes channel ≡ Some report → IsReportWith refused closed.lanes.items channel report)
      → IsGiven rule check setup handed outcome
  all-given refused outcome refusals count have requests lanes reports = record {
    answers = λ channel below. received.answered channel below;
    flows = record {
      count = count;
      each = λ k flow_record at.
          let within = slice_get_within setup.flows.items k flow_record at in
          ⊎_elim
          (λ one. (one.0, one.2, flow-given outcome.flows.items have k flow_record one.0 at one.2))
          (λ (past : (length outcome.flows.items ≤ k) × _). absurd (let long = past.0 in omega (arith, count, within)))
          (slice_get_cases outcome.flows.items k).1;
    };
    request_lists = ap (λ (t : List (Vec Request Global)). length t) requests ∙ are.channel_count_is;
    requests = λ channel below.
        ap (λ (t : List (Vec Request Global)). list_at t channel) requests ∙ are.requests channel ∙ received.requests channel;
    report_count = lanes;
    reports = λ channel report below at.
        let its = reports channel report at in
        let tally = received.tallies channel its.tally its.stands in
        record { admitted = its.admitted ∙ tally.admitted; refused = its.refused_are ∙ refusals channel below };
  }

-- the answer for all that was handed in, and all of it was collected
pub record IsPlayedOut (rule : LossRule) (check : List ℕ → Bool) (setup : Setup) (handed : List HandedIn) (closed : Closed) (collected : Collected) : Type 0 where
  pub given : List Given
  pub received : IsReceived check (made_of rule channel_limit setup) handed given closed
  pub are : AreCollected (length setup.flows.items) given collected

-- it is closed
pub played-out : {C : Type 0} (accepts : C → List ℕ → Bool) (rule : LossRule) (check : List ℕ → Bool) (setup : Setup) (playing : Playing C) (handed : List HandedIn) (closed : Closed) (collected : Collected)
    → Plays accepts rule check setup playing handed → Closes HasCollected accepts playing.receiver playing.collected closed collected → IsTrue collected.whole
    → IsPlayedOut rule check setup handed closed collected
played-out accepts rule check setup playing handed closed collected plays closes whole = record {
  given = plays.given ++ closes.given_more;
  received = closes.received check (made_of rule channel_limit setup) handed plays.given plays.stands;
  are = all-collected (length setup.flows.items) plays.start collected (plays.given ++ closes.given_more) plays.nothing
      (closes.was_given plays.start plays.given plays.collected) whole;
}

-- four reports, each with the refusals and the count of its channel
module _ (r0 r1 r2 r3 : Vec ℕ Global) (tallies : List LaneTally) (none : LaneTally) (four : length tallies ≡ channel_limit) where
  report-with : (channel : ℕ) (refused : Vec ℕ Global) (report : LaneReport) → channel < channel_limit
      → record { admitted = (slice_index_or tallies channel none).admitted; refused = refused } ≡ report → list_at (r0 ∷ r1 ∷ r2 ∷ r3 ∷ []) channel ≡ refused.items
      → IsReportWith (r0 ∷ r1 ∷ r2 ∷ r3 ∷ []) tallies channel report
  report-with channel refused report below is list = record {
    tally = slice_index_or tallies channel none;
    stands = slice_get-get_or tallies channel none (omega (arith, four, below));
    admitted = sym (ap (λ (r : LaneReport). r.admitted) is);
    refused_are = sym (list ∙ ap (λ (r : LaneReport). r.refused.items) is);
  }

  pub reports-are : (channel : ℕ) (report : LaneReport)
      → slice_get
      (record { admitted = (slice_index_or tallies 0 none).admitted; refused = r0 } ∷ record { admitted = (slice_index_or tallies 1 none).admitted; refused = r1 }
      ∷ record { admitted = (slice_index_or tallies 2 none).admitted; refused = r2 } ∷ record { admitted = (slice_index_or tallies 3 none).admitted; refused = r3 } ∷ []) channel
      ≡ Some report
      → IsReportWith (r0 ∷ r1 ∷ r2 ∷ r3 ∷ []) tallies channel report
  reports-are zero report at = report-with 0 r0 report (omega arith) (same_Some _ report at) refl
  reports-are (suc zero) report at = report-with 1 r1 report (omega arith) (same_Some _ report at) refl
  reports-are (suc (suc zero)) report at = report-with 2 r2 report (omega arith) (same_Some _ report at) refl
  reports-are (suc (suc (suc zero))) report at = report-with 3 r3 report (omega arith) (same_Some _ report at) refl
  reports-are (suc (suc (suc (suc channel)))) report at = absurd cc
