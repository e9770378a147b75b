-- What lines say is played in one order, and to one outcome.
use Rattle.std.proofs.Common.{◌≡◌, ℕ, zero, suc, ◌<◌, Bool, Some, List, length, map, refl, sym, ap, subst, ◌∙◌, arith}
use Rattle.std.specs.Prelude.{nat_lt, filter, is_some, slice_get, if◌then◌else◌}
use Rattle.flow_records.specs.declared.event.Event.{Event}
use Rattle.receiver.specs.declared.outcome.FlowOutcome.{FlowOutcome}
use Rattle.receiver.specs.declared.outcome.Outcome.{Outcome}
use Rattle.receiver.specs.declared.setup.Setup.{Setup}
use Rattle.lane.specs.Limits.{channel_limit}
use Rattle.lane.specs.Rows.{CanBeOpened}
use Rattle.lane.specs.Inputs.{LaneSetup, AnsweredInput, AreAnswered, inputs_of}
use Rattle.lane.specs.Report.{admitted_by, admitted_of}
use Rattle.receiver.specs.Order.{kept_places, IsMergeOf}
use Rattle.lane.specs.Limits.{senders}
use Rattle.receiver.specs.Items.{Incoming, AreLanesOf, lane_setup, items_of, are_items}
use Rattle.lane.specs.Report.{event_of_admitted}
use Rattle.flow_records.specs.Decisions.{event_of_decision, names_a_flow}
use Rattle.loss_rule.specs.declared.rule.LossRule.{LossRule}
use Rattle.receiver.specs.Outcome.{IsOutcome, AreOutcomesOfFlows}
use Rattle.receiver.specs.Ruled.{IsOutcomeBy, IsRuledOutcome, AreRuledOutcomes, ruled_flow, comings_at}
use Rattle.receiver.specs.AdmittedOrder.{IsAdmittedOrder}
use Rattle.receiver.specs.Intake.{IsIntake}
use Rattle.receiver.specs.Faults.{CanReceive}
use Rattle.flow_records.specs.declared.record.FlowRecord.{FlowRecord}
use Rattle.flow_records.specs.Setup.{CanBeSetUp}
use Rattle.lane.specs.declared.sids.SidRow.{SidRow}
use Rattle.receiver.specs.Entries.{tag_of, incoming_in}
use Rattle.text_lines.specs.Capacities.{default_capacity}
use Rattle.text_lines.specs.declared.fault.ParseFault.{ParseFault}
use Rattle.text_lines.specs.declared.fault.ParseFault.TheVariants as parse
use Rattle.text_lines.specs.Fault.{text_fault_of_parse}
use Rattle.text_lines.specs.Format.{IsRead, IsReadingFault, IsFirstFaultyLine}
use Rattle.text_lines.specs.Lines.{lines_of}
use Rattle.texts.specs.Inside.TraceInput.{TraceState, taking_format}
use Rattle.texts.specs.Replay.{IsSetupOf, IsReplayFault}
use Rattle.texts.specs.Trace.Place.{Said, nothing_said, trace_format}
use Rattle.texts.proofs.HandedLines.{faulty_alone}
use Rattle.texts.proofs.TraceChecks.{read_passes}

-- lists with the same items have the same merges
merge_moved : {T : Type 0} (lists others : ℕ → List T) (order : List ℕ) (items : List T)
    → ((sender : ℕ) → sender < senders → lists sender ≡ others sender) → IsMergeOf lists order items → IsMergeOf others order items
merge_moved lists others order items same is =
    record { named = is.named; paired = is.paired; lists_are = λ sender below. is.lists_are sender below ∙ same sender below }

module _ (setup other : Setup) (incoming more : Incoming) (flows : setup.flows.items ≡ other.flows.items) (sids : setup.sids.items ≡ other.sids.items)
    (inputs : (channel : ℕ) → channel < channel_limit → incoming.inputs channel ≡ more.inputs channel) (decisions : incoming.decisions ≡ more.decisions) where
  -- the answers to the same inputs
  lanes_moved : (answered : ℕ → List AnsweredInput) → AreLanesOf setup incoming answered → AreLanesOf other more answered
  lanes_moved answered lanes channel below =
      let is = lanes channel below in
      let rows = subst (λ rows. AreAnswered (record { channel = channel; rows = rows; records = setup.flows.items }) (answered channel)) sids is.answers in
      record {
        answers = subst (λ records. AreAnswered (record { channel = channel; rows = other.sids.items; records = records }) (answered channel)) flows rows;
        inputs = is.inputs ∙ inputs channel below;
      }

  -- which inputs and decisions give an item
  are_items_moved : (answered : ℕ → List AnsweredInput) (sender : ℕ) → are_items setup incoming answered sender ≡ are_items other more answered sender
  are_items_moved answered sender =
      let lane = map (λ one. is_some (admitted_by one.answer)) (answered sender) in
      ap (λ records. if nat_lt sender channel_limit then lane else map (names_a_flow (length records)) incoming.decisions) flows
      ∙ ap (λ decided. if nat_lt sender channel_limit then lane else map (names_a_flow (length other.flows.items)) decided) decisions

  -- and the items
  items_moved : (answered : ℕ → List AnsweredInput) (sender : ℕ) → items_of setup incoming answered sender ≡ items_of other more answered sender
  items_moved answered sender =
      let lane = map event_of_admitted (admitted_of (answered sender)) in
      ap (λ records. if nat_lt sender channel_limit then lane else map event_of_decision (filter (names_a_flow (length records)) incoming.decisions)) flows
      ∙ ap
      (λ decided. if nat_lt sender channel_limit then lane else map event_of_decision (filter (names_a_flow (length other.flows.items)) decided))
      decisions

  -- and the intake in an order
  intake_moved : (order : List ℕ) → IsIntake setup incoming order → IsIntake other more order
  intake_moved order is = record {
    answered = is.answered;
    lanes = lanes_moved is.answered is.lanes;
    items = is.items;
    merged =
        merge_moved (items_of setup incoming is.answered) (items_of other more is.answered) order is.items (λ sender _. items_moved is.answered sender)
        is.merged;
  }

  -- the admitted order
  pub order_moved : (tags order : List ℕ) → IsAdmittedOrder setup incoming tags order → IsAdmittedOrder other more tags order
  order_moved tags order is = record {
    answered = is.answered;
    lanes = lanes_moved is.answered is.lanes;
    flags = is.flags;
    merged =
        merge_moved (are_items setup incoming is.answered) (are_items other more is.answered) tags is.flags
        (λ sender _. are_items_moved is.answered sender) is.merged;
    order_is = is.order_is;
  }

  -- and the outcome
  pub outcome_moved : (check : List ℕ → Bool) (order : List ℕ) (outcome : Outcome) → IsOutcome check setup incoming order outcome
      → IsOutcome check other more order outcome
  unfolding intake_moved
  outcome_moved check order outcome is = record {
    intake = intake_moved order is.intake;
    flows = subst (λ records. AreOutcomesOfFlows check records is.intake.items outcome.flows.items) flows is.flows;
    request_lists = is.request_lists;
    requests = is.requests;
    report_count = is.report_count;
    reports = is.reports;
    order_is = is.order_is;
  }

  -- what the flows gave by a loss rule
  ruled_moved : (rule : LossRule) (check : List ℕ → Bool) (order : List ℕ) (items : List Event) (gave : List FlowOutcome)
      → AreRuledOutcomes rule check setup order items gave → AreRuledOutcomes rule check other order items gave
  ruled_moved rule check order items gave is = record {
    count = is.count ∙ ap length flows;
    each = λ k flow_record at.
        let found = is.each k flow_record (subst (λ records. slice_get records k ≡ Some flow_record) (sym flows) at) in (
          found.0,
          found.1,
          subst (λ rows. IsRuledOutcome rule check (ruled_flow rows k flow_record) flow_record (comings_at k order items) found.0) sids found.2,
        );
  }

  -- and the outcome by it
  pub outcome_by_moved : (rule : LossRule) (check : List ℕ → Bool) (order : List ℕ) (outcome : Outcome) → IsOutcomeBy rule check setup incoming order outcome
      → IsOutcomeBy rule check other more order outcome
  unfolding intake_moved
  outcome_by_moved rule check order outcome is = record {
    intake = intake_moved order is.intake;
    flows = ruled_moved rule check order is.intake.items outcome.flows.items is.flows;
    request_lists = is.request_lists;
    requests = is.requests;
    report_count = is.report_count;
    reports = is.reports;
    order_is = is.order_is;
  }

-- inputs of a lane have one list of answers
abbrev pub AnswersAreOne : Type 0
AnswersAreOne =
    (setup : LaneSetup) (taken others : List AnsweredInput) → CanBeOpened setup.rows (length setup.records)
    → AreAnswered setup taken → AreAnswered setup others → inputs_of taken ≡ inputs_of others → taken ≡ others

-- flags have one merge
abbrev pub MergesAreOne : Type 0
MergesAreOne =
    (lists : ℕ → List Bool) (order : List ℕ) (flags others : List Bool) → IsMergeOf lists order flags → IsMergeOf lists order others → flags ≡ others

module _ (setup : Setup) (incoming : Incoming) (can : CanReceive setup) where
  same_flags : (answered others : ℕ → List AnsweredInput) → ((channel : ℕ) → channel < channel_limit → answered channel ≡ others channel)
      → (sender : ℕ) → sender < senders → are_items setup incoming answered sender ≡ are_items setup incoming others sender
  same_flags answered others same zero below = ap (map (λ one. is_some (admitted_by one.answer))) (same 0 (omega arith))
  same_flags answered others same (suc zero) below = ap (map (λ one. is_some (admitted_by one.answer))) (same 1 (omega arith))
  same_flags answered others same (suc (suc zero)) below = ap (map (λ one. is_some (admitted_by one.answer))) (same 2 (omega arith))
  same_flags answered others same (suc (suc (suc zero))) below = ap (map (λ one. is_some (admitted_by one.answer))) (same 3 (omega arith))
  same_flags answered others same (suc (suc (suc (suc zero)))) below = refl
  same_flags answered others same (suc (suc (suc (suc (suc more))))) below = absurd (omega arith)

  -- tags have one admitted order
  pub one_order : AnswersAreOne → MergesAreOne → (tags order other : List ℕ)
      → IsAdmittedOrder setup incoming tags order → IsAdmittedOrder setup incoming tags other → order ≡ other
  one_order answers merges tags order other is also =
      let same : (channel : ℕ) → channel < channel_limit → is.answered channel ≡ also.answered channel =
      λ channel below.
      let one = is.lanes channel below in
      let two = also.lanes channel below in
      answers (lane_setup setup channel) (is.answered channel) (also.answered channel) can.lanes one.answers two.answers (one.inputs ∙ sym two.inputs)
      in
      let back = λ (sender : ℕ) (below : sender < senders). sym (same_flags is.answered also.answered same sender below) in
      let merged = merge_moved (are_items setup incoming also.answered) (are_items setup incoming is.answered) tags also.flags back also.merged in
      let flags = merges (are_items setup incoming is.answered) tags is.flags also.flags is.merged merged in
      is.order_is ∙ ap (kept_places tags) flags ∙ sym also.order_is

-- the setup that lines give can receive
pub given_receives : (lines : List (List ℕ)) (said : Said) (setup : Setup) → IsRead trace_format (nothing_said default_capacity) lines said
    → IsSetupOf said setup → CanReceive setup
given_receives lines said setup read given =
    let passes = read_passes default_capacity lines said (omega arith) read in
    record {
      flows = subst CanBeSetUp (sym given.flows) passes.flows;
      lanes =
          subst (λ (records : List FlowRecord). CanBeOpened setup.sids.items (length records)) (sym given.flows)
          (subst (λ (rows : List SidRow). CanBeOpened rows (length said.flows)) (sym given.sids) passes.sids);
    }

-- two setups of what the same lines say have one admitted order
pub one_played_order : AnswersAreOne → MergesAreOne → (said : Said) (setup other : Setup) → IsSetupOf said setup → IsSetupOf said other → CanReceive setup
    → (order another : List ℕ) → IsAdmittedOrder setup (incoming_in said.entries) (map tag_of said.entries) order
    → IsAdmittedOrder other (incoming_in said.entries) (map tag_of said.entries) another → order ≡ another
one_played_order answers merges said setup other given also_given can order another is also =
    let incoming = incoming_in said.entries in
    let tags = map tag_of said.entries in
    one_order setup incoming can answers merges tags order another is
    (order_moved other setup incoming incoming (also_given.flows ∙ sym given.flows) (also_given.sids ∙ sym given.sids) (λ _ _. refl) refl tags another also)

-- ---- a trace that is replayed as it is read

-- why lines are not read is why there is no report
pub replay_fault : (start : TraceState (Unit {0})) (input : List ℕ) (fault : ParseFault) → start.said ≡ nothing_said default_capacity
    → IsReadingFault taking_format start (lines_of input) fault → IsReplayFault input (text_fault_of_parse fault)
replay_fault start input (parse.Line fault) none faulty =
    subst (λ (said : Said). IsFirstFaultyLine trace_format said (lines_of input) fault) none (faulty_alone start (lines_of input) fault faulty)
replay_fault start input parse.OutOfMemory none faulty = tt
