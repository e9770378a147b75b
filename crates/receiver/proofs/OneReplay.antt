-- Lists that are replayed in one order have one outcome, or one fault.
use Rattle.std.proofs.Common.{◌≡◌, ◌≢◌, ℕ, ◌<◌, Bool, Some, List, length, map, slice_get, refl, sym, ap, subst, ◌∙◌, arith}
use Rattle.std.proofs.lemmas.Option.{slice_get_within, slice_get-get_or, same_Some}
use Rattle.docsis_wire.proofs.StreamPlaces.{element_at}
use Rattle.flow_records.specs.declared.record.FlowRecord.{FlowRecord}
use Rattle.flow_core.specs.declared.counts.FlowCounts.{FlowCounts}
use Rattle.flow_records.specs.declared.event.Event.{Event}
use Rattle.flow_core.specs.Fates.{no_fates}
use Rattle.flow_core.specs.Events.{FlowEvent}
use Rattle.loss_rule.specs.declared.rule.LossRule.{LossRule}
use Rattle.loss_rule.specs.Rule.{no_lasts, AreRuled}
use Rattle.loss_rule.proofs.Reaching.{reached-none}
use Rattle.loss_rule.proofs.Rulings.{rules-once}
use Rattle.flow_records.specs.Limits.{flows_max}
use Rattle.flow_records.proofs.Setup.{one_fault as one_setup_fault, fault-refused as setup-refused}
use Rattle.receiver.specs.declared.outcome.FlowOutcome.{FlowOutcome}
use Rattle.lane.specs.declared.report.LaneReport.{LaneReport}
use Rattle.receiver.specs.declared.outcome.Outcome.{Outcome}
use Rattle.receiver.specs.declared.one_thread.ReplayFault.{ReplayFault}
use Rattle.receiver.specs.declared.one_thread.ReplayFault.TheVariants.{Setup as AtSetup, Lane as AtLane, BadOrder, OutOfMemory}
use Rattle.receiver.specs.declared.setup.Setup.{Setup}
use Rattle.lane.specs.Limits.{channel_limit}
use Rattle.lane.specs.Inputs.{AnsweredInput}
use Rattle.lane.specs.Report.{admitted_of, requests_of}
use Rattle.receiver.specs.Order.{lengths_of, IsOrderFault}
use Rattle.lane.specs.Limits.{senders}
use Rattle.receiver.specs.Items.{Incoming, items_of, events_at}
use Rattle.lane.specs.Report.{event_of_admitted}
use Rattle.receiver.specs.Intake.{IsIntake}
use Rattle.receiver.specs.Outcome.{IsOutcome, IsOutcomeOfFlow, AreOutcomesOfFlows, GivesAtItsClose, requests_on}
use Rattle.receiver.specs.Ruled.{ruled_flow, comings_at, AreRuledOutcomes, IsOutcomeBy}
use Rattle.lane.specs.Report.{IsReportOf}
use Rattle.receiver.specs.Faults.{CanReceive, HasBadOrder, IsFirstFault, IsReplayFault, IsTagsFault}
use Rattle.receiver.specs.AdmittedOrder.{input_counts}
use Rattle.receiver.specs.SameOutcome.{GaveTheSame, ReportTheSame, IsSameOutcome}
use Rattle.lane.proofs.RowFaults.{one_fault as one_lane_fault, fault-refused as lane-refused}
use Rattle.receiver.proofs.OrderPlaces.{one-fault, lawful-faultless}
use Rattle.receiver.proofs.MergedLists.{merge-lawful, one-merge, one-lane, same-lengths, merge-same}
use Rattle.receiver.proofs.Senders.{five}

-- what a flow gives by its close is one thing
abbrev pub HasOneClose : (List ℕ → Bool) → Type 0
HasOneClose check =
    (flow_record : FlowRecord) (events : List FlowEvent) (frames others : List (List ℕ)) (counts more : FlowCounts)
    → GivesAtItsClose check flow_record events frames counts → GivesAtItsClose check flow_record events others more
    → (frames ≡ others) × (counts ≡ more)

-- the same of a flow
flow-same : (check : List ℕ → Bool) → HasOneClose check → (flow_record : FlowRecord) (events events' : List FlowEvent) (flow other : FlowOutcome) → events' ≡ events
    → IsOutcomeOfFlow check flow_record events flow → IsOutcomeOfFlow check flow_record events' other → GaveTheSame flow other
flow-same check close flow_record events events' flow other same is are =
    let gives = subst (λ e. GivesAtItsClose check flow_record e other.frames.items other.counts) same are.gives in
    let both = close flow_record events flow.frames.items other.frames.items flow.counts other.counts is.gives gives in
    record { sfid = is.sfid ∙ sym are.sfid; frames = both.0; counts = both.1 }

module _ (check : List ℕ → Bool) (close : HasOneClose check) (records : List FlowRecord) where
  -- and of all flows
  flows-same : (items items' : List Event) (flows others : List FlowOutcome) → items' ≡ items
      → AreOutcomesOfFlows check records items flows → AreOutcomesOfFlows check records items' others
      → (k : ℕ) (flow other : FlowOutcome) → slice_get flows k ≡ Some flow → slice_get others k ≡ Some other → GaveTheSame flow other
  flows-same items items' flows others same is are k flow other at also =
      let within : k < length flows = slice_get_within flows k flow at in
      let count = is.count in
      let none : FlowRecord = record { sfid = 0; first = 0; window = 0; clusters = 0; ring = 0 } in
      let stands = slice_get-get_or records k none (omega arith) in
      let one = is.each k _ stands in
      let two = are.each k _ stands in
      let one-is : one.0 ≡ flow = cc in
      let two-is : two.0 ≡ other = cc in
      subst (λ f. GaveTheSame f other) one-is (subst (λ f. GaveTheSame one.0 f) two-is
      (flow-same check close _ (events_at k items) (events_at k items') one.0 two.0 (ap (events_at k) same) one.2 two.2))

-- and of all flows by a rule
ruled-same : (rule : LossRule) (check : List ℕ → Bool) → HasOneClose check → (setup : Setup) (order : List ℕ) (items items' : List Event) (flows others : List FlowOutcome)
    → items' ≡ items → AreRuledOutcomes rule check setup order items flows → AreRuledOutcomes rule check setup order items' others
    → (k : ℕ) (flow other : FlowOutcome) → slice_get flows k ≡ Some flow → slice_get others k ≡ Some other → GaveTheSame flow other
ruled-same rule check close setup order items items' flows others same is are k flow other at also =
    let within : k < length flows = slice_get_within flows k flow at in
    let count = is.count in
    let stands = element_at setup.flows.items k (omega arith) in
    let one = is.each k stands.0 stands.1 in
    let two = are.each k stands.0 stands.1 in
    let one-is : one.0 ≡ flow = same_Some one.0 flow (sym one.1 ∙ at) in
    let two-is : two.0 ≡ other = same_Some two.0 other (sym two.1 ∙ also) in
    let of_rule = ruled_flow setup.sids.items k stands.0 in
    let again = subst (λ i. AreRuled rule of_rule (comings_at k order i) two.2.events two.2.lasts two.2.fates) same two.2.ruled in
    let events = (rules-once rule of_rule (no_lasts of_rule) no_fates (comings_at k order items) two.2.events one.2.events two.2.lasts one.2.lasts two.2.fates one.2.fates
    (reached-none of_rule.first of_rule.width) again one.2.ruled).0 in
    subst (λ f. GaveTheSame f other) one-is (subst (λ f. GaveTheSame one.0 f) two-is
    (flow-same check close stands.0 one.2.events two.2.events one.0 two.0 events one.2.gave two.2.gave))

-- what an outcome says besides of what its flows gave
record TellsOf (answered : ℕ → List AnsweredInput) (order : List ℕ) (outcome : Outcome) : Type 0 where
  requests : (channel : ℕ) → channel < channel_limit → requests_on outcome channel ≡ requests_of (answered channel)
  reports : (channel : ℕ) (report : LaneReport) → channel < channel_limit → slice_get outcome.lanes channel ≡ Some report → IsReportOf (answered channel) report
  order_is : outcome.order.items ≡ order

-- the same of a channel
report-same : (taken others : List AnsweredInput) (report other : LaneReport) → taken ≡ others → IsReportOf taken report → IsReportOf others other → ReportTheSame report other
report-same taken others report other same is are =
    let also = subst (λ t. IsReportOf t other) (sym same) are in
    record { admitted = is.admitted ∙ sym also.admitted; refused = is.refused ∙ sym also.refused }

module _ (setup : Setup) (incoming : Incoming) (order : List ℕ) (can : CanReceive setup) where
  -- the items of each sender are the same, whatever answers the inputs have
  items-same : (answered others : ℕ → List AnsweredInput) → ((channel : ℕ) → channel < channel_limit → answered channel ≡ others channel)
      → (s : ℕ) → s < senders → items_of setup incoming answered s ≡ items_of setup incoming others s
  items-same answered others same =
      let items : List AnsweredInput → List Event = λ taken. map event_of_admitted (admitted_of taken) in
      five (λ s. items_of setup incoming answered s ≡ items_of setup incoming others s)
      (ap items (same 0 (omega arith))) (ap items (same 1 (omega arith))) (ap items (same 2 (omega arith))) (ap items (same 3 (omega arith))) refl

  module _ (is are : IsIntake setup incoming order) where
    -- so what is taken in is one: the answers to the inputs of each channel, and the items
    pub one-answered : (channel : ℕ) → channel < channel_limit → is.answered channel ≡ are.answered channel
    one-answered = one-lane setup incoming can is.answered are.answered is.lanes are.lanes

    pub one-items : is.items ≡ are.items
    one-items =
        let again = merge-same (items_of setup incoming is.answered) (items_of setup incoming are.answered) order is.items
        (items-same is.answered are.answered one-answered) is.merged
        in
        one-merge (items_of setup incoming are.answered) order is.items are.items again are.merged

    -- and so are requests and reports, and with them what flows gave the same make the same outcome
    outcomes-same : (outcome other : Outcome) → TellsOf is.answered order outcome → TellsOf are.answered order other
        → length outcome.flows.items ≡ length other.flows.items
        → ((k : ℕ) (flow another : FlowOutcome) → slice_get outcome.flows.items k ≡ Some flow → slice_get other.flows.items k ≡ Some another → GaveTheSame flow another)
        → IsSameOutcome outcome other
    outcomes-same outcome other tells also count flows = record {
      count = count;
      flows = flows;
      requests = λ channel below. tells.requests channel below ∙ ap requests_of (one-answered channel below) ∙ sym (also.requests channel below);
      reports = λ channel report another below at again.
          report-same (is.answered channel) (are.answered channel) report another (one-answered channel below)
          (tells.reports channel report below at) (also.reports channel another below again);
      order = tells.order_is ∙ sym also.order_is;
    }

  -- what is taken in has no fault
  pub intake-faultless : IsIntake setup incoming order → (k : ℕ) → ¬ (HasBadOrder setup incoming order k)
  intake-faultless intake k bad =
      lawful-faultless (lengths_of (items_of setup incoming intake.answered)) order
      (merge-lawful (items_of setup incoming intake.answered) order intake.items intake.merged) k
      (subst (λ lengths. IsOrderFault lengths order k) (same-lengths setup incoming can bad.answered intake.answered bad.lanes intake.lanes) bad.fault)

  -- so there is one outcome by a rule
  pub one-ruled_outcome : (rule : LossRule) (check : List ℕ → Bool) → HasOneClose check → (outcome other : Outcome) → IsOutcomeBy rule check setup incoming order outcome
      → IsOutcomeBy rule check setup incoming order other → IsSameOutcome outcome other
  one-ruled_outcome rule check close outcome other is are =
      outcomes-same is.intake are.intake outcome other
      (record { requests = is.requests; reports = is.reports; order_is = is.order_is })
      (record { requests = are.requests; reports = are.reports; order_is = are.order_is })
      (is.flows.count ∙ sym are.flows.count)
      (ruled-same rule check close setup order is.intake.items are.intake.items outcome.flows.items other.flows.items (sym (one-items is.intake are.intake)) is.flows are.flows)

  module _ (check : List ℕ → Bool) (outcome : Outcome) (is : IsOutcome check setup incoming order outcome) where
    -- and one without
    pub one-outcome : HasOneClose check → (other : Outcome) → IsOutcome check setup incoming order other → IsSameOutcome outcome other
    one-outcome close other are =
        outcomes-same is.intake are.intake outcome other
        (record { requests = is.requests; reports = is.reports; order_is = is.order_is })
        (record { requests = are.requests; reports = are.reports; order_is = are.order_is })
        (is.flows.count ∙ sym are.flows.count)
        (flows-same check close setup.flows.items is.intake.items are.intake.items outcome.flows.items other.flows.items (sym (one-items is.intake are.intake)) is.flows are.flows)

  -- an order of the items has one fault
  one-bad_order : (j k : ℕ) → HasBadOrder setup incoming order j → HasBadOrder setup incoming order k → j ≡ k
  one-bad_order j k is are =
      one-fault (lengths_of (items_of setup incoming is.answered)) order j k is.fault
      (subst (λ lengths. IsOrderFault lengths order k) (same-lengths setup incoming can are.answered is.answered are.lanes is.lanes) are.fault)

-- a setup has one first fault
first-one : (setup : Setup) (IsBadOrder : ℕ → Type 0) → ((j k : ℕ) → CanReceive setup → IsBadOrder j → IsBadOrder k → j ≡ k) → (fault other : ReplayFault)
    → fault ≢ OutOfMemory → other ≢ OutOfMemory → IsFirstFault setup IsBadOrder fault → IsFirstFault setup IsBadOrder other → fault ≡ other
first-one setup P one (AtSetup f) (AtSetup g) no_f no_g is are = ap AtSetup (one_setup_fault flows_max setup.flows.items f g is are)
first-one setup P one (AtSetup f) (AtLane g) no_f no_g is are = absurd (setup-refused flows_max setup.flows.items f is are.0)
first-one setup P one (AtSetup f) (BadOrder j) no_f no_g is are = absurd (setup-refused flows_max setup.flows.items f is are.0.flows)
first-one setup P one (AtLane f) (AtSetup g) no_f no_g is are = absurd (setup-refused flows_max setup.flows.items g are is.0)
first-one setup P one (AtLane f) (AtLane g) no_f no_g is are = ap AtLane (one_lane_fault channel_limit setup.sids.items (length setup.flows.items) f g is.1 are.1)
first-one setup P one (AtLane f) (BadOrder j) no_f no_g is are = absurd (lane-refused channel_limit setup.sids.items (length setup.flows.items) f is.1 are.0.lanes)
first-one setup P one (BadOrder j) (AtSetup g) no_f no_g is are = absurd (setup-refused flows_max setup.flows.items g are is.0.flows)
first-one setup P one (BadOrder j) (AtLane g) no_f no_g is are = absurd (lane-refused channel_limit setup.sids.items (length setup.flows.items) g are.1 is.0.lanes)
first-one setup P one (BadOrder j) (BadOrder k) no_f no_g is are = ap BadOrder (one j k is.0 is.1 are.1)
first-one setup P one OutOfMemory other no_f no_g is are = absurd (no_f refl)
first-one setup P one fault OutOfMemory no_f no_g is are = absurd (no_g refl)

-- so nothing is replayed for one reason at most, nor is an order admitted
pub one-replay_fault : (setup : Setup) (incoming : Incoming) (order : List ℕ) (fault other : ReplayFault) → fault ≢ OutOfMemory → other ≢ OutOfMemory
    → IsReplayFault setup incoming order fault → IsReplayFault setup incoming order other → fault ≡ other
one-replay_fault setup incoming order = first-one setup (HasBadOrder setup incoming order) (λ j k can. one-bad_order setup incoming order can j k)

pub one-tags_fault : (setup : Setup) (incoming : Incoming) (tags : List ℕ) (fault other : ReplayFault) → fault ≢ OutOfMemory → other ≢ OutOfMemory
    → IsTagsFault setup incoming tags fault → IsTagsFault setup incoming tags other → fault ≡ other
one-tags_fault setup incoming tags = first-one setup (IsOrderFault (input_counts incoming) tags) (λ j k can. one-fault (input_counts incoming) tags j k)
