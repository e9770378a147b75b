-- What a trace gives that is followed is what its report says.
use Rattle.std.proofs.Common.{◌≡◌, ◌≢◌, ℕ, zero, suc, ◌<◌, ◌≤◌, ◌-◌, ◌==◌, inl, ⊎_elim, Bool, true, false, Some, None, All, List, [], ◌∷◌, length, map, filter_map, replicate, refl, sym, ap, subst, ◌∙◌, ne_eqb, arith}
use Rattle.std.specs.Prelude.{◌&&◌, ◌||◌, slice_get}
use Rattle.std.proofs.lemmas.Bool.{false≢true, cases_lt}
use Rattle.std.proofs.lemmas.Option.{same_Some, slice_get_within}
use Rattle.docsis_wire.specs.declared.segment.Segment.{Segment}
use Rattle.docsis_wire.proofs.StreamPlaces.{element_at}
use Rattle.flow_core.specs.Events.{FlowEvent}
use Rattle.flow_core.specs.Fates.{Fates, no_fates}
use Rattle.flow_core.specs.declared.counts.FlowCounts.{FlowCounts}
use Rattle.flow_records.specs.Counted.{counted}
use Rattle.flow_records.specs.declared.event.Event.{Event}
use Rattle.flow_records.specs.declared.record.FlowRecord.{FlowRecord}
use Rattle.lane.specs.declared.sids.SidRow.{SidRow}
use Rattle.lane.specs.Limits.{channel_limit}
use Rattle.lane.specs.Rows.{CanBeOpened}
use Rattle.lane.specs.Inputs.{AnsweredInput, AreAnswered}
use Rattle.lane.specs.Report.{requests_of, IsReportOf}
use Rattle.loss_rule.specs.declared.rule.LossRule.{LossRule}
use Rattle.loss_rule.specs.Rule.{Coming, HasChannel, Lasts, AreRuled}
use Rattle.loss_rule.specs.InOrder.{Comes}
use Rattle.bonded_flows.specs.Channels.{has_row, channels_from, channels_within}
use Rattle.bonded_flows.specs.FlowSetup.{FlowSetup}
use Rattle.bonded_flows.specs.ByRule.{GaveByRule}
use Rattle.bonded_flows.specs.Parts.{FlowInput, comes}
use Rattle.bonded_flows.specs.Table.{flow_setup, inputs_at}
use Rattle.consumer.specs.declared.given.Given.{Given}
use Rattle.consumer.specs.Given.{frames_of}
use Rattle.receiver.specs.declared.closing.Closed.{Closed}
use Rattle.receiver.specs.declared.outcome.FlowOutcome.{FlowOutcome}
use Rattle.receiver.specs.declared.outcome.Outcome.{Outcome}
use Rattle.receiver.specs.declared.setup.Setup.{Setup}
use Rattle.receiver.specs.Entries.{Entry, incoming_in, tag_of}
use Rattle.receiver.specs.Faults.{CanReceive}
use Rattle.receiver.specs.HandedIn.{HandedIn, made_of, flow_inputs, answered_on}
use Rattle.receiver.specs.HandedOrder.{IsHandedFrom, order_of, items_in}
use Rattle.receiver.specs.AdmittedOrder.{IsAdmittedOrder, input_counts}
use Rattle.receiver.specs.Intake.{IsIntake}
use Rattle.receiver.specs.Items.{Incoming, lane_setup}
use Rattle.receiver.specs.Received.{IsReceived, GaveAllParts}
use Rattle.receiver.specs.Replaying.{entry_of, IsRecorded}
use Rattle.receiver.specs.Ruled.{ruled_flow, comings_at, IsRuledOutcome, IsOutcomeBy}
use Rattle.receiver.proofs.HandedOrder.{inputs-taken}
use Rattle.receiver.proofs.ReplayedEntries.{sent-all, tags-recorded, entries-handed, all-used}
use Rattle.receiver.proofs.ReplayedOrder.{handed-merge, handed-lanes, handed-admitted}
use Rattle.receiver.proofs.TakenInOrder.{inputs-come, one-part_gave}
use Rattle.texts.specs.FollowedReport.{GaveAsReported, IsGivenAsReported}
use Rattle.texts.proofs.GivenOfTrace.{none_on}
use Rattle.texts.proofs.WiderRule.{rules_narrow}

-- ---- channels that have no row

and_false : (b c : Bool) → c ≡ false → (b && c) ≡ false
and_false true c none = none
and_false false c none = refl

or_false : (b c : Bool) → b ≡ false → c ≡ false → (b || c) ≡ false
or_false true c first second = absurd cc
or_false false c first second = second

-- no row is of a channel for which none can be opened
row_below : (rows : List SidRow) (flow_count : ℕ) → CanBeOpened rows flow_count → (k : ℕ) (row : SidRow) → slice_get rows k ≡ Some row
    → row.channel < channel_limit
row_below rows flow_count can k row at =
    ⊎_elim (λ (below : row.channel < channel_limit). below) (λ (beyond : channel_limit ≤ row.channel). absurd (can.in_range k (row, at, inl beyond)))
    (cases_lt row.channel channel_limit)

no_row : (flow channel : ℕ) → channel_limit ≤ channel → (rows : List SidRow)
    → ((k : ℕ) (row : SidRow) → slice_get rows k ≡ Some row → row.channel < channel_limit) → has_row rows flow channel ≡ false
no_row flow channel beyond [] each = refl
no_row flow channel beyond (row ∷ rows) each =
    let below = each 0 row refl in
    or_false ((row.flow == flow) && (row.channel == channel)) (has_row rows flow channel)
    (and_false (row.flow == flow) (row.channel == channel) (ne_eqb row.channel channel (λ same. omega (arith, beyond, below, same))))
    (no_row flow channel beyond rows (λ k. each (suc k)))

-- so it is no channel of a flow
none_beyond : (rows : List SidRow) (flow : ℕ) → ((channel : ℕ) → channel_limit ≤ channel → has_row rows flow channel ≡ false) → (m channel : ℕ)
    → channel_limit ≤ channel → (j : ℕ) → slice_get (channels_from rows flow channel m) j ≢ Some true
none_beyond rows flow none zero channel beyond j at = absurd cc
none_beyond rows flow none (suc m) channel beyond zero at = false≢true (sym (none channel beyond) ∙ same_Some (has_row rows flow channel) true at)
none_beyond rows flow none (suc m) channel beyond (suc j) at = none_beyond rows flow none m (suc channel) (omega (arith, beyond)) j at

-- segments come on channels of their flow
abbrev pub ComeOnChannels : List SidRow → ℕ → FlowRecord → List Coming → Type 0
ComeOnChannels rows k flow_record comings =
    (p channel : ℕ) (segment : Segment) → Comes comings p channel segment → HasChannel (ruled_flow rows k flow_record) channel

-- the rule decides the same of a flow where more channels are known than those of a replay
ruled_of_four : (rule : LossRule) (rows : List SidRow) (flow_count k : ℕ) (flow_record : FlowRecord) (m : ℕ) (comings : List Coming) (events : List FlowEvent)
    (lasts : Lasts) (fates : Fates) → CanBeOpened rows flow_count → ComeOnChannels rows k flow_record comings
    → AreRuled rule (record { first = flow_record.first; width = flow_record.window; channels = channels_within (suc (suc (suc (suc m)))) rows k }) comings events lasts fates
    → (less : Lasts) × AreRuled rule (ruled_flow rows k flow_record) comings events less fates
ruled_of_four rule rows flow_count k flow_record m comings events lasts fates can come ruled =
    let none = none_beyond rows k (λ channel beyond. no_row k channel beyond rows (row_below rows flow_count can)) m channel_limit (omega arith) in
    rules_narrow flow_record.first flow_record.window (channels_within channel_limit rows k) (channels_from rows k channel_limit m) none
    (length (channels_from rows k channel_limit m)) rule (replicate channel_limit None) no_fates comings events lasts fates
    (λ p channel segment there. slice_get_within (channels_within channel_limit rows k) channel true (come p channel segment there)) ruled

gave_of_four : (rule : LossRule) (check : List ℕ → Bool) (setup : Setup) (channels k : ℕ) (flow_record : FlowRecord) (comings : List Coming)
    (frames : List (List ℕ)) (counts : FlowCounts) → channel_limit ≤ channels → CanReceive setup → ComeOnChannels setup.sids.items k flow_record comings
    → GaveByRule check (flow_setup (made_of rule channels setup) k flow_record) comings frames counts
    → GaveByRule check (flow_setup (made_of rule channel_limit setup) k flow_record) comings frames counts
gave_of_four rule check setup channels k flow_record comings frames counts wide can come gave =
    let four : channels ≡ suc (suc (suc (suc (channels - channel_limit)))) = omega (arith, wide) in
    let again : GaveByRule check (flow_setup (made_of rule (suc (suc (suc (suc (channels - channel_limit))))) setup) k flow_record) comings frames counts =
    subst (λ (c : ℕ). GaveByRule check (flow_setup (made_of rule c setup) k flow_record) comings frames counts) four gave
    in
    let found = ruled_of_four rule setup.sids.items (length setup.flows.items) k flow_record (channels - channel_limit) comings again.events again.lasts again.fates
    can.lanes come again.ruled
    in
    record { events = again.events; lasts = found.0; fates = again.fates; ruled = found.1; n = again.n; outcome = again.outcome; closed = again.closed }

-- what came to a flow gives one thing
abbrev pub GivesOneThing : Type 0
GivesOneThing =
    (check : List ℕ → Bool) (setup : FlowSetup) (comings : List Coming) (frames others : List (List ℕ)) (counts more : FlowCounts)
    → GaveByRule check setup comings frames counts → GaveByRule check setup comings others more → (frames ≡ others) × (counts ≡ more)

-- what a flow gave that is reported
reported_gave : (rule : LossRule) (check : List ℕ → Bool) (setup : Setup) (k : ℕ) (flow_record : FlowRecord) (comings : List Coming) (flow : FlowOutcome)
    → IsRuledOutcome rule check (ruled_flow setup.sids.items k flow_record) flow_record comings flow
    → GaveByRule check (flow_setup (made_of rule channel_limit setup) k flow_record) comings flow.frames.items flow.counts
reported_gave rule check setup k flow_record comings flow is = record {
  events = is.events;
  lasts = is.lasts;
  fates = is.fates;
  ruled = is.ruled;
  n = is.gave.gives.n;
  outcome = is.gave.gives.outcome;
  closed = is.gave.gives.closed;
}

module _ (rule : LossRule) (check : List ℕ → Bool) (channels : ℕ) (wide : channel_limit ≤ channels) (setup : Setup) (can : CanReceive setup) (entries : List Entry)
    (handed : List HandedIn) (recorded : All IsRecorded handed) (are : filter_map entry_of handed ≡ entries) (given : List Given) (closed : Closed)
    (received : IsReceived check (made_of rule channels setup) handed given closed) where
  abbrev pub incoming : Incoming
  incoming = incoming_in entries

  abbrev pub order : List ℕ
  order = order_of (length setup.flows.items) handed

  abbrev pub items : List Event
  items = items_in (length setup.flows.items) handed

  pub from : IsHandedFrom incoming (input_counts incoming) handed
  from = entries-handed handed entries recorded are

  pub answers : (channel : ℕ) → channel < channel_limit → AreAnswered (lane_setup setup channel) (answered_on channel handed)
  answers channel below = received.answered channel (omega (arith, wide, below))

  -- what was handed in is taken in the order of the entries
  pub followed_order : IsAdmittedOrder setup (incoming_in entries) (map tag_of entries) (order_of (length setup.flows.items) handed)
  followed_order =
      subst (λ (tags : List ℕ). IsAdmittedOrder setup incoming tags order) (tags-recorded handed recorded ∙ ap (map tag_of) are)
      (handed-admitted setup incoming (input_counts incoming) handed from (all-used incoming) answers)

  abbrev pub followed_intake : IsIntake setup (incoming_in entries) (order_of (length setup.flows.items) handed)
  followed_intake = record {
    answered = λ channel. answered_on channel handed;
    lanes = handed-lanes setup incoming (input_counts incoming) handed from (all-used incoming) answers;
    items = items_in (length setup.flows.items) handed;
    merged = handed-merge setup incoming (input_counts incoming) handed from (all-used incoming);
  }

  module _ (outcome : Outcome) (is : IsOutcomeBy rule check setup (incoming_in entries) (order_of (length setup.flows.items) handed) outcome)
      (same_answers : (channel : ℕ) → channel < channel_limit → answered_on channel handed ≡ is.intake.answered channel)
      (same_items : items_in (length setup.flows.items) handed ≡ is.intake.items)
      (come : (k : ℕ) (flow_record : FlowRecord)
      → ComeOnChannels setup.sids.items k flow_record (comings_at k (order_of (length setup.flows.items) handed) (items_in (length setup.flows.items) handed)))
      (gives : GivesOneThing) where
    -- a flow gave what is reported of it
    flow_reported : (k : ℕ) (flow : FlowOutcome) → slice_get outcome.flows.items k ≡ Some flow → GaveAsReported setup given closed k flow
    flow_reported k flow there =
        let within = slice_get_within outcome.flows.items k flow there in
        let count = is.flows.count in
        let also = received.flow_count in
        let record_at = element_at setup.flows.items k (omega (arith, within, count)) in
        let counts_at = element_at closed.flows.items k (omega (arith, within, count, also)) in
        let one = is.flows.each k record_at.0 record_at.1 in
        let same : one.0 ≡ flow = same_Some one.0 flow (sym one.1 ∙ there) in
        let comings = comings_at k order items in
        let ruled : IsRuledOutcome rule check (ruled_flow setup.sids.items k record_at.0) record_at.0 comings flow =
        subst (λ (f : FlowOutcome). IsRuledOutcome rule check (ruled_flow setup.sids.items k record_at.0) record_at.0 comings f) same
        (subst (λ (t : List Event). IsRuledOutcome rule check (ruled_flow setup.sids.items k record_at.0) record_at.0 (comings_at k order t) one.0)
        (sym same_items) one.2)
        in
        let inputs : inputs_at k (flow_inputs (length setup.flows.items) handed) ≡ map comes comings =
        ap (inputs_at k) (inputs-taken (length setup.flows.items) handed (sent-all handed recorded)) ∙ inputs-come k order items
        in
        let parts = subst (λ (t : List FlowInput). GaveAllParts check (flow_setup (made_of rule channels setup) k record_at.0) t (frames_of k given) counts_at.0) inputs
        (received.flows k record_at.0 counts_at.0 record_at.1 counts_at.1)
        in
        let gave = gave_of_four rule check setup channels k record_at.0 comings (frames_of k given) counts_at.0 wide can (come k record_at.0)
        (one-part_gave check (flow_setup (made_of rule channels setup) k record_at.0) comings (frames_of k given) counts_at.0 parts)
        in
        let both = gives check (flow_setup (made_of rule channel_limit setup) k record_at.0) comings (frames_of k given) flow.frames.items counts_at.0 flow.counts gave
        (reported_gave rule check setup k record_at.0 comings flow ruled)
        in
        record {
          flow_record = record_at.0;
          at = record_at.1;
          identifier = sym ruled.gave.sfid;
          frames = both.0;
          counts = counts_at.1 ∙ ap (λ (c : FlowCounts). Some c) both.1;
        }

    -- **and all is given and counted that is reported**
    pub given_as_reported : IsGivenAsReported outcome setup given closed
    given_as_reported = record {
      flow_count = received.flow_count ∙ sym is.flows.count;
      flows = flow_reported;
      other_flows = λ k beyond. let count = is.flows.count in received.others k (omega (arith, beyond, count));
      requests = λ channel below.
          received.requests channel ∙ ap requests_of (same_answers channel below) ∙ sym (is.requests channel below);
      other_channels = λ channel beyond. received.requests channel ∙ ap requests_of (none_on channel beyond handed recorded);
      tallies = λ channel report tally below at there.
          let counted_of = received.tallies channel tally there in
          let told = subst (λ (t : List AnsweredInput). IsReportOf t report) (sym (same_answers channel below)) (is.reports channel report below at) in
          record {
            admitted = counted_of.admitted ∙ sym told.admitted;
            refused = counted_of.refused ∙ ap (λ (t : List ℕ). counted (length t)) (sym told.refused);
          };
    }
