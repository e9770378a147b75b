-- What is known of a run that collected what it gave, and of its outcome.
use Rattle.std.proofs.Common.{◌≡◌, ℕ, ◌<◌, nat_lt, Bool, IsTrue, Option, Some, None, IfSome, List, [], ◌++◌, map, filter, if◌then◌else◌, length, slice_get, Vec, Global, refl, sym, ap, subst, ◌∙◌, append-nil, arith}
use Rattle.std.proofs.lemmas.Option.{slice_get_within, same_Some}
use Rattle.docsis_wire.proofs.StreamPlaces.{element_at}
use Rattle.docsis_wire.specs.declared.buffer.Bytes.{Bytes}
use Rattle.flow_core.specs.declared.counts.FlowCounts.{FlowCounts}
use Rattle.flow_records.specs.declared.decision.Decision.{Decision}
use Rattle.flow_records.specs.declared.record.FlowRecord.{FlowRecord}
use Rattle.flow_records.specs.Decisions.{names_a_flow, event_of_decision}
use Rattle.lane.specs.declared.admitted.Request.{Request}
use Rattle.lane.specs.declared.report.LaneReport.{LaneReport}
use Rattle.lane.specs.Limits.{channel_limit}
use Rattle.lane.specs.Report.{IsReportOf, admitted_of, event_of_admitted}
use Rattle.loss_rule.specs.declared.rule.LossRule.{LossRule}
use Rattle.consumer.specs.declared.given.Given.{Given}
use Rattle.consumer.specs.declared.collected.Collected.{Collected}
use Rattle.consumer.specs.Given.{frames_of, requests_given}
use Rattle.consumer.specs.Collecting.{HasNothing, HasCollected, list_at}
use Rattle.receiver.specs.declared.setup.Setup.{Setup}
use Rattle.receiver.specs.declared.outcome.FlowOutcome.{FlowOutcome}
use Rattle.receiver.specs.declared.outcome.Outcome.{Outcome}
use Rattle.receiver.specs.Items.{Incoming, AreLanesOf, items_of}
use Rattle.receiver.specs.Intake.{IsIntake}
use Rattle.receiver.specs.Outcome.{GivesAtItsClose}
use Rattle.receiver.specs.Ruled.{ruled_flow, comings_at, IsRuledOutcome, IsOutcomeBy}
use Rattle.receiver.proofs.PlayedOut.{list-there}
use Rattle.workers.specs.declared.channel_input.ChannelInput.{ChannelInput}
use Rattle.workers.specs.declared.consumers.Consumers.{Consumers}
use Rattle.uplink.specs.declared.finish.Concluded.{Concluded}
use Rattle.uplink.specs.declared.finish.Ran.{Ran}
use Rattle.uplink.specs.declared.tap.NoTap.{NoTap}
use Rattle.uplink.specs.declared.tapped.Tapped.{Tapped}
use Rattle.uplink.specs.Received.{IsAnswerBy}
use Rattle.uplink.specs.Inside.Collected.{CanBeMade, IsMadeOf}
use Rattle.uplink.specs.Inside.Offering.{HasOrder}
use Rattle.uplink.specs.Channels.{items_within}
use Rattle.uplink.specs.Inside.Running.{HaveNotes, notes_on, HasRun, ConcludesAnswer}

-- nothing more is collected where nothing is given
still-nothing : (start : Collected) → HasCollected start [] start
still-nothing start whole = (
  whole,
  record {
    flow_count = refl;
    channel_count = refl;
    frames = λ k. sym (append-nil (list_at start.frames.items k));
    requests = λ channel. sym (append-nil (list_at start.requests.items channel));
  },
)

-- what was collected of what was given
record AreCollected (flow_count channel_count : ℕ) (given : List Given) (collected : Collected) : Type 0 where
  pub flow_count_is : length collected.frames.items ≡ flow_count
  pub channel_count_is : length collected.requests.items ≡ channel_count
  pub frames : (k : ℕ) → list_at collected.frames.items k ≡ frames_of k given
  pub requests : (channel : ℕ) → list_at collected.requests.items channel ≡ requests_given channel given

are-collected : (flow_count channel_count : ℕ) (start end : Collected) (given : List Given) → HasNothing flow_count channel_count start → HasCollected start given end
    → IsTrue end.whole → AreCollected flow_count channel_count given end
are-collected flow_count channel_count start end given nothing has whole =
    let grew = (has whole).1 in
    record {
      flow_count_is = grew.flow_count ∙ nothing.frames.many;
      channel_count_is = grew.channel_count ∙ nothing.requests.many;
      frames = λ k. grew.frames k ∙ ap (λ (t : List (List ℕ)). t ++ frames_of k given) (nothing.frames.empty k);
      requests = λ channel. grew.requests channel ∙ ap (λ (t : List Request). t ++ requests_given channel given) (nothing.requests.empty channel);
    }

-- an order that was kept from the beginning is whole
kept-order : (first : Vec ℕ Global) (kept : Option (Vec ℕ Global)) (order : List ℕ) (now : Vec ℕ Global) → HasOrder (Some first) order kept → first.items ≡ []
    → kept ≡ Some now → now.items ≡ order
kept-order first kept order now has empty is =
    let same : has.0 ≡ now = same_Some has.0 now (sym has.1 ∙ is) in
    ap (λ (v : Vec ℕ Global). v.items) (sym same) ∙ has.2 ∙ ap (λ l. l ++ order) empty

module _ {F Q : Type 0} (rule : LossRule) (check : List ℕ → Bool) (setup : Setup) (came_in came_first : List (List ChannelInput) → Incoming → Type 0) (first : Vec ℕ Global) (empty : first.items ≡ [])
    (consumers : Consumers (Tapped F NoTap) (Tapped NoTap Q)) (ran : Ran (Tapped F NoTap) (Tapped NoTap Q) LaneReport)
    (has : HasRun (λ start given now. HasCollected start.collected given now.collected) (λ start given now. HasCollected start.collected given now.collected)
    IsReportOf channel_limit rule check setup came_in came_first (Some first) consumers ran)
    (no_frames : HasNothing (length setup.flows.items) 0 consumers.consumer.collected) (no_requests : HasNothing 0 channel_limit consumers.scheduler.collected) where
  -- who collected the frames, and the requests
  abbrev kept_frames : Collected
  kept_frames = ran.consumers.consumer.collected

  abbrev kept_requests : Collected
  kept_requests = ran.consumers.scheduler.collected

  -- what was collected of the frames, and of the requests
  frames-collected : IsTrue kept_frames.whole → AreCollected (length setup.flows.items) 0 has.frames kept_frames
  frames-collected whole =
      are-collected (length setup.flows.items) 0 consumers.consumer.collected kept_frames has.frames no_frames
      (has.were_given.consumer_became consumers.consumer [] (still-nothing consumers.consumer.collected)) whole

  requests-collected : IsTrue kept_requests.whole → AreCollected 0 channel_limit has.requests kept_requests
  requests-collected whole =
      are-collected 0 channel_limit consumers.scheduler.collected kept_requests has.requests no_requests
      (has.were_given.scheduler_became consumers.scheduler [] (still-nothing consumers.scheduler.collected)) whole

  -- an outcome can be made of it
  pub can-be-made : CanBeMade (length setup.flows.items) kept_frames kept_requests ran.concluded
  can-be-made = record {
    frame_lists = λ whole. (frames-collected whole).flow_count_is;
    request_lists = λ whole. (requests-collected whole).channel_count_is;
    counts = counted ran.concluded has.answers;
    notes = noted ran.concluded has.answers;
  }
    where
      counted : (concluded : Option (Concluded LaneReport)) → IfSome concluded (ConcludesAnswer IsReportOf channel_limit rule check setup came_in (Some first) has.frames has.requests)
          → IfSome concluded (λ c. length c.counts.items ≡ length setup.flows.items)
      counted None answers = tt
      counted (Some c) answers = answers.answer.flow_count

      noted : (concluded : Option (Concluded LaneReport)) → IfSome concluded (ConcludesAnswer IsReportOf channel_limit rule check setup came_in (Some first) has.frames has.requests)
          → IfSome concluded (λ c. HaveNotes channel_limit c.lanes)
      noted None answers = tt
      noted (Some c) answers = answers.have_notes

  module _ (outcome : Outcome) (made : IsMadeOf setup.flows.items kept_frames kept_requests ran.concluded outcome) where
    -- the answer that was concluded
    pub answers : ConcludesAnswer IsReportOf channel_limit rule check setup came_in (Some first) has.frames has.requests made.concluded
    answers =
        subst (λ (o : Option (Concluded LaneReport)). IfSome o (ConcludesAnswer IsReportOf channel_limit rule check setup came_in (Some first) has.frames has.requests)) made.was has.answers

    abbrev order : List ℕ
    order = answers.order

    abbrev answer : IsAnswerBy IsReportOf channel_limit rule check setup answers.incoming order has.frames has.requests made.concluded.counts.items (notes_on made.concluded.lanes)
    answer = answers.answer

    -- what flow k gave, as the outcome says
    flow-is : (k : ℕ) (flow_record : FlowRecord) (flow : FlowOutcome) → slice_get setup.flows.items k ≡ Some flow_record → slice_get outcome.flows.items k ≡ Some flow
        → IsRuledOutcome rule check (ruled_flow setup.sids.items k flow_record) flow_record (comings_at k order answer.intake.items) flow
    flow-is k flow_record flow of_flow at =
        let within = slice_get_within setup.flows.items k flow_record of_flow in
        let collected = frames-collected made.frames_whole in
        let frames = element_at kept_frames.frames.items k (let count = collected.flow_count_is in omega arith) in
        let count = element_at made.concluded.counts.items k (let count = answer.flow_count in omega arith) in
        let says = made.flows.each k flow flow_record frames.0 count.0 at of_flow frames.1 count.1 in
        let gave = answer.flows k flow_record count.0 of_flow count.1 in
        let same : frames_of k has.frames ≡ flow.frames.items =
        sym (ap (λ (v : Vec Bytes Global). v.items) says.1 ∙ sym (list-there kept_frames.frames.items k frames.0 frames.1) ∙ collected.frames k) in
        record {
          events = gave.events;
          lasts = gave.lasts;
          fates = gave.fates;
          ruled = gave.ruled;
          gave = record {
            sfid = says.0;
            gives = subst (λ (counts : FlowCounts). GivesAtItsClose check flow_record gave.events flow.frames.items counts) (sym says.2)
                (subst (λ (given : List (List ℕ)). GivesAtItsClose check flow_record gave.events given count.0) same gave.gives);
          };
        }

    -- each channel's report
    reported : (channel : ℕ) (report : LaneReport) → channel < channel_limit → slice_get outcome.lanes channel ≡ Some report
        → IsReportOf (answer.intake.answered channel) report
    reported channel report below at =
        let noted = answer.noted channel below in
        subst (IsReportOf (answer.intake.answered channel)) (same_Some noted.0 report (sym noted.1 ∙ made.lanes_are channel report at)) noted.2

    -- what came in, as four channels have it
    module _ (incoming : Incoming) (same : (channel : ℕ) → channel < channel_limit → answers.incoming.inputs channel ≡ incoming.inputs channel)
        (decisions : answers.incoming.decisions ≡ incoming.decisions) where
      lanes-of : AreLanesOf setup incoming answer.intake.answered
      lanes-of channel below =
          let lane = answer.intake.lanes channel below in
          record { answers = lane.answers; inputs = lane.inputs ∙ same channel below }

      items-same : (sender : ℕ) → items_within channel_limit setup answers.incoming answer.intake.answered sender ≡ items_of setup incoming answer.intake.answered sender
      items-same sender =
          ap (λ (d : List Decision). if nat_lt sender channel_limit then map event_of_admitted (admitted_of (answer.intake.answered sender))
          else map event_of_decision (filter (names_a_flow (length setup.flows.items)) d)) decisions

      abbrev intake-of : IsIntake setup incoming order
      intake-of = record {
        answered = answer.intake.answered;
        lanes = lanes-of;
        items = answer.intake.items;
        merged = record {
          named = answer.intake.merged.named;
          paired = answer.intake.merged.paired;
          lists_are = λ sender below. answer.intake.merged.lists_are sender below ∙ items-same sender;
        };
      }

      -- it is the one-thread answer
      pub outcome-of-collected : IsOutcomeBy rule check setup incoming outcome.order.items outcome
      outcome-of-collected =
          let ordered : outcome.order.items ≡ order = kept-order first made.concluded.order order outcome.order answers.ordered empty made.order_is in
          let collected = requests-collected made.requests_whole in
          let is : IsOutcomeBy rule check setup incoming order outcome =
          record {
            intake = intake-of;
            flows = record {
              count = made.flows.count;
              each = λ k flow_record of_flow.
                  let within = slice_get_within setup.flows.items k flow_record of_flow in
                  let flow = element_at outcome.flows.items k (let count = made.flows.count in omega arith) in
                  (flow.0, flow.1, flow-is k flow_record flow.0 of_flow flow.1);
            };
            request_lists = ap (λ (lists : List (Vec Request Global)). length lists) made.requests_are ∙ collected.channel_count_is;
            requests = λ channel below.
                ap (λ (lists : List (Vec Request Global)). list_at lists channel) made.requests_are ∙ collected.requests channel ∙ answer.requested channel below;
            report_count = made.lane_count;
            reports = reported;
            order_is = ordered;
          } in
          subst (λ o. IsOutcomeBy rule check setup incoming o outcome) (sym ordered) is
