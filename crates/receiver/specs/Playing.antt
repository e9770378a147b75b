-- A replay under way: a receiver to which inputs and decisions of some lists were handed in, and
-- what it gave.
use Rattle.std.specs.Prelude.{◌≡◌, ℕ, ◌<◌, ◌≤◌, ◌⊎◌, Bool, Some, List, Vec, [], ◌∷◌, ◌++◌, is_some, length, map, slice_get}
use Rattle.std.specs.declared.alloc.Global.{Global}
use Rattle.flow_records.specs.declared.record.FlowRecord.{FlowRecord}
use Rattle.flow_core.specs.declared.counts.FlowCounts.{FlowCounts}
use Rattle.lane.specs.declared.input.Input.{Input}
use Rattle.lane.specs.declared.report.LaneReport.{LaneReport}
use Rattle.lane.specs.Limits.{channel_limit, senders}
use Rattle.lane.specs.Inputs.{Answer, AreAnswered}
use Rattle.lane.specs.Report.{admitted_by, refusal_numbers, requests_of, IsReportOf}
use Rattle.loss_rule.specs.declared.rule.LossRule.{LossRule}
use Rattle.consumer.specs.declared.given.Given.{Given}
use Rattle.consumer.specs.declared.collected.Collected.{Collected}
use Rattle.consumer.specs.Collecting.{HasNothing, HasCollected, list_at}
use Rattle.receiver.specs.declared.setup.Setup.{Setup}
use Rattle.receiver.specs.declared.tally.LaneTally.{LaneTally}
use Rattle.receiver.specs.declared.outcome.FlowOutcome.{FlowOutcome}
use Rattle.receiver.specs.declared.outcome.Outcome.{Outcome}
use Rattle.receiver.specs.declared.playing.Playing.{Playing}
use Rattle.receiver.specs.Items.{Incoming, lane_setup}
use Rattle.receiver.specs.Outcome.{requests_on}
use Rattle.receiver.specs.Ruled.{AreRuledOutcomes}
use Rattle.receiver.specs.HandedIn.{HandedIn, came, made_of, answered_on}
use Rattle.receiver.specs.HandedOrder.{sender_of, gives_item, order_of, items_in, IsHandedFrom, IsUsedUp}
use Rattle.receiver.specs.Receiving.{StandsFor}

module _ {C : Type 0} (accepts : C → List ℕ → Bool) where
  -- It stands for all that was handed in, what it gave was collected, and each refusal's number was
  -- kept.
  pub record Plays (rule : LossRule) (check : List ℕ → Bool) (setup : Setup) (playing : Playing C) (handed : List HandedIn) : Type 0 where
    pub given : List Given
    pub stands : StandsFor accepts playing.receiver check (made_of rule channel_limit setup) handed given
    pub start : Collected
    pub nothing : HasNothing (length setup.flows.items) channel_limit start
    pub collected : HasCollected start given playing.collected
    pub many : length playing.refused.items ≡ channel_limit
    pub refused : (channel : ℕ) → channel < channel_limit → list_at playing.refused.items channel ≡ refusal_numbers (answered_on channel handed)

  -- it stands for something
  pub record IsPlaying (playing : Playing C) : Type 0 where
    pub rule : LossRule
    pub check : List ℕ → Bool
    pub setup : Setup
    pub handed : List HandedIn
    pub plays : Plays rule check setup playing handed
    pub five : length playing.places ≡ senders

  -- whatever was handed in, this was handed in besides
  abbrev pub PlaysOne : Playing C → HandedIn → Playing C → Type 0
  PlaysOne playing one after =
      (rule : LossRule) (check : List ℕ → Bool) (setup : Setup) (handed : List HandedIn)
      → Plays rule check setup playing handed → Plays rule check setup after (handed ++ one ∷ [])

  -- an input came on this channel, and it is told whether a segment of it was admitted
  pub record PlaysInput (playing : Playing C) (channel : ℕ) (input : Input) (is_item : Bool) (after : Playing C) : Type 0 where
    pub answer : Answer
    pub told : is_item ≡ is_some (admitted_by answer)
    pub plays : PlaysOne playing (came channel (record { input = input; answer = answer })) after
    pub places : after.places ≡ playing.places

  -- Whatever was handed in of these lists, what comes next from this sender was handed in besides,
  -- and it is told whether it gave an item.
  abbrev pub PlaysNext : Incoming → Playing C → ℕ → Bool → Playing C → Type 0
  PlaysNext incoming playing sender is_item after =
      (rule : LossRule) (check : List ℕ → Bool) (setup : Setup) (handed : List HandedIn)
      → Plays rule check setup playing handed → IsHandedFrom incoming playing.places handed
      → (one : HandedIn) × Plays rule check setup after (handed ++ one ∷ []) × IsHandedFrom incoming after.places (handed ++ one ∷ [])
      × (sender_of one ≡ sender) × (is_item ≡ gives_item (length setup.flows.items) one)

  -- Whatever was handed in of these lists, all of these senders was handed in besides, in this
  -- order, and these gave items.
  abbrev pub PlaysTags : Incoming → Playing C → List ℕ → List ℕ → Playing C → Type 0
  PlaysTags incoming playing tags order after =
      (rule : LossRule) (check : List ℕ → Bool) (setup : Setup) (handed : List HandedIn)
      → Plays rule check setup playing handed → IsHandedFrom incoming playing.places handed
      → (more : List HandedIn) × Plays rule check setup after (handed ++ more) × IsHandedFrom incoming after.places (handed ++ more)
      × (map sender_of more ≡ tags) × (order_of (length setup.flows.items) more ≡ order)

  -- whatever was handed in of these lists, more of them was handed in besides, and gave items of
  -- these senders in this order
  abbrev pub PlaysMore : Incoming → Playing C → List ℕ → Playing C → Type 0
  PlaysMore incoming playing order after =
      (rule : LossRule) (check : List ℕ → Bool) (setup : Setup) (handed : List HandedIn)
      → Plays rule check setup playing handed → IsHandedFrom incoming playing.places handed
      → (more : List HandedIn) × Plays rule check setup after (handed ++ more) × IsHandedFrom incoming after.places (handed ++ more)
      × (order_of (length setup.flows.items) more ≡ order)

-- at this place of an order stands no sender, or one whose list is used up
pub record FindsNone (incoming : Incoming) (order : List ℕ) (k : ℕ) (places : List ℕ) : Type 0 where
  pub tag : ℕ
  pub at : slice_get order k ≡ Some tag
  pub none : (senders ≤ tag) ⊎ IsUsedUp incoming places tag

-- each flow has its identifier, and gave the frames and has the counts that stand at its place
abbrev pub HaveGiven : List FlowRecord → List (Vec (List ℕ) Global) → List FlowCounts → List FlowOutcome → Type 0
HaveGiven records frames counts flows =
    (k : ℕ) (flow_record : FlowRecord) (flow : FlowOutcome) → slice_get records k ≡ Some flow_record → slice_get flows k ≡ Some flow
    → (flow.sfid ≡ flow_record.sfid) × (flow.frames.items ≡ list_at frames k) × (slice_get counts k ≡ Some flow.counts)

-- a report has the refusals and the count of admitted bursts that stand at its channel
pub record IsReportWith (refused : List (Vec ℕ Global)) (tallies : List LaneTally) (channel : ℕ) (report : LaneReport) : Type 0 where
  pub tally : LaneTally
  pub stands : slice_get tallies channel ≡ Some tally
  pub admitted : report.admitted ≡ tally.admitted
  pub refused_are : report.refused.items ≡ list_at refused channel

-- What was given for all that was handed in: of each flow what comes of the items, of each channel
-- the requests and the report of its inputs.
pub record IsGiven (rule : LossRule) (check : List ℕ → Bool) (setup : Setup) (handed : List HandedIn) (outcome : Outcome) : Type 0 where
  pub answers : (channel : ℕ) → channel < channel_limit → AreAnswered (lane_setup setup channel) (answered_on channel handed)
  pub flows : AreRuledOutcomes rule check setup (order_of (length setup.flows.items) handed) (items_in (length setup.flows.items) handed) outcome.flows.items
  pub request_lists : length outcome.requests ≡ channel_limit
  pub requests : (channel : ℕ) → channel < channel_limit → requests_on outcome channel ≡ requests_of (answered_on channel handed)
  pub report_count : length outcome.lanes ≡ channel_limit
  pub reports : (channel : ℕ) (report : LaneReport) → channel < channel_limit → slice_get outcome.lanes channel ≡ Some report → IsReportOf (answered_on channel handed) report
