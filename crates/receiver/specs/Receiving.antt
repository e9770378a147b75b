-- What a receiver stands for that takes one input at a time: all that was handed in, in order, and
-- all that was given for it.
use Rattle.std.specs.Prelude.{◌≡◌, ℕ, ◌<◌, ◌≤◌, Bool, Option, Some, None, Result, Ok, Err, MatchOption, IfSome, List, [], ◌∷◌, ◌++◌, length, map, slice_get}
use Rattle.std.specs.Option.{option_map}
use Rattle.flow_records.specs.declared.record.FlowRecord.{FlowRecord}
use Rattle.flow_core.specs.declared.counts.FlowCounts.{FlowCounts}
use Rattle.flow_core.specs.Fates.{Fates, number_of, IsExpected}
use Rattle.flow_core.specs.Events.{FlowEvent}
use Rattle.loss_rule.specs.Rule.{Lasts, AreRuled}
use Rattle.bonded_flows.specs.FlowSetup.{ruled_flow}
use Rattle.lane.specs.declared.admitted.Admitted.{Admitted}
use Rattle.lane.specs.declared.input.Input.{Input}
use Rattle.lane.specs.declared.lane.Lane.{Lane}
use Rattle.lane.specs.Rows.{CanBeOpenedWithin}
use Rattle.lane.specs.Inputs.{LaneSetup, Answer, AnsweredInput, IsAnswer}
use Rattle.lane.specs.Report.{admitted_by, requests_of}
use Rattle.lane.specs.Stands.{StandsFor as LaneStandsFor, WouldAdmit}
use Rattle.consumer.specs.declared.given.Given.{Given}
use Rattle.consumer.specs.declared.given.Given.TheVariants.{Frame}
use Rattle.consumer.specs.Given.{frames_of, requests_given, asked_in}
use Rattle.bonded_flows.specs.declared.flow_table.FlowTable.{FlowTable}
use Rattle.bonded_flows.specs.declared.decision.FlowDecision.{FlowDecision}
use Rattle.bonded_flows.specs.declared.flow_slot.NotReady.{NotReady}
use Rattle.bonded_flows.specs.declared.flow_slot.NotReady.TheVariants as not_ready
use Rattle.bonded_flows.specs.ByRule.{decision_event, IsTold, IsToldLost, GaveByRule, HasGivenByRule}
use Rattle.bonded_flows.specs.Taking.{WasGiven}
use Rattle.bonded_flows.specs.Table.{TableSetup, TableInput, IsPreparedAt, IsAtRestAt, IsClosingAt, OthersStay}
use Rattle.bonded_flows.specs.Table.{StandsFor as TableStandsFor}
use Rattle.receiver.specs.declared.tallied_lane.TalliedLane.{TalliedLane}
use Rattle.receiver.specs.declared.setup.Setup.{Setup}
use Rattle.receiver.specs.Items.{lane_setup}
use Rattle.receiver.specs.declared.receiver.Receiver.{Receiver}
use Rattle.receiver.specs.declared.reply.Reply.{Reply}
use Rattle.receiver.specs.declared.reply.Reply.TheVariants as reply
use Rattle.receiver.specs.declared.reply.TakeError.{TakeError}
use Rattle.receiver.specs.declared.reply.TakeError.TheVariants as take_error
use Rattle.receiver.specs.declared.reply.DecisionReply.{DecisionReply}
use Rattle.receiver.specs.declared.reply.DecisionReply.TheVariants as decision_reply
use Rattle.receiver.specs.Tallies.{IsTallyOf}
use Rattle.receiver.specs.HandedIn.{HandedIn, came, restarted, answered_on, flow_inputs, arrives_on, lane_of, begun_with, came_since}

-- a lane has answered these inputs, and its answers were counted
pub record HasAnswered (setup : LaneSetup) (tallied : TalliedLane) (answered : List AnsweredInput) : Type 0 where
  pub stands : LaneStandsFor setup tallied.lane answered
  pub tally : IsTallyOf answered tallied.tally

-- the lanes of all channels have answered what came on them, and each request that was admitted was
-- given, in its channel's order
pub record HaveAnswered (made : TableSetup) (lanes : List TalliedLane) (handed : List HandedIn) (given : List Given) : Type 0 where
  pub rows_fit : CanBeOpenedWithin made.channels made.rows (length made.records)
  pub count : length lanes ≡ made.channels
  pub each : (channel : ℕ) (one : TalliedLane) → slice_get lanes channel ≡ Some one → HasAnswered (lane_of made channel) one (answered_on channel handed)
  pub requests : (channel : ℕ) → requests_given channel given ≡ requests_of (answered_on channel handed)

module _ {C : Type 0} where
  -- **A receiver stands for** all that was handed in, in this order, and has given this: each input
  -- was answered by its lane, each admitted segment and each decision came to its flow, and what
  -- they give was given.
  pub record StandsFor (accepts : C → List ℕ → Bool) (receiver : Receiver C) (check : List ℕ → Bool) (made : TableSetup) (handed : List HandedIn) (given : List Given) : Type 0 where
    pub lanes : HaveAnswered made receiver.lanes.items handed given
    pub flows : TableStandsFor accepts receiver.flows check made (flow_inputs (length made.records) handed) given

  -- it stands for something
  pub record IsReceiving (accepts : C → List ℕ → Bool) (receiver : Receiver C) : Type 0 where
    pub check : List ℕ → Bool
    pub made : TableSetup
    pub handed : List HandedIn
    pub given : List Given
    pub stands : StandsFor accepts receiver check made handed given

  -- **Whatever was handed in, this was handed in besides**, and what was given more was given to
  -- the consumer, in order.
  pub record TakesMore {O : Type 0} (after : O → List Given → O → Type 0) (accepts : C → List ℕ → Bool) (receiver : Receiver C) (out : O) (more : List HandedIn) (receiver' : Receiver C) (out' : O) : Type 0 where
    pub given_more : List Given
    pub was_given : (start : O) (given : List Given) → after start given out → after start (given ++ given_more) out'
    pub stands : (check : List ℕ → Bool) (made : TableSetup) (handed : List HandedIn) (given : List Given)
        → StandsFor accepts receiver check made handed given → StandsFor accepts receiver' check made (handed ++ more) (given ++ given_more)

  -- of flow k nothing is left to be taken or to be joined
  abbrev pub IsSettledAt : Receiver C → ℕ → Type 0
  IsSettledAt receiver k = IsAtRestAt receiver.flows k

-- ============ What is answered to an input ============

-- some flow of a table is being closed
abbrev pub ClosesAFlow : {C : Type 0} → FlowTable C → Type 0
ClosesAFlow flows = (k : ℕ) × (k < length flows.slots.items) × IsClosingAt flows k

-- the answer of the lane is told
abbrev pub Says : Reply → Answer → Type 0
Says reply.Granted answer = answer ≡ Ok None
Says (reply.Refused refusal) answer = answer ≡ Err refusal
Says (reply.Admitted flow sequence told) answer =
    (admitted : Admitted) × (answer ≡ Ok (Some admitted)) × (flow ≡ admitted.flow) × (sequence ≡ admitted.segment.head.sequence)

-- what is told of a segment is told rightly, after all that came to its flow
abbrev pub IsToldRightly : TableSetup → List HandedIn → ℕ → Answer → Reply → Type 0
IsToldRightly made handed channel answer reply.Granted = Unit {0}
IsToldRightly made handed channel answer (reply.Refused refusal) = Unit {0}
IsToldRightly made handed channel answer (reply.Admitted flow sequence told) =
    (flow_record : FlowRecord) (admitted : Admitted) → slice_get made.records flow ≡ Some flow_record → admitted_by answer ≡ Some admitted
    → IsTold (begun_with made flow flow_record (flow_inputs (length made.records) handed)) (came_since made flow flow_record (flow_inputs (length made.records) handed))
    channel admitted.segment told

-- where a segment was admitted its flow is settled
abbrev pub FlowIsSettled : {C : Type 0} → Receiver C → Reply → Type 0
FlowIsSettled receiver reply.Granted = Unit {0}
FlowIsSettled receiver (reply.Refused refusal) = Unit {0}
FlowIsSettled receiver (reply.Admitted flow sequence told) = IsSettledAt receiver flow

-- Whatever was handed in: what any answer to this input on this channel admits is of this flow, or
-- it admits nothing.
abbrev pub WouldCome : {C : Type 0} → (C → List ℕ → Bool) → Receiver C → ℕ → Input → Option ℕ → Type 0
WouldCome accepts receiver channel input flow =
    (check : List ℕ → Bool) (made : TableSetup) (handed : List HandedIn) (given : List Given) (answer : Answer)
    → StandsFor accepts receiver check made handed given → channel < made.channels → IsAnswer (lane_of made channel) (answered_on channel handed) input answer
    → option_map (λ admitted. admitted.flow) (admitted_by answer) ≡ flow

module _ {C O : Type 0} (after : O → List Given → O → Type 0) (accepts : C → List ℕ → Bool) where
  -- The input is taken: it was answered so by its lane, and came to its flow.
  pub record Replies (receiver : Receiver C) (out : O) (channel : ℕ) (input : Input) (reply : Reply) (receiver' : Receiver C) (out' : O) : Type 0 where
    pub exists : channel < length receiver.lanes.items
    pub answer : Answer
    pub says : Says reply answer
    pub takes : TakesMore after accepts receiver out (came channel (record { input = input; answer = answer }) ∷ []) receiver' out'
    pub told : (check : List ℕ → Bool) (made : TableSetup) (handed : List HandedIn) (given : List Given)
        → StandsFor accepts receiver check made handed given → IsToldRightly made handed channel answer reply

  -- an admitted segment came to its flow, of which something is left to be done
  pub record IsLeftUnfinished (receiver : Receiver C) (out : O) (channel : ℕ) (input : Input) (flow : ℕ) (receiver' : Receiver C) (out' : O) : Type 0 where
    pub exists : channel < length receiver.lanes.items
    pub admitted : Admitted
    pub of_flow : flow ≡ admitted.flow
    pub takes : TakesMore after accepts receiver out (came channel (record { input = input; answer = Ok (Some admitted) }) ∷ []) receiver' out'

  -- Why an input isn't taken, or not to the end: there is no such channel, and nothing changed; or
  -- it is given back, and no more stands handed in, where that a flow is being closed is said only
  -- if one is; or it is taken, and an allocation failed before its flow had given all.
  abbrev pub Fails : Receiver C → O → ℕ → Input → TakeError → Receiver C → O → Type 0
  Fails receiver out channel input (take_error.NoChannel back) receiver' out' =
      (back ≡ input) × (length receiver.lanes.items ≤ channel) × (receiver' ≡ receiver) × (out' ≡ out)
  Fails receiver out channel input (take_error.NotTaken back why) receiver' out' =
      (back ≡ input) × (channel < length receiver.lanes.items) × (why ≡ not_ready.Closing → ClosesAFlow receiver'.flows)
      × TakesMore after accepts receiver out [] receiver' out'
  Fails receiver out channel input (take_error.Unfinished flow) receiver' out' = IsLeftUnfinished receiver out channel input flow receiver' out'

-- **An input changes one flow at most**: the one of which a segment is admitted, and none where a
-- grant is taken or the input is refused.
abbrev pub ChangesOneFlow : {C : Type 0} → FlowTable C → Result Reply TakeError → FlowTable C → Type 0
ChangesOneFlow flows (Ok reply.Granted) flows' = flows' ≡ flows
ChangesOneFlow flows (Ok (reply.Refused refusal)) flows' = flows' ≡ flows
ChangesOneFlow flows (Ok (reply.Admitted flow sequence told)) flows' = OthersStay flows flow flows'
ChangesOneFlow flows (Err (take_error.NoChannel back)) flows' = flows' ≡ flows
ChangesOneFlow flows (Err (take_error.NotTaken back why)) flows' = (flow : ℕ) × OthersStay flows flow flows'
ChangesOneFlow flows (Err (take_error.Unfinished flow)) flows' = OthersStay flows flow flows'

-- **Of an input one flow alone counts**: that of which its lane would admit a segment. Where that
-- one is being closed, the input is refused as that, and only then. Where an input isn't taken no
-- other flow changes.
pub record KeepsToItsFlow {C : Type 0} (receiver : Receiver C) (channel : ℕ) (input : Input) (result : Result Reply TakeError) (receiver' : Receiver C) : Type 0 where
  pub flow : Option ℕ
  pub would : (one : TalliedLane) → slice_get receiver.lanes.items channel ≡ Some one → WouldAdmit one.lane input flow
  pub refused : IfSome flow (λ k. IsClosingAt receiver.flows k → result ≡ Err (take_error.NotTaken input not_ready.Closing))
  pub closing : result ≡ Err (take_error.NotTaken input not_ready.Closing) → MatchOption flow ⊥ (IsClosingAt receiver'.flows)
  pub changed : (back : Input) (why : NotReady) → result ≡ Err (take_error.NotTaken back why)
      → MatchOption flow (receiver'.flows ≡ receiver.flows) (λ k. OthersStay receiver.flows k receiver'.flows)

-- ============ What is answered to the rest ============

-- whether a segment is lost by a decision that was taken is told rightly, after all that came to
-- its flow
abbrev pub IsLossToldRightly : TableSetup → List HandedIn → ℕ → FlowDecision → DecisionReply → Type 0
IsLossToldRightly made handed flow decision decision_reply.PassedOver = Unit {0}
IsLossToldRightly made handed flow decision (decision_reply.Taken lost) =
    (flow_record : FlowRecord) → slice_get made.records flow ≡ Some flow_record
    → IsToldLost (begun_with made flow flow_record (flow_inputs (length made.records) handed)) (came_since made flow flow_record (flow_inputs (length made.records) handed))
    (decision_event decision) lost

-- where a decision was taken its flow is settled
abbrev pub IsSettledIfTaken : {C : Type 0} → Receiver C → ℕ → DecisionReply → Type 0
IsSettledIfTaken receiver flow decision_reply.PassedOver = Unit {0}
IsSettledIfTaken receiver flow (decision_reply.Taken lost) = IsSettledAt receiver flow

-- of what a flow gave, this is what it gave since it was begun or began anew, and it is so
pub record GaveSince (is : List (List ℕ) → Type 0) (frames : List (List ℕ)) : Type 0 where
  pub earlier : List (List ℕ)
  pub own : List (List ℕ)
  pub all : frames ≡ earlier ++ own
  pub is_so : is own

-- **The flow is closed and begins anew** at this number. What there was left to give of it was
-- given; of all that came to it since it was begun, it gave what by the rule comes of that, and
-- these are its counts.
pub record Restarts {C O : Type 0} (after : O → List Given → O → Type 0) (accepts : C → List ℕ → Bool) (receiver : Receiver C) (out : O) (flow first : ℕ) (counts : FlowCounts) (receiver' : Receiver C) (out' : O) : Type 0 where
  pub more : List (List ℕ)
  pub was_given : WasGiven after flow out more out'
  pub stands : (check : List ℕ → Bool) (made : TableSetup) (handed : List HandedIn) (given : List Given)
      → StandsFor accepts receiver check made handed given
      → StandsFor accepts receiver' check made (handed ++ restarted flow first ∷ []) (given ++ map (Frame flow) more)
  pub gave : (check : List ℕ → Bool) (made : TableSetup) (handed : List HandedIn) (given : List Given) (flow_record : FlowRecord)
      → StandsFor accepts receiver check made handed given → slice_get made.records flow ≡ Some flow_record
      → GaveSince (λ own. GaveByRule check (begun_with made flow flow_record (flow_inputs (length made.records) handed))
      (came_since made flow flow_record (flow_inputs (length made.records) handed)) (own ++ more) counts) (frames_of flow given)

-- this is the number of the index that the flow expects, after all that came to it since it was
-- begun or began anew
abbrev pub IsNumberExpected : TableSetup → ℕ → FlowRecord → List HandedIn → ℕ → Type 0
IsNumberExpected made k flow_record handed number =
    (events : List FlowEvent) (lasts : Lasts) (fates : Fates) (x : ℕ)
    → AreRuled made.rule (ruled_flow (begun_with made k flow_record (flow_inputs (length made.records) handed))) (came_since made k flow_record (flow_inputs (length made.records) handed)) events lasts fates
    → IsExpected fates x → number ≡ number_of (begun_with made k flow_record (flow_inputs (length made.records) handed)).flow_record.first x

-- these are the counts of what the flow gave since it was begun or began anew
abbrev pub HasGivenSince : (List ℕ → Bool) → TableSetup → ℕ → FlowRecord → List HandedIn → List Given → FlowCounts → Type 0
HasGivenSince check made k flow_record handed given counts =
    GaveSince (λ own. HasGivenByRule check (begun_with made k flow_record (flow_inputs (length made.records) handed))
    (came_since made k flow_record (flow_inputs (length made.records) handed)) own counts) (frames_of k given)

-- ============ What is done on the way ============

-- the lanes of the first channels, as many as there are, have answered nothing yet
abbrev pub AreOpened : Setup → List TalliedLane → Type 0
AreOpened setup lanes = (channel : ℕ) (one : TalliedLane) → slice_get lanes channel ≡ Some one → HasAnswered (lane_setup setup channel) one []

-- whatever a lane answered, it answered this besides, and counted it
abbrev pub AnswersMore : TalliedLane → Input → Answer → TalliedLane → Type 0
AnswersMore tallied input answer after =
    (setup : LaneSetup) (answered : List AnsweredInput) → HasAnswered setup tallied answered
    → HasAnswered setup after (answered ++ record { input = input; answer = answer } ∷ [])

-- whatever it answered, it answered no more
abbrev pub AnswersTheSame : TalliedLane → TalliedLane → Type 0
AnswersTheSame tallied after = (setup : LaneSetup) (answered : List AnsweredInput) → HasAnswered setup tallied answered → HasAnswered setup after answered

-- the flow of whatever is admitted of this input is prepared for it
abbrev pub IsReadyFor : {C : Type 0} → Lane → Input → FlowTable C → Type 0
IsReadyFor lane input flows =
    (channels : ℕ) (setup : LaneSetup) (taken : List AnsweredInput) (answer : Answer) (admitted : Admitted)
    → CanBeOpenedWithin channels setup.rows (length setup.records) → LaneStandsFor setup lane taken → IsAnswer setup taken input answer
    → admitted_by answer ≡ Some admitted
    → IsPreparedAt flows admitted.flow

-- Before the lane answers this input, nothing changes but the flow of which it would admit a
-- segment, and it is told exactly of that one if it is being closed.
pub record ChangesItsFlow {C : Type 0} (lane : Lane) (input : Input) (flows : FlowTable C) (ready : Result (Unit {0}) NotReady) (flows' : FlowTable C) : Type 0 where
  pub flow : Option ℕ
  pub would : WouldAdmit lane input flow
  pub changed : MatchOption flow (flows' ≡ flows) (λ k. OthersStay flows k flows')
  pub refused : IfSome flow (λ k. IsClosingAt flows k → ready ≡ Err not_ready.Closing)
  pub closing : ready ≡ Err not_ready.Closing → MatchOption flow ⊥ (IsClosingAt flows')

-- a lane that has answered some inputs, with as many records as there are flows
pub record AnswersFor {C : Type 0} (flows : FlowTable C) (lane : Lane) : Type 0 where
  pub setup : LaneSetup
  pub answered : List AnsweredInput
  pub stands : LaneStandsFor setup lane answered
  pub flow_count : length flows.slots.items ≡ length setup.records

-- An admitted segment came to its flow, and its request and what its flow gives were given.
pub record TakesAdmitted {C O : Type 0} (after : O → List Given → O → Type 0) (accepts : C → List ℕ → Bool) (flows : FlowTable C) (out : O) (channel : ℕ) (admitted : Admitted) (flows' : FlowTable C) (out' : O) : Type 0 where
  pub given_more : List Given
  pub was_given : (start : O) (given : List Given) → after start given out → after start (given ++ given_more) out'
  pub requests : (on : ℕ) → requests_given on given_more ≡ requests_given on (asked_in admitted.request)
  pub stands : (check : List ℕ → Bool) (made : TableSetup) (history : List TableInput) (given : List Given)
      → TableStandsFor accepts flows check made history given
      → TableStandsFor accepts flows' check made (history ++ arrives_on channel admitted ∷ []) (given ++ given_more)
