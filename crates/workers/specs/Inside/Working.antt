-- What the workers of a running receiver have done.
use Rattle.std.specs.Prelude.{◌≡◌, ℕ, ◌==◌, Bool, false, IsTrue, Option, Some, None, List, [], ◌∷◌, ◌++◌, IfSome, map, filter, filter_map, flat_map, length, is_some, slice_get, slice_index_or, if◌then◌else◌}
use Rattle.mailbox.specs.Ports.{address, posted, closed_address, closed_posted}
use Rattle.mailbox.specs.declared.port.Port.{Port}
use Rattle.mailbox.specs.declared.port.ClosedPort.{ClosedPort}
use Rattle.flow_records.specs.declared.decision.Decision.{Decision}
use Rattle.flow_records.specs.declared.record.FlowRecord.{FlowRecord}
use Rattle.flow_records.specs.Decisions.{names_a_flow, event_of_decision}
use Rattle.lane.specs.declared.admitted.Request.{Request}
use Rattle.lane.specs.declared.input.Input.{Input}
use Rattle.lane.specs.declared.lane.Lane.{Lane}
use Rattle.lane.specs.declared.sids.SidRow.{SidRow}
use Rattle.lane.specs.Inputs.{LaneSetup, Answer, AnsweredInput, AreAnswered}
use Rattle.lane.specs.Report.{admitted_in, requests_in, event_of_admitted}
use Rattle.lane.specs.Stands.{StandsFor, TakesInput}
use Rattle.workers.specs.declared.channel_input.ChannelInput.{ChannelInput}
use Rattle.workers.specs.declared.item.Item.{Item}
use Rattle.workers.specs.declared.lane_notes.SourceNotes.{SourceNotes}
use Rattle.workers.specs.declared.lane_worker.LaneDone.{LaneDone}
use Rattle.workers.specs.declared.lane_worker.LaneWork.{LaneWork}
use Rattle.workers.specs.declared.decision_worker.DecidingWork.{DecidingWork}
use Rattle.workers.specs.Channels.{AreStraysOf}
use Rattle.workers.specs.Given.{BecameBy, Yields}
use Rattle.workers.specs.Inside.Carried.{SentEvent, carried, sent_by}

-- the port posted these items more, and is closed
pub record HasPosted {T : Type 0} (port : Port T) (items : List T) (closed : ClosedPort T) : Type 0 where
  pub address_is : closed_address closed ≡ address port
  pub posted_is : closed_posted closed ≡ posted port ++ items

-- the port posted items with these events more, and is closed
pub record HasSent (port : Port Item) (events : List SentEvent) (closed : ClosedPort Item) : Type 0 where
  pub address_is : closed_address closed ≡ address port
  pub sent_is : carried (closed_posted closed) ≡ carried (posted port) ++ events

-- an input that a lane of a source answered, with its channel
pub record ServedInput : Type 0 where
  pub channel : ℕ
  pub one : AnsweredInput

-- the inputs of this channel with their answers, in order
abbrev pub answer_on : ℕ → ServedInput → Option AnsweredInput
answer_on channel served = if served.channel == channel then Some served.one else None

abbrev pub answers_on : ℕ → List ServedInput → List AnsweredInput
answers_on channel all = filter_map (answer_on channel) all

-- an input as its source gave it
abbrev pub given_as : ServedInput → ChannelInput
given_as served = record { channel = served.channel; input = served.one.input }

-- the segment that it admits, as it is sent, and its request
abbrev pub sent_in : ServedInput → List SentEvent
sent_in served = sent_by served.channel (map event_of_admitted (admitted_in served.one.answer))

abbrev pub asked_in : ServedInput → List Request
asked_in served = requests_in served.one.answer

-- of each channel, whether the source has its lane
abbrev pub owned : List (Option Lane) → List Bool
owned lanes = map (λ lane. is_some lane) lanes

abbrev pub is_own : List Bool → ℕ → Bool
is_own flags channel = slice_index_or flags channel false

-- what the lane of a channel is opened with
abbrev pub lane_on : List SidRow → List FlowRecord → ℕ → LaneSetup
lane_on rows records channel = record { channel = channel; rows = rows; records = records }

-- each lane of a source stands for what was answered on its channel
abbrev pub LanesStand : List SidRow → List FlowRecord → List (Option Lane) → List ServedInput → Type 0
LanesStand rows records lanes served =
    (channel : ℕ) (lane : Lane) → slice_get lanes channel ≡ Some (Some lane) → StandsFor (lane_on rows records channel) lane (answers_on channel served)

-- the lane that is here, if there is one, answered this input so, and there is one here still
abbrev pub AnswersIn : Option Lane → Input → Option Answer → Option Lane → Type 0
AnswersIn (Some lane) input (Some answer) (Some lane') = TakesInput lane input answer lane'
AnswersIn None input None None = Unit {0}
AnswersIn lane input answer lane' = ⊥

-- whatever the lanes stood for, they stand for it with this input of a channel at the end, answered
-- so
abbrev pub LanesTake : List (Option Lane) → ℕ → Input → Answer → List (Option Lane) → Type 0
LanesTake lanes channel input answer lanes' =
    (rows : List SidRow) (records : List FlowRecord) (served : List ServedInput) → LanesStand rows records lanes served
    → LanesStand rows records lanes' (served ++ record { channel = channel; one = record { input = input; answer = answer } } ∷ [])

module _ {N : Type 0} (are_of : List AnsweredInput → N → Type 0) where
  -- what is noted is of these answers to these inputs, where these channels are the source's own
  pub record AreNotesOf (flags : List Bool) (served : List ServedInput) (inputs : List ChannelInput) (notes : SourceNotes N) : Type 0 where
    pub count : length notes.lanes.items ≡ length flags
    pub of_lanes : (channel : ℕ) (one : N) → slice_get notes.lanes.items channel ≡ Some one → are_of (answers_on channel served) one
    pub strays : AreStraysOf (length flags) (is_own flags) inputs notes.strays

  -- Of these inputs those of the source's own channels were answered so, what they admit was
  -- posted, and their requests, and if there are notes they are of them.
  pub record HasServed (rows : List SidRow) (records : List FlowRecord) (flags : List Bool) (arrivals : Port Item) (requests : Port Request) (inputs : List ChannelInput) (done : LaneDone N) : Type 0 where
    pub served : List ServedInput
    pub answers : (channel : ℕ) → IsTrue (is_own flags channel) → AreAnswered (lane_on rows records channel) (answers_on channel served)
    pub inputs_are : map given_as served ≡ filter (λ one. is_own flags one.channel) inputs
    pub arrivals_are : HasSent arrivals (flat_map sent_in served) done.arrivals
    pub requests_are : HasPosted requests (flat_map asked_in served) done.requests
    pub noted : IfSome done.notes (AreNotesOf flags served inputs)

  -- the same before the ports are closed
  pub record HasPassedOnAnswers {S : Type 0} (rows : List SidRow) (records : List FlowRecord) (inputs : List ChannelInput) (work now : LaneWork S) (notes : Option (SourceNotes N)) : Type 0 where
    pub served : List ServedInput
    pub answers : (channel : ℕ) → IsTrue (is_own (owned work.lanes.items) channel) → AreAnswered (lane_on rows records channel) (answers_on channel served)
    pub inputs_are : map given_as served ≡ filter (λ one. is_own (owned work.lanes.items) one.channel) inputs
    pub arrivals_are : carried (posted now.arrivals) ≡ carried (posted work.arrivals) ++ flat_map sent_in served
    pub requests_are : posted now.requests ≡ posted work.requests ++ flat_map asked_in served
    pub noted : IfSome notes (AreNotesOf (owned work.lanes.items) served inputs)

  -- so it is, and the lanes stand for them
  pub record IsServing {S : Type 0} (rows : List SidRow) (records : List FlowRecord) (inputs : List ChannelInput) (work now : LaneWork S) (notes : SourceNotes N) : Type 0 where
    pub passed_on : HasPassedOnAnswers rows records inputs work now (Some notes)
    pub stands : LanesStand rows records now.lanes.items passed_on.served

  -- A source's worker has taken these inputs, if its lanes stood for no inputs before; its ports
  -- are what they were, and the same lanes are there.
  pub record HasServedAll {S : Type 0} (inputs : List ChannelInput) (work now : LaneWork S) (notes : SourceNotes N) : Type 0 where
    pub arrivals_same : address now.arrivals ≡ address work.arrivals
    pub requests_same : address now.requests ≡ address work.requests
    pub lanes_same : owned now.lanes.items ≡ owned work.lanes.items
    pub serves : (rows : List SidRow) (records : List FlowRecord) → LanesStand rows records work.lanes.items [] → IsServing rows records inputs work now notes

  -- whatever it had taken, it has taken this input more
  abbrev pub ServesOne : {S : Type 0} → ChannelInput → LaneWork S → SourceNotes N → LaneWork S → SourceNotes N → Type 0
  ServesOne {S} input work notes now notes' =
      (first : LaneWork S) (inputs : List ChannelInput) → HasServedAll inputs first work notes → HasServedAll (inputs ++ input ∷ []) first now notes'

  -- A source's worker took all these inputs: if its lanes stood for no inputs yet, then it posted
  -- what these admit, and their requests.
  pub record DidLane (lanes : List (Option Lane)) (arrivals : Port Item) (requests : Port Request) (inputs : List ChannelInput) (done : LaneDone N) : Type 0 where
    pub did : (rows : List SidRow) (records : List FlowRecord) → LanesStand rows records lanes [] → HasServed rows records (owned lanes) arrivals requests inputs done

  -- A source's worker took inputs that the source gave, all until it was over, or, if an allocation
  -- failed, all but the last.
  pub record HasServedSource {S : Type 0} (gave : S → List ChannelInput → S → Type 0) (is_over : S → Type 0) (work now : LaneWork S) (notes : Option (SourceNotes N)) : Type 0 where
    pub inputs : List ChannelInput
    pub unanswered : List ChannelInput
    pub became : BecameBy gave work.source (inputs ++ unanswered) now.source
    pub over : IfSome notes (λ _. (unanswered ≡ []) × is_over now.source)
    pub arrivals_same : address now.arrivals ≡ address work.arrivals
    pub requests_same : address now.requests ≡ address work.requests
    pub served : (rows : List SidRow) (records : List FlowRecord) → LanesStand rows records work.lanes.items [] → HasPassedOnAnswers rows records inputs work now notes

  pub record DidServe {S : Type 0} (gave : S → List ChannelInput → S → Type 0) (is_over : S → Type 0) (work : LaneWork S) (done : LaneDone N) : Type 0 where
    pub inputs : List ChannelInput
    pub unanswered : List ChannelInput
    pub end : S
    pub became : BecameBy gave work.source (inputs ++ unanswered) end
    pub over : IfSome done.notes (λ _. (unanswered ≡ []) × is_over end)
    pub did : DidLane work.lanes.items work.arrivals work.requests inputs done

-- the decisions' worker posted those of these decisions that name one of so many flows, as of this
-- sender
abbrev pub DidDecide : ℕ → ℕ → Port Item → List Decision → ClosedPort Item → Type 0
DidDecide sender flow_count port decisions closed = HasSent port (sent_by sender (map event_of_decision (filter (names_a_flow flow_count) decisions))) closed

-- it took all decisions that were given until they were over
pub record HasPassedOn {D : Type 0} (gave : D → List Decision → D → Type 0) (is_over : D → Type 0) (work now : DecidingWork D) : Type 0 where
  pub decisions : List Decision
  pub became : BecameBy gave work.decisions decisions now.decisions
  pub over : is_over now.decisions
  pub address_is : address now.arrivals ≡ address work.arrivals
  pub sent_is : carried (posted now.arrivals) ≡ carried (posted work.arrivals) ++ sent_by work.sender (map event_of_decision (filter (names_a_flow work.flow_count) decisions))

pub record DidDecideAll {D : Type 0} (gave : D → List Decision → D → Type 0) (is_over : D → Type 0) (work : DecidingWork D) (closed : ClosedPort Item) : Type 0 where
  pub decisions : List Decision
  pub yields : Yields gave is_over work.decisions decisions
  pub did : DidDecide work.sender work.flow_count work.arrivals decisions closed
