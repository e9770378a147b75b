-- What a call of a held receiver does: what the receiver's own call does, with the queue as its
-- consumer, and a status for what that answers.
use Rattle.std.specs.Prelude.{◌≡◌, ◌≢◌, ◌↔◌, ℕ, ◌<◌, ◌≤◌, Bool, true, Option, Some, None, IfSome, Result, Ok, Err, IfOk, IfErr, OnErr, List, [], ◌∷◌, ◌++◌, length, drop, slice_get, ◌⊎◌}
use Rattle.docsis_wire.specs.Limits.{sequence_modulus}
use Rattle.docsis_wire.specs.declared.header_check.NoCheck.{NoCheck}
use Rattle.flow_records.specs.declared.record.FlowRecord.{FlowRecord}
use Rattle.flow_core.specs.declared.counts.FlowCounts.{FlowCounts}
use Rattle.lane.specs.declared.input.Input.{Input}
use Rattle.lane.specs.declared.input.Input.TheVariants.{Grant, Burst}
use Rattle.consumer.specs.declared.given.Given.{Given}
use Rattle.bonded_flows.specs.declared.decision.FlowDecision.{FlowDecision}
use Rattle.bonded_flows.specs.declared.decision.FlowDecision.TheVariants.{Gap, GapTo, SkipTo}
use Rattle.bonded_flows.specs.declared.flow_slot.DecideFault.{DecideFault}
use Rattle.bonded_flows.specs.declared.flow_slot.NotReady.{NotReady}
use Rattle.bonded_flows.specs.Slots.{LeavesOf}
use Rattle.bonded_flows.specs.Table.{TableSetup, OthersStay, NoneBeginsToClose}
use Rattle.receiver.specs.declared.receiver.Receiver.{Receiver}
use Rattle.receiver.specs.declared.closing.Closing.{Closing}
use Rattle.receiver.specs.declared.closing.Closed.{Closed}
use Rattle.receiver.specs.declared.reply.Reply.{Reply}
use Rattle.receiver.specs.declared.reply.TakeError.{TakeError}
use Rattle.receiver.specs.declared.reply.DecisionReply.{DecisionReply}
use Rattle.receiver.specs.declared.reply.DecisionReply.TheVariants.{PassedOver}
use Rattle.receiver.specs.declared.reply.RestartError.{RestartError}
use Rattle.receiver.specs.declared.reply.RestartError.TheVariants as restart_error
use Rattle.receiver.specs.HandedIn.{HandedIn, decided}
use Rattle.receiver.specs.Receiving.{StandsFor, IsReceiving, TakesMore, IsSettledAt, Replies, Fails, FlowIsSettled, ChangesOneFlow, KeepsToItsFlow, IsSettledIfTaken, IsLossToldRightly, HasGivenSince}
use Rattle.receiver.specs.Receiving.{Restarts as RestartsAnew}
use Rattle.receiver.specs.Received.{BeginsToClose, IsBeingClosed, ClosesMore, ClosesAll}
use Rattle.receiver.specs.Received.{Closes as ClosesReceiver}
use Rattle.c_receiver.specs.declared.held.HeldReceiver.{HeldReceiver}
use Rattle.c_receiver.specs.declared.held.State.{State}
use Rattle.c_receiver.specs.declared.held.State.TheVariants as state
use Rattle.c_receiver.specs.declared.plain.PlainCounts.{PlainCounts}
use Rattle.c_receiver.specs.declared.plain.PlainFrame.{PlainFrame}
use Rattle.c_receiver.specs.declared.plain.PlainRequest.{PlainRequest}
use Rattle.c_receiver.specs.declared.plain.PlainWaiting.{PlainWaiting}
use Rattle.c_receiver.specs.declared.queue.Queue.{Queue}
use Rattle.c_receiver.specs.declared.queue.QueuedFrame.{QueuedFrame}
use Rattle.c_receiver.specs.declared.status.Status.{Status}
use Rattle.c_receiver.specs.declared.status.Status.TheVariants as status
use Rattle.c_receiver.specs.Queued.{HasQueued}
use Rattle.c_receiver.specs.Statuses.{of_take, of_decide, of_not_ready, of_restart_error, told}

-- the check of headers: every header passes
abbrev pub no_check : NoCheck → List ℕ → Bool
no_check check header = true

-- ============ By how far the receiver has come ============

abbrev pub IfOpen : State → (Receiver NoCheck → Type 0) → Type 0 → Type 0
IfOpen (state.Open receiver) P Q = P receiver
IfOpen (state.Closing closing) P Q = Q
IfOpen (state.Closed closed) P Q = Q

-- what every call needs and leaves: the receiver, or what is being closed, stands for something
abbrev pub StateInUse : State → Type 0
StateInUse (state.Open receiver) = IsReceiving no_check receiver
StateInUse (state.Closing closing) = IsBeingClosed no_check closing
StateInUse (state.Closed closed) = Unit {0}

abbrev pub IsInUse : HeldReceiver → Type 0
IsInUse held = StateInUse held.state

-- nothing is taken any more, and nothing changed
abbrev pub Refuses : HeldReceiver → Status → HeldReceiver → Type 0
Refuses held answer held' = (answer ≡ status.Closed) × (held' ≡ held)

-- ============ An input ============

-- what the receiver's `take` says of what it answered
pub record IsTaken (receiver : Receiver NoCheck) (queue : Queue) (channel : ℕ) (input : Input) (result : Result Reply TakeError) (receiver' : Receiver NoCheck) (queue' : Queue) : Type 0 where
  pub replies : IfOk result (λ reply. Replies HasQueued no_check receiver queue channel input reply receiver' queue')
  pub settled : IfOk result (FlowIsSettled receiver')
  pub fails : IfErr result (λ error. Fails HasQueued no_check receiver queue channel input error receiver' queue')
  pub others : ChangesOneFlow receiver.flows result receiver'.flows
  pub its_flow : channel < length receiver.lanes.items → KeepsToItsFlow receiver channel input result receiver'
  pub open_still : NoneBeginsToClose receiver.flows receiver'.flows

-- the input is taken as the receiver takes it, and the status says what that answered
abbrev pub TakesInto : Receiver NoCheck → Queue → ℕ → Input → Status → Receiver NoCheck → Queue → Type 0
TakesInto receiver queue channel input answer receiver' queue' =
    (result : Result Reply TakeError) × IsTaken receiver queue channel input result receiver' queue' × (answer ≡ told queue'.whole (of_take result))

abbrev pub Takes : HeldReceiver → ℕ → Input → Status → HeldReceiver → Type 0
Takes held channel input answer held' =
    IfOpen held.state
    (λ receiver. (receiver' : Receiver NoCheck) × (held'.state ≡ state.Open receiver') × TakesInto receiver held.queue channel input answer receiver' held'.queue)
    (Refuses held answer held')

-- the same, or there was no memory for a copy of the burst, which is told, and nothing was done
pub data CopiesAndTakes (held : HeldReceiver) (channel : ℕ) (input : Input) (answer : Status) (held' : HeldReceiver) : Type 0 where
  copied : Takes held channel input answer held' → CopiesAndTakes held channel input answer held'
  not_copied : answer ≡ told held.queue.whole status.OutOfMemory → held' ≡ held → CopiesAndTakes held channel input answer held'

abbrev pub TakesGrant : HeldReceiver → ℕ → ℕ → ℕ → ℕ → Status → HeldReceiver → Type 0
TakesGrant held channel number sid bytes answer held' = Takes held channel (Grant number sid bytes) answer held'

-- the same, with no frame kept any more, lent or copied
abbrev pub without_loan : HeldReceiver → HeldReceiver
without_loan held = record held { lent = None }

abbrev pub TakesBurst : HeldReceiver → ℕ → ℕ → Bool → List ℕ → Status → HeldReceiver → Type 0
TakesBurst held channel grant hcs_ok bytes answer held' = CopiesAndTakes (without_loan held) channel (Burst grant hcs_ok bytes) answer held'

-- ============ A decision ============

-- the decision of this kind and number
abbrev pub IsDecision : ℕ → ℕ → FlowDecision → Type 0
IsDecision kind number Gap = kind ≡ 0
IsDecision kind number (GapTo named) = (kind ≡ 1) × (named ≡ number)
IsDecision kind number (SkipTo named) = (kind ≡ 2) × (named ≡ number)

-- what the receiver's `decide` says of what it answered
pub record IsDecided (receiver : Receiver NoCheck) (queue : Queue) (flow : ℕ) (decision : FlowDecision) (result : Result DecisionReply DecideFault) (receiver' : Receiver NoCheck) (queue' : Queue) : Type 0 where
  pub takes : IfOk result (λ _. TakesMore HasQueued no_check receiver queue (decided flow decision ∷ []) receiver' queue')
  pub unchanged : result ≡ Ok PassedOver → (receiver' ≡ receiver) × (queue' ≡ queue)
  pub told : IfOk result (λ reply. (check : List ℕ → Bool) (made : TableSetup) (handed : List HandedIn) (given : List Given)
      → StandsFor no_check receiver check made handed given → IsLossToldRightly made handed flow decision reply)
  pub settled : IfOk result (IsSettledIfTaken receiver' flow)
  pub not_taken : IfErr result (λ fault. LeavesOf fault (TakesMore HasQueued no_check receiver queue [] receiver' queue')
      (TakesMore HasQueued no_check receiver queue (decided flow decision ∷ []) receiver' queue'))
  pub others : OthersStay receiver.flows flow receiver'.flows
  pub open_still : NoneBeginsToClose receiver.flows receiver'.flows

abbrev pub DecidesInto : Receiver NoCheck → Queue → ℕ → FlowDecision → Status → Receiver NoCheck → Queue → Type 0
DecidesInto receiver queue flow decision answer receiver' queue' =
    (result : Result DecisionReply DecideFault) × IsDecided receiver queue flow decision result receiver' queue' × (answer ≡ told queue'.whole (of_decide decision result))

abbrev pub DecidesSo : HeldReceiver → ℕ → FlowDecision → Status → HeldReceiver → Type 0
DecidesSo held flow decision answer held' =
    IfOpen held.state
    (λ receiver. (receiver' : Receiver NoCheck) × (held'.state ≡ state.Open receiver') × DecidesInto receiver held.queue flow decision answer receiver' held'.queue)
    (Refuses held answer held')

-- there is no such decision, and nothing was done; or it is decided so
pub data Decides (held : HeldReceiver) (flow kind number : ℕ) (answer : Status) (held' : HeldReceiver) : Type 0 where
  unknown : 2 < kind → answer ≡ status.UnknownDecision → held' ≡ held → Decides held flow kind number answer held'
  known : (decision : FlowDecision) → IsDecision kind number decision → DecidesSo held flow decision answer held' → Decides held flow kind number answer held'

-- ============ What was left to be done ============

-- what the receiver's `go_on` says of what it answered
pub record IsGoneOn (receiver : Receiver NoCheck) (queue : Queue) (flow : ℕ) (result : Result (Unit {0}) NotReady) (receiver' : Receiver NoCheck) (queue' : Queue) : Type 0 where
  pub takes : TakesMore HasQueued no_check receiver queue [] receiver' queue'
  pub settled : IfOk result (λ _. IsSettledAt receiver' flow)
  pub no_flow : length receiver.flows.slots.items ≤ flow → (result ≡ Ok tt) × (receiver' ≡ receiver) × (queue' ≡ queue)
  pub others : OthersStay receiver.flows flow receiver'.flows
  pub open_still : NoneBeginsToClose receiver.flows receiver'.flows

abbrev pub of_go_on : Result (Unit {0}) NotReady → Status
of_go_on (Ok done) = status.Done
of_go_on (Err why) = of_not_ready why

abbrev pub GoesOnInto : Receiver NoCheck → Queue → ℕ → Status → Receiver NoCheck → Queue → Type 0
GoesOnInto receiver queue flow answer receiver' queue' =
    (result : Result (Unit {0}) NotReady) × IsGoneOn receiver queue flow result receiver' queue' × (answer ≡ told queue'.whole (of_go_on result))

abbrev pub GoesOn : HeldReceiver → ℕ → Status → HeldReceiver → Type 0
GoesOn held flow answer held' =
    IfOpen held.state
    (λ receiver. (receiver' : Receiver NoCheck) × (held'.state ≡ state.Open receiver') × GoesOnInto receiver held.queue flow answer receiver' held'.queue)
    (Refuses held answer held')

-- ============ Counts ============

abbrev pub plain_of : FlowCounts → PlainCounts
plain_of counts = record {
  kept = counts.kept;
  late = counts.late;
  repeat = counts.repeat;
  beyond = counts.beyond;
  lost = counts.lost;
  frames = counts.frames;
  skipped = counts.skipped;
}

-- what is written: the counts, if there are any
abbrev pub written : {E : Type 0} → Result FlowCounts E → PlainCounts → PlainCounts
written (Ok counts) before = plain_of counts
written (Err error) before = before

abbrev pub of_restart : Result FlowCounts RestartError → Status
of_restart (Ok counts) = status.Done
of_restart (Err error) = of_restart_error error

-- what the receiver's `restart` says of what it answered
pub record IsRestarted (receiver : Receiver NoCheck) (queue : Queue) (flow first : ℕ) (result : Result FlowCounts RestartError) (receiver' : Receiver NoCheck) (queue' : Queue) : Type 0 where
  pub restarts : IfOk result (λ counts. RestartsAnew HasQueued no_check receiver queue flow first counts receiver' queue')
  pub no_flow : (result ≡ Err restart_error.NoFlow) ↔ (length receiver.flows.slots.items ≤ flow)
  pub number : (result ≡ Err restart_error.NumberRange) ↔ ((flow < length receiver.flows.slots.items) × (sequence_modulus ≤ first))
  pub unchanged : (error : RestartError) → result ≡ Err error → error ≢ restart_error.OutOfMemory → (receiver' ≡ receiver) × (queue' ≡ queue)
  pub settled : IfOk result (λ _. IsSettledAt receiver' flow)
  pub not_taken : OnErr result (TakesMore HasQueued no_check receiver queue [] receiver' queue')
  pub others : OthersStay receiver.flows flow receiver'.flows

abbrev pub RestartsInto : Receiver NoCheck → Queue → ℕ → ℕ → PlainCounts → Status → Receiver NoCheck → Queue → PlainCounts → Type 0
RestartsInto receiver queue flow first counts answer receiver' queue' counts' =
    (result : Result FlowCounts RestartError) × IsRestarted receiver queue flow first result receiver' queue'
    × (answer ≡ told queue'.whole (of_restart result)) × (counts' ≡ written result counts)

abbrev pub Restarts : HeldReceiver → ℕ → ℕ → PlainCounts → Status → HeldReceiver → PlainCounts → Type 0
Restarts held flow first counts answer held' counts' =
    IfOpen held.state
    (λ receiver. (receiver' : Receiver NoCheck) × (held'.state ≡ state.Open receiver')
    × RestartsInto receiver held.queue flow first counts answer receiver' held'.queue counts')
    (Refuses held answer held' × (counts' ≡ counts))

-- the counts of a flow, or that there is none
abbrev pub found : Option FlowCounts → Result FlowCounts Status
found None = Err status.NoFlow
found (Some counts) = Ok counts

abbrev pub of_found : Result FlowCounts Status → Status
of_found (Ok counts) = status.Done
of_found (Err answer) = answer

-- what the receiver's `counts` says of what it answered
pub record IsCounted (receiver : Receiver NoCheck) (flow : ℕ) (result : Option FlowCounts) : Type 0 where
  pub none : (result ≡ None) ↔ (length receiver.flows.slots.items ≤ flow)
  pub counts : IfSome result (λ counts. (check : List ℕ → Bool) (made : TableSetup) (handed : List HandedIn) (given : List Given) (flow_record : FlowRecord)
      → StandsFor no_check receiver check made handed given → slice_get made.records flow ≡ Some flow_record → IsSettledAt receiver flow
      → HasGivenSince check made flow flow_record handed given counts)

-- The counts of a flow: while the receiver is open what it says, once it is closed what the close
-- answered; between the two nothing is told.
abbrev pub AnswersCounts : State → ℕ → Result FlowCounts Status → Type 0
AnswersCounts (state.Open receiver) flow answer = (result : Option FlowCounts) × IsCounted receiver flow result × (answer ≡ found result)
AnswersCounts (state.Closing closing) flow answer = answer ≡ Err status.Closed
AnswersCounts (state.Closed closed) flow answer = answer ≡ found (slice_get closed.flows.items flow)

abbrev pub Counts : HeldReceiver → ℕ → PlainCounts → Status → PlainCounts → Type 0
Counts held flow counts answer counts' =
    (result : Result FlowCounts Status) × AnswersCounts held.state flow result × (answer ≡ of_found result) × (counts' ≡ written result counts)

-- ============ What waits ============

abbrev pub plain_frame : QueuedFrame → PlainFrame
plain_frame first = record { flow = first.flow; length = length first.frame }

-- its bytes are at the room's front, and it waits no more, but is kept until the next burst or
-- frame, as one that is lent is
pub record GivesBytes (first : QueuedFrame) (rest : List QueuedFrame) (held : HeldReceiver) (room : List ℕ) (answer : Status) (held' : HeldReceiver) (room' : List ℕ) : Type 0 where
  pub answered : answer ≡ status.Done
  pub fits : length first.frame ≤ length room
  pub bytes : room' ≡ first.frame ++ drop (length first.frame) room
  pub others : held'.queue.frames.items ≡ rest
  pub requests : held'.queue.requests ≡ held.queue.requests
  pub whole : held'.queue.whole ≡ held.queue.whole
  pub lent : held'.lent ≡ Some first
  pub unmoved : held'.state ≡ held.state

-- the room is too small, and all stays as it was
pub record KeepsBytes (first : QueuedFrame) (held : HeldReceiver) (room : List ℕ) (answer : Status) (held' : HeldReceiver) (room' : List ℕ) : Type 0 where
  pub answered : answer ≡ status.RoomTooSmall
  pub small : length room < length first.frame
  pub unchanged : held' ≡ held
  pub same_room : room' ≡ room

-- nothing waits, and nothing changed; or the first frame is told, and given if there is room for it
abbrev pub GivesFirst : List QueuedFrame → HeldReceiver → List ℕ → PlainFrame → Status → HeldReceiver → List ℕ → PlainFrame → Type 0
GivesFirst [] held room frame answer held' room' frame' = (answer ≡ status.Nothing) × (held' ≡ held) × (room' ≡ room) × (frame' ≡ frame)
GivesFirst (first ∷ rest) held room frame answer held' room' frame' =
    (frame' ≡ plain_frame first)
    × (GivesBytes first rest held room answer held' room' ⊎ KeepsBytes first held room answer held' room')

abbrev pub GivesFrame : HeldReceiver → List ℕ → PlainFrame → Status → HeldReceiver → List ℕ → PlainFrame → Type 0
GivesFrame held room frame answer held' room' frame' = GivesFirst held.queue.frames.items held room frame answer held' room' frame'

-- the bytes of the frame that is kept, lent or copied, and none where none is
abbrev pub bytes_lent : Option QueuedFrame → List ℕ
bytes_lent None = []
bytes_lent (Some lent) = lent.frame

-- of what waits, only the frames may have changed
pub record KeepsTheRequests (held held' : HeldReceiver) : Type 0 where
  pub requests : held'.queue.requests ≡ held.queue.requests
  pub whole : held'.queue.whole ≡ held.queue.whole
  pub unmoved : held'.state ≡ held.state

-- no frame waits, and none is kept any more; or the first is told and lent, and waits no more
abbrev pub LendsFirst : List QueuedFrame → HeldReceiver → PlainFrame → Status → HeldReceiver → PlainFrame → Type 0
LendsFirst [] held frame answer held' frame' = (answer ≡ status.Nothing) × (frame' ≡ frame) × (held'.lent ≡ None) × (held'.queue.frames.items ≡ [])
LendsFirst (first ∷ rest) held frame answer held' frame' =
    (answer ≡ status.Done) × (frame' ≡ plain_frame first) × (held'.lent ≡ Some first) × (held'.queue.frames.items ≡ rest)

abbrev pub LendsFrame : HeldReceiver → PlainFrame → Status → HeldReceiver → PlainFrame → Type 0
LendsFrame held frame answer held' frame' = KeepsTheRequests held held' × LendsFirst held.queue.frames.items held frame answer held' frame'

-- how much waits
abbrev pub waiting_in : Queue → PlainWaiting
waiting_in queue = record { frames = length queue.frames.items; requests = length queue.requests.items }

-- of what waits, only the requests may have changed
pub record KeepsTheRest (held held' : HeldReceiver) : Type 0 where
  pub frames : held'.queue.frames ≡ held.queue.frames
  pub whole : held'.queue.whole ≡ held.queue.whole
  pub lent : held'.lent ≡ held.lent
  pub unmoved : held'.state ≡ held.state

-- no request waits; or the first is told, and waits no more
abbrev pub GivesFirstRequest : List PlainRequest → HeldReceiver → PlainRequest → Status → HeldReceiver → PlainRequest → Type 0
GivesFirstRequest [] held request answer held' request' = (answer ≡ status.Nothing) × (request' ≡ request) × (held'.queue.requests.items ≡ [])
GivesFirstRequest (first ∷ rest) held request answer held' request' = (answer ≡ status.Done) × (request' ≡ first) × (held'.queue.requests.items ≡ rest)

abbrev pub GivesRequest : HeldReceiver → PlainRequest → Status → HeldReceiver → PlainRequest → Type 0
GivesRequest held request answer held' request' = KeepsTheRest held held' × GivesFirstRequest held.queue.requests.items held request answer held' request'

-- ============ The close ============

-- how far it has come then, and what is answered
abbrev pub state_after : Result Closed (Closing NoCheck) → State
state_after (Ok closed) = state.Closed closed
state_after (Err closing) = state.Closing closing

abbrev pub of_close : Result Closed (Closing NoCheck) → Status
of_close (Ok closed) = status.Done
of_close (Err closing) = status.OutOfMemory

-- the close is begun or gone on with, as the receiver's is; of what is closed nothing is done
abbrev pub ClosesState : State → Queue → Result Closed (Closing NoCheck) → Queue → Type 0
ClosesState (state.Open receiver) queue result queue' =
    IfOk result (λ closed. ClosesReceiver HasQueued no_check receiver queue closed queue')
    × IfErr result (λ closing. BeginsToClose HasQueued no_check receiver queue closing queue')
ClosesState (state.Closing closing) queue result queue' =
    IfOk result (λ closed. ClosesAll HasQueued no_check closing queue closed queue')
    × IfErr result (λ more. ClosesMore HasQueued no_check closing queue more queue')
ClosesState (state.Closed closed) queue result queue' = (result ≡ Ok closed) × (queue' ≡ queue)

abbrev pub Closes : HeldReceiver → Status → HeldReceiver → Type 0
Closes held answer held' =
    (result : Result Closed (Closing NoCheck)) × ClosesState held.state held.queue result held'.queue
    × (held'.state ≡ state_after result) × (answer ≡ told held'.queue.whole (of_close result))
