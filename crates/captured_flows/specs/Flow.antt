-- What the bursts of one flow in a capture spell: what is handed in to a receiver, in order.
use Rattle.std.specs.Prelude.{◌≡◌, ℕ, Bool, true, false, Option, Some, None, List, [], ◌∷◌, ◌++◌, slice_get}
use Rattle.flow_records.specs.declared.record.FlowRecord.{FlowRecord}
use Rattle.lane.specs.declared.input.Input.{Input}
use Rattle.lane.specs.declared.input.Input.TheVariants.{Grant, Burst}
use Rattle.lane.specs.Inputs.{Answer}
use Rattle.bonded_flows.specs.Table.{TableSetup}
use Rattle.bonded_flows.specs.declared.decision.FlowDecision.TheVariants.{SkipTo}
use Rattle.bonded_flows.specs.declared.told.SegmentVerdict.{SegmentVerdict}
use Rattle.bonded_flows.specs.declared.told.SegmentVerdict.TheVariants.{Kept}
use Rattle.receiver.specs.declared.reply.Reply.{Reply}
use Rattle.receiver.specs.declared.reply.Reply.TheVariants as reply
use Rattle.receiver.specs.HandedIn.{HandedIn, came, decided, restarted}
use Rattle.receiver.specs.Receiving.{Says, IsToldRightly, IsNumberExpected}
use Rattle.capture_rules.specs.declared.arrival.Arrival.{Arrival}
use Rattle.capture_rules.specs.declared.arrival.HandedOn.{HandedOn}
use Rattle.capture_rules.specs.declared.held_time.HeldTime.{HeldTime}
use Rattle.capture_rules.specs.declared.beginning.Begun.{Begun}
use Rattle.capture_rules.specs.Order.{OrderView, nothing_waits, HandsOn, BurstComes, HandsOnAll}
use Rattle.capture_rules.specs.Begin.{BeginningView, nothing_handed_on, IsEnded, is_over, is_beginning, is_silent, after_end, after_hand_on, to_hand_in}
use Rattle.capture_rules.specs.Held.{IsSkip, still_ahead}
use Rattle.captured_flows.specs.declared.sound_burst.SoundBurst.{SoundBurst}
use Rattle.captured_flows.specs.Acts.{Act, alone, with_burst, items_of}

-- a burst that is handed on
abbrev pub Next : Type 0
Next = HandedOn SoundBurst

-- its grant, and itself; one number does for all grants, since each is spent at once
abbrev pub grant_of : Next → Input
grant_of one = Grant 0 one.arrival.item.sid one.arrival.item.granted

abbrev pub burst_of : Next → Input
burst_of one = Burst 0 true one.arrival.item.bytes

-- it is said that a segment is kept
abbrev pub is_kept : SegmentVerdict → Bool
is_kept Kept = true
is_kept _ = false

abbrev pub says_kept : Reply → Bool
says_kept (reply.Admitted flow sequence told) = is_kept told.verdict
says_kept _ = false

-- This input comes on a channel, by such an act, is answered by its lane, and this is told of it.
pub record IsInput (act : HandedIn → Act) (channel : ℕ) (input : Input) (answered : Reply) (made : TableSetup) (handed more : List Act) : Type 0 where
  pub answer : Answer
  pub says : Says answered answer
  pub told : IsToldRightly made (items_of handed) channel answer answered
  pub all : more ≡ act (came channel (record { input = input; answer = answer })) ∷ []

-- What is known of a flow: the window's width; the order of its bursts, and those that wait; its
-- beginning; and what it holds, with times.
pub record FlowView : Type 0 where
  pub window : ℕ
  pub order : OrderView SoundBurst
  pub beginning : BeginningView SoundBurst
  pub held : List HeldTime

-- nothing of it came yet
abbrev pub flow_begun : ℕ → Bool → ℕ → ℕ → FlowView
flow_begun window is_begun reorder wait = record { window = window; order = nothing_waits reorder; beginning = nothing_handed_on wait is_begun; held = [] }

-- a beginning ends, if it is to end
pub data EndsIf (is_to_end : Bool) (beginning : BeginningView SoundBurst) : Option (Begun SoundBurst) → BeginningView SoundBurst → Type 0 where
  goes_on_beginning : is_to_end ≡ false → EndsIf is_to_end beginning None beginning
  ends : (begun : Begun SoundBurst) → is_to_end ≡ true → IsEnded beginning begun → EndsIf is_to_end beginning (Some begun) (after_end beginning)

-- flow k of a receiver that is made with this expects this number, after all that was handed in
abbrev pub Expects : TableSetup → ℕ → List Act → ℕ → Type 0
Expects made k handed number = (flow_record : FlowRecord) → slice_get made.records k ≡ Some flow_record → IsNumberExpected made k flow_record (items_of handed) number

-- **Flow k of a receiver that is made with this**, where what is held for longer than `wait` is let
-- go. In what follows `handed` is what was handed in before, of all flows, and `more` what is
-- handed in then.
module _ (made : TableSetup) (wait k : ℕ) where
  -- the flow skips to a number, and what then doesn't lie ahead is held no longer
  pub record Skips (number : ℕ) (held : List HeldTime) (handed more : List Act) (left : List HeldTime) : Type 0 where
    pub all : more ≡ alone (decided k (SkipTo number)) ∷ []
    pub expected : ℕ
    pub expects : Expects made k (handed ++ more) expected
    pub left_is : left ≡ still_ahead expected held

  -- Where something is held for long, the flow skips to the last of that.
  pub data LetsGo (now : ℕ) (held : List HeldTime) (handed : List Act) : List Act → List HeldTime → Type 0 where
    none_is_old : (expected : ℕ) → Expects made k handed expected → IsSkip wait now expected held None → LetsGo now held handed [] held
    some_is_old : {more : List Act} {left : List HeldTime} (expected number : ℕ) → Expects made k handed expected → IsSkip wait now expected held (Some number)
        → Skips number held handed more left → LetsGo now held handed more left

  -- what is held besides, of a segment that was kept or wasn't
  pub data Holds (one : Next) (held : List HeldTime) : Bool → List HeldTime → Type 0 where
    not_kept : Holds one held false held
    kept : (entry : HeldTime) → entry.number ≡ one.arrival.number → entry.time ≡ one.time → Holds one held true (held ++ entry ∷ [])

  -- **A burst is handed in**, after what is let go: it is told, and then its grant and itself are
  -- handed in, each answered by its lane. If its segment is kept, it is held from then on, as long
  -- as it lies ahead.
  pub record HandsIn (one : Next) (held : List HeldTime) (handed more : List Act) (left : List HeldTime) : Type 0 where
    pub let_go : List Act
    pub between : List HeldTime
    pub lets_go : LetsGo one.time held handed let_go between
    pub granting : Reply
    pub granted : List Act
    pub grant : IsInput (with_burst k one.arrival) one.arrival.channel (grant_of one) granting made (handed ++ let_go) granted
    pub answered : Reply
    pub coming : List Act
    pub burst : IsInput alone one.arrival.channel (burst_of one) answered made ((handed ++ let_go) ++ granted) coming
    pub all : more ≡ (let_go ++ granted) ++ coming
    pub holding : List HeldTime
    pub holds : Holds one between (says_kept answered) holding
    pub expected : ℕ
    pub expects : Expects made k (handed ++ more) expected
    pub left_is : left ≡ still_ahead expected holding

  -- several are, one after another
  pub data HandsInAll : List Next → List HeldTime → List Act → List Act → List HeldTime → Type 0 where
    none : {held : List HeldTime} {handed : List Act} → HandsInAll [] held handed [] held
    one_more : {one : Next} {before : List Next} {held between left : List HeldTime} {handed first later : List Act}
        → HandsInAll before held handed first between → HandsIn one between (handed ++ first) later left
        → HandsInAll (before ++ one ∷ []) held handed (first ++ later) left

  -- **The flow begins, or begins anew**: nothing is held, and what was kept is handed in.
  pub record Begins (begun : Begun SoundBurst) (handed more : List Act) (left : List HeldTime) : Type 0 where
    pub later : List Act
    pub hands_in : HandsInAll begun.kept.items [] (handed ++ alone (restarted k begun.first) ∷ []) later left
    pub all : more ≡ alone (restarted k begun.first) ∷ later

  -- it does, if a beginning of it has ended
  pub data BeginsIf (held : List HeldTime) (handed : List Act) : Option (Begun SoundBurst) → List Act → List HeldTime → Type 0 where
    goes_on : BeginsIf held handed None [] held
    begins : {begun : Begun SoundBurst} {more : List Act} {left : List HeldTime} → Begins begun handed more left → BeginsIf held handed (Some begun) more left

  -- after a silence what is old is let go
  pub data LetsGoIf (silent : Bool) (now : ℕ) (held : List HeldTime) (handed : List Act) : List Act → List HeldTime → Type 0 where
    not_silent : silent ≡ false → LetsGoIf silent now held handed [] held
    is_silent_then : {more : List Act} {left : List HeldTime} → silent ≡ true → LetsGo now held handed more left → LetsGoIf silent now held handed more left

  -- what isn't kept is handed in
  pub data HandsInIf (held : List HeldTime) (handed : List Act) : Option Next → List Act → List HeldTime → Type 0 where
    is_kept_then : HandsInIf held handed None [] held
    is_handed_in : {one : Next} {more : List Act} {left : List HeldTime} → HandsIn one held handed more left → HandsInIf held handed (Some one) more left

  -- **A burst is handed on**: a beginning that is over ends first; after a silence what is old is
  -- let go; and then it is kept, or handed in.
  pub record IsHandedOn (window : ℕ) (one : Next) (beginning : BeginningView SoundBurst) (held : List HeldTime) (handed more : List Act) (beginning' : BeginningView SoundBurst) (held' : List HeldTime) : Type 0 where
    pub begun : Option (Begun SoundBurst)
    pub ended : BeginningView SoundBurst
    pub ends : EndsIf (is_over beginning.kept one.time) beginning begun ended
    pub ending : List Act
    pub after_ending : List HeldTime
    pub begins_if : BeginsIf held handed begun ending after_ending
    pub between : List HeldTime
    pub let_go : List Act
    pub lets_go_if : LetsGoIf (is_silent ended one.time) one.time after_ending (handed ++ ending) let_go between
    pub expected : ℕ
    pub expects : Expects made k ((handed ++ ending) ++ let_go) expected
    pub last : List Act
    pub hands_in : HandsInIf between ((handed ++ ending) ++ let_go) (to_hand_in ended expected window one) last held'
    pub beginning_is : beginning' ≡ after_hand_on ended expected window one
    pub all : more ≡ (ending ++ let_go) ++ last

  -- several are, one after another
  pub data AreHandedOn (window : ℕ) : List Next → BeginningView SoundBurst → List HeldTime → List Act → List Act → BeginningView SoundBurst → List HeldTime → Type 0 where
    no_more : {beginning : BeginningView SoundBurst} {held : List HeldTime} {handed : List Act}
        → AreHandedOn window [] beginning held handed [] beginning held
    next_one : {one : Next} {before : List Next} {beginning between beginning' : BeginningView SoundBurst} {held holding held' : List HeldTime} {handed first later : List Act}
        → AreHandedOn window before beginning held handed first between holding → IsHandedOn window one between holding (handed ++ first) later beginning' held'
        → AreHandedOn window (before ++ one ∷ []) beginning held handed (first ++ later) beginning' held'

  -- what goes before a burst of this time comes is handed on
  pub record PassesOn (time : ℕ) (flow : FlowView) (handed more : List Act) (flow' : FlowView) : Type 0 where
    pub due : List Next
    pub hands_on : HandsOn time flow.order due flow'.order
    pub handed_on : AreHandedOn flow.window due flow.beginning flow.held handed more flow'.beginning flow'.held
    pub window : flow'.window ≡ flow.window

  -- **A burst of the flow comes**: what is due is handed on, and then it waits.
  pub record Comes (one : Arrival SoundBurst) (flow : FlowView) (handed more : List Act) (flow' : FlowView) : Type 0 where
    pub due : List Next
    pub burst_comes : BurstComes flow.order one due flow'.order
    pub handed_on : AreHandedOn flow.window due flow.beginning flow.held handed more flow'.beginning flow'.held
    pub window : flow'.window ≡ flow.window

  -- **Nothing more comes**: all that waits is handed on, and a beginning ends.
  pub record EndsWaiting (flow : FlowView) (handed more : List Act) (flow' : FlowView) : Type 0 where
    pub due : List Next
    pub hands_on : HandsOnAll flow.order.waiting due
    pub beginning : BeginningView SoundBurst
    pub held : List HeldTime
    pub first : List Act
    pub handed_on : AreHandedOn flow.window due flow.beginning flow.held handed first beginning held
    pub begun : Option (Begun SoundBurst)
    pub ends : EndsIf (is_beginning beginning.kept) beginning begun flow'.beginning
    pub later : List Act
    pub begins_if : BeginsIf held (handed ++ first) begun later flow'.held
    pub left : flow'.order ≡ record flow.order { waiting = [] }
    pub window : flow'.window ≡ flow.window
    pub all : more ≡ first ++ later
