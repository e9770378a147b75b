-- What the four sources' workers have posted, by channels.
use Rattle.std.proofs.Common.{◌≡◌, ℕ, ◌+◌, ◌<◌, ◌≤◌, ◌==◌, ⊎_elim, Bool, true, false, not, ◌&&◌, nat_lt, All, Option, Some, None, IfSome, is_some, slice_get, List, [], ◌∷◌, ◌++◌, map, filter, filter_map, flat_map, length, if◌then◌else◌, refl, sym, ap, subst, ◌∙◌, arith}
use Rattle.std.specs.List.{cons_option}
use Rattle.std.proofs.lemmas.Bool.{cases_eq, cases_lt, eq-eqb, ne_eqb, false≢true}
use Rattle.std.proofs.lemmas.List.{length-map, take_at, drop_at}
use Rattle.std.proofs.lemmas.List.Elements.{All-nil, All-cons, All-head, All-tail, All-take, All-drop, All-weaker, filter_map-append, filter_agree}
use Rattle.std.proofs.lemmas.Option.{IfSome_then}
use Rattle.mailbox.specs.declared.port.Port.{Port}
use Rattle.flow_records.specs.Counted.{counted}
use Rattle.flow_records.specs.declared.event.Event.{Event}
use Rattle.lane.specs.declared.admitted.Admitted.{Admitted}
use Rattle.lane.specs.declared.admitted.Request.{Request}
use Rattle.lane.specs.declared.input.Input.{Input}
use Rattle.lane.specs.declared.lane.Lane.{Lane}
use Rattle.lane.specs.Inputs.{AnsweredInput, AreAnswered, inputs_of}
use Rattle.lane.specs.Limits.{senders}
use Rattle.lane.specs.Report.{admitted_by, admitted_of, requests_of, event_of_admitted, IsLaneRequest}
use Rattle.receiver.specs.declared.setup.Setup.{Setup}
use Rattle.receiver.specs.Items.{lane_setup}
use Rattle.receiver.specs.Order.{picked}
use Rattle.receiver.proofs.ChannelInputs.{requests-asked}
use Rattle.workers.specs.declared.channel_input.ChannelInput.{ChannelInput}
use Rattle.workers.specs.declared.item.Item.{Item}
use Rattle.workers.specs.declared.lane_notes.SourceNotes.{SourceNotes}
use Rattle.workers.specs.declared.lane_worker.LaneDone.{LaneDone}
use Rattle.workers.specs.declared.strays.Strays.{Strays}
use Rattle.workers.specs.Channels.{input_on, given_on, all_on, belongs_to, AreStraysOf}
use Rattle.workers.specs.Inside.Carried.{SentEvent, sent_by, senders_of, events_of}
use Rattle.workers.specs.Inside.Working.{ServedInput, answers_on, given_as, sent_in, asked_in, owned, is_own, HasSent, HasPosted, DidLane}
use Rattle.uplink.specs.Inside.Running.{AreOpenLanesOf}

-- the events of one sender, and the requests on one channel, in order
abbrev pub event_from : ℕ → SentEvent → Option Event
event_from sender one = if sender == one.sender then Some one.event else None

abbrev pub events_from : ℕ → List SentEvent → List Event
events_from sender all = filter_map (event_from sender) all

abbrev pub request_for : ℕ → Request → Option Request
request_for channel request = if request.channel == channel then Some request else None

abbrev pub requests_for : ℕ → List Request → List Request
requests_for channel all = filter_map (request_for channel) all

-- ============ What is seen of several lists is what is seen of one ============

-- where something is at the front, there is something
something : {X : Type 0} (x : X) (xs : List X) → x ∷ xs ≡ [] → ⊥
something x xs none = absurd (cc)

-- nothing was added
rest-nothing : {X : Type 0} (o : Option X) (xs : List X) → cons_option o xs ≡ [] → xs ≡ []
rest-nothing None xs none = none
rest-nothing (Some x) xs none = absurd (something x xs none)

first-nothing : {X : Type 0} (o : Option X) (xs : List X) → cons_option o xs ≡ [] → o ≡ None
first-nothing None xs none = refl
first-nothing (Some x) xs none = absurd (something x xs none)

module _ {X Y : Type 0} (see : X → Option Y) (port : ℕ) where
  -- nothing is seen of what other ports have
  abbrev pub NoneElsewhere : List ℕ → List X → Type 0
  NoneElsewhere ports items = (other : ℕ) → other < senders → (other ≡ port → ⊥) → filter_map see (picked other ports items) ≡ []

  -- nor of the rest
  none-rest : (first : ℕ) (ports : List ℕ) (item : X) (items : List X) → NoneElsewhere (first ∷ ports) (item ∷ items) → NoneElsewhere ports items
  none-rest first ports item items none other below not = either (other == first) (none other below not)
    where
      either : (b : Bool) → filter_map see (if b then item ∷ picked other ports items else picked other ports items) ≡ [] → filter_map see (picked other ports items) ≡ []
      either true is = rest-nothing (see item) (filter_map see (picked other ports items)) is
      either false is = is

  -- all that is seen is of this port
  pub seen-of-port : (ports : List ℕ) (items : List X) → length ports ≡ length items → All (λ p. p < senders) ports → NoneElsewhere ports items
      → filter_map see items ≡ filter_map see (picked port ports items)
  seen-of-port [] [] same named none = refl
  seen-of-port [] (item ∷ items) same named none = absurd (omega arith)
  seen-of-port (first ∷ ports) [] same named none = absurd (omega arith)
  seen-of-port (first ∷ ports) (item ∷ items) same named none =
      let rest = seen-of-port ports items (omega arith) (All-tail (λ p. p < senders) first ports named) (none-rest first ports item items none) in
      ⊎_elim
      (λ (here : port ≡ first).
      ap (cons_option (see item)) rest
      ∙ ap (λ b. filter_map see (if b then item ∷ picked port ports items else picked port ports items)) (sym (eq-eqb port first here)))
      (λ (not : port ≡ first → ⊥).
      let own : filter_map see (item ∷ picked first ports items) ≡ [] =
      ap (λ b. filter_map see (if b then item ∷ picked first ports items else picked first ports items)) (sym (eq-eqb first first refl))
      ∙ none first (All-head (λ p. p < senders) first ports named) (λ same. not (sym same)) in
      ap (λ o. cons_option o (filter_map see items)) (first-nothing (see item) (filter_map see (picked first ports items)) own) ∙ rest
      ∙ ap (λ b. filter_map see (if b then item ∷ picked port ports items else picked port ports items)) (sym (ne_eqb port first not)))
      (cases_eq port first)

-- the events of a sender are picked for it
pub picked-of-sender : (sender : ℕ) (items : List SentEvent) → picked sender (senders_of items) (events_of items) ≡ events_from sender items
picked-of-sender sender [] = refl
picked-of-sender sender (one ∷ items) = either (picked-of-sender sender items) (sender == one.sender)
  where
    either : picked sender (senders_of items) (events_of items) ≡ events_from sender items → (b : Bool)
        → (if b then one.event ∷ picked sender (senders_of items) (events_of items) else picked sender (senders_of items) (events_of items))
        ≡ cons_option (if b then Some one.event else None) (events_from sender items)
    either rest true = ap (λ l. one.event ∷ l) rest
    either rest false = rest

-- where no sender from this number on has an event, each is below it
pub senders-below : (limit : ℕ) (items : List SentEvent) → ((sender : ℕ) → limit ≤ sender → events_from sender items ≡ []) → All (λ tag. tag < limit) (senders_of items)
senders-below limit [] none = All-nil (λ tag. tag < limit)
senders-below limit (one ∷ items) none =
    All-cons (λ tag. tag < limit) one.sender (senders_of items)
    (⊎_elim
    (λ (below : one.sender < limit). below)
    (λ (past : limit ≤ one.sender).
    let is : cons_option (Some one.event) (events_from one.sender items) ≡ [] =
    ap (λ b. cons_option (if b then Some one.event else None) (events_from one.sender items)) (sym (eq-eqb one.sender one.sender refl)) ∙ none one.sender past in
    absurd (something one.event (events_from one.sender items) is))
    (cases_lt one.sender limit))
    (senders-below limit items (λ sender past. rest-nothing (event_from sender one) (events_from sender items) (none sender past)))

-- events that are all sent by one
pub events-by : (sender by : ℕ) (events : List Event) → events_from sender (sent_by by events) ≡ (if sender == by then events else [])
events-by sender by events = ⊎_elim own other (cases_eq sender by)
  where
    all : (events : List Event) (b : Bool) → (sender == by) ≡ b → events_from sender (sent_by by events) ≡ (if b then events else [])
    all [] true is = refl
    all [] false is = refl
    all (event ∷ events) true is = ap (λ b. cons_option (if b then Some event else None) (events_from sender (sent_by by events))) is ∙ ap (λ l. event ∷ l) (all events true is)
    all (event ∷ events) false is = ap (λ b. cons_option (if b then Some event else None) (events_from sender (sent_by by events))) is ∙ all events false is

    own : sender ≡ by → events_from sender (sent_by by events) ≡ (if sender == by then events else [])
    own same = all events true (eq-eqb sender by same) ∙ ap (λ b. if b then events else []) (sym (eq-eqb sender by same))

    other : (sender ≡ by → ⊥) → events_from sender (sent_by by events) ≡ (if sender == by then events else [])
    other not = all events false (ne_eqb sender by not) ∙ ap (λ b. if b then events else []) (sym (ne_eqb sender by not))

-- ============ What a source's worker answered, on one channel ============

-- whether two numbers are the same is asked either way
either-way : (a b : ℕ) → (a == b) ≡ (b == a)
either-way a b =
    ⊎_elim
    (λ (same : a ≡ b). eq-eqb a b same ∙ sym (eq-eqb b a (sym same)))
    (λ (not : a ≡ b → ⊥). ne_eqb a b not ∙ sym (ne_eqb b a (λ same. not (sym same))))
    (cases_eq a b)

-- the inputs of a channel are those that were given on it
inputs-answered : (channel : ℕ) (served : List ServedInput) → given_on channel (map given_as served) ≡ inputs_of (answers_on channel served)
inputs-answered channel [] = refl
inputs-answered channel (one ∷ served) = either (inputs-answered channel served) (one.channel == channel)
  where
    either : given_on channel (map given_as served) ≡ inputs_of (answers_on channel served) → (b : Bool) → cons_option (if b then Some one.one.input else None) (given_on channel (map given_as served))
        ≡ inputs_of (cons_option (if b then Some one.one else None) (answers_on channel served))
    either rest true = ap (λ l. one.one.input ∷ l) rest
    either rest false = rest

-- where all came on one channel, all were given on it
pub given-all : (channel : ℕ) (inputs : List Input) → given_on channel (all_on channel inputs) ≡ inputs
given-all channel [] = refl
given-all channel (input ∷ inputs) =
    ap (λ b. cons_option (if b then Some input else None) (given_on channel (all_on channel inputs))) (eq-eqb channel channel refl)
    ∙ ap (λ l. input ∷ l) (given-all channel inputs)

module _ (own : ℕ → Bool) (channel : ℕ) where
  abbrev own_input : ChannelInput → Bool
  own_input one = own one.channel

  -- of the source's own channels all that was given on one is among them, and of others nothing
  given-own : own channel ≡ true → (inputs : List ChannelInput) → given_on channel (filter own_input inputs) ≡ given_on channel inputs
  given-own is [] = refl
  given-own is (one ∷ inputs) =
      let rest = given-own is inputs in
      ⊎_elim
      (λ (same : one.channel ≡ channel).
      ap (λ b. given_on channel (if b then one ∷ filter own_input inputs else filter own_input inputs)) (ap own same ∙ is)
      ∙ ap (cons_option (input_on channel one)) rest)
      (λ (not : one.channel ≡ channel → ⊥).
      elsewhere one inputs not (own one.channel) ∙ rest
      ∙ ap (λ b. cons_option (if b then Some one.input else None) (given_on channel inputs)) (sym (ne_eqb one.channel channel not)))
      (cases_eq one.channel channel)
    where
      elsewhere : (one : ChannelInput) (inputs : List ChannelInput) → (one.channel ≡ channel → ⊥) → (b : Bool)
          → given_on channel (if b then one ∷ filter own_input inputs else filter own_input inputs) ≡ given_on channel (filter own_input inputs)
      elsewhere one inputs not true =
          ap (λ b. cons_option (if b then Some one.input else None) (given_on channel (filter own_input inputs))) (ne_eqb one.channel channel not)
      elsewhere one inputs not false = refl

  given-foreign : own channel ≡ false → (inputs : List ChannelInput) → given_on channel (filter own_input inputs) ≡ []
  given-foreign is [] = refl
  given-foreign is (one ∷ inputs) = either (given-foreign is inputs) (own one.channel) refl
    where
      either : given_on channel (filter own_input inputs) ≡ [] → (b : Bool) → own one.channel ≡ b → given_on channel (if b then one ∷ filter own_input inputs else filter own_input inputs) ≡ []
      either rest true here =
          ap (λ t. cons_option (if t then Some one.input else None) (given_on channel (filter own_input inputs)))
          (ne_eqb one.channel channel (λ same. false≢true (sym is ∙ ap own (sym same) ∙ here))) ∙ rest
      either rest false here = rest

-- a list of which nothing is seen is none
none-answered : (answered : List AnsweredInput) → inputs_of answered ≡ [] → answered ≡ []
none-answered [] none = refl
none-answered (one ∷ answered) none = absurd (something one.input (inputs_of answered) none)

-- what one more answer admits
admits-more : (o : Option Admitted) (rest : List Admitted)
    → map event_of_admitted (cons_option o []) ++ map event_of_admitted rest ≡ map event_of_admitted (cons_option o rest)
admits-more None rest = refl
admits-more (Some admitted) rest = refl

-- and what it asks for
asks-more : (o : Option Admitted) (rest : List Admitted)
    → filter_map (λ (one : Admitted). one.request) (cons_option o []) ++ filter_map (λ (one : Admitted). one.request) rest
    ≡ filter_map (λ (one : Admitted). one.request) (cons_option o rest)
asks-more None rest = refl
asks-more (Some admitted) rest = push admitted.request
  where
    push : (request : Option Request)
        → cons_option request [] ++ filter_map (λ (one : Admitted). one.request) rest ≡ cons_option request (filter_map (λ (one : Admitted). one.request) rest)
    push None = refl
    push (Some request) = refl

-- the events that were sent on a channel are those of what it admitted
pub events-admitted : (channel : ℕ) (served : List ServedInput)
    → events_from channel (flat_map sent_in served) ≡ map event_of_admitted (admitted_of (answers_on channel served))
events-admitted channel [] = refl
events-admitted channel (one ∷ served) =
    filter_map-append (event_from channel) (sent_in one) (flat_map sent_in served)
    ∙ ap (λ l. events_from channel (sent_in one) ++ l) (events-admitted channel served)
    ∙ ap (λ l. l ++ tail) (events-by channel one.channel front ∙ ap (λ b. if b then front else []) (either-way channel one.channel))
    ∙ either (one.channel == channel)
  where
    tail : List Event
    tail = map event_of_admitted (admitted_of (answers_on channel served))

    front : List Event
    front = map event_of_admitted (filter_map admitted_by (one.one.answer ∷ []))

    either : (b : Bool) → (if b then front else []) ++ tail
        ≡ map event_of_admitted (admitted_of (cons_option (if b then Some one.one else None) (answers_on channel served)))
    either true = admits-more (admitted_by one.one.answer) (admitted_of (answers_on channel served))
    either false = refl

-- requests that all came on one channel
requests-by : (channel by : ℕ) (requests : List Request) → All (λ (request : Request). request.channel ≡ by) requests
    → requests_for channel requests ≡ (if by == channel then requests else [])
requests-by channel by [] own = nothing (by == channel)
  where
    nothing : (b : Bool) → ◌≡◌ {A = List Request} [] (if b then [] else [])
    nothing true = refl
    nothing false = refl
requests-by channel by (request ∷ requests) own =
    let is : request.channel ≡ by = All-head (λ (request : Request). request.channel ≡ by) request requests own in
    ap (λ n. cons_option (if n == channel then Some request else None) (requests_for channel requests)) is
    ∙ ap (cons_option (if by == channel then Some request else None)) (requests-by channel by requests (All-tail (λ (request : Request). request.channel ≡ by) request requests own))
    ∙ either (by == channel)
  where
    either : (b : Bool) → cons_option (if b then Some request else None) (if b then requests else []) ≡ (if b then request ∷ requests else [])
    either true = refl
    either false = refl

-- each request of a channel came on it
abbrev pub AreOnTheirChannels : List ServedInput → Type 0
AreOnTheirChannels served = (channel : ℕ) → All (λ (request : Request). request.channel ≡ channel) (requests_of (answers_on channel served))

module _ (one : ServedInput) (served : List ServedInput) (own : AreOnTheirChannels (one ∷ served)) where
  -- what the first asks, and then the others on its channel
  asks-first : requests_of (answers_on one.channel (one ∷ served)) ≡ asked_in one ++ requests_of (answers_on one.channel served)
  asks-first =
      ap (λ b. requests_of (cons_option (if b then Some one.one else None) (answers_on one.channel served))) (eq-eqb one.channel one.channel refl)
      ∙ sym (asks-more (admitted_by one.one.answer) (admitted_of (answers_on one.channel served)))

  -- the first asks on its channel
  first-on : All (λ (request : Request). request.channel ≡ one.channel) (asked_in one)
  first-on =
      let P : Request → Type 0 = λ request. request.channel ≡ one.channel in
      let rest = requests_of (answers_on one.channel served) in
      subst (All P) (take_at (asked_in one) rest (length (asked_in one)) refl)
      (All-take P (length (asked_in one)) (asked_in one ++ rest) (subst (All P) asks-first (own one.channel)))

  -- and so do the others
  rest-on : AreOnTheirChannels served
  rest-on channel = either (one.channel == channel) (own channel)
    where
      either : (b : Bool) → All (λ (request : Request). request.channel ≡ channel) (requests_of (cons_option (if b then Some one.one else None) (answers_on channel served)))
          → All (λ (request : Request). request.channel ≡ channel) (requests_of (answers_on channel served))
      either true all =
          let P : Request → Type 0 = λ request. request.channel ≡ channel in
          let rest = requests_of (answers_on channel served) in
          subst (All P) (drop_at (asked_in one) rest (length (asked_in one)) refl)
          (All-drop P (length (asked_in one)) (asked_in one ++ rest)
          (subst (All P) (sym (asks-more (admitted_by one.one.answer) (admitted_of (answers_on channel served)))) all))
      either false all = all

-- so the requests on a channel are those of what it admitted
pub requests-admitted : (channel : ℕ) (served : List ServedInput) → AreOnTheirChannels served
    → requests_for channel (flat_map asked_in served) ≡ requests_of (answers_on channel served)
requests-admitted channel [] own = refl
requests-admitted channel (one ∷ served) own =
    filter_map-append (request_for channel) (asked_in one) (flat_map asked_in served)
    ∙ ap (λ l. requests_for channel (asked_in one) ++ l) (requests-admitted channel served (rest-on one served own))
    ∙ ap (λ l. l ++ requests_of (answers_on channel served)) (requests-by channel one.channel (asked_in one) (first-on one served own))
    ∙ either (one.channel == channel)
  where
    either : (b : Bool) → (if b then asked_in one else []) ++ requests_of (answers_on channel served)
        ≡ requests_of (cons_option (if b then Some one.one else None) (answers_on channel served))
    either true = asks-more (admitted_by one.one.answer) (admitted_of (answers_on channel served))
    either false = refl

-- ============ What a source's worker did ============

-- The inputs of the source's channels were answered so, no others, and what was noted is of them.
pub record AreServed {N : Type 0} (are_of : List AnsweredInput → N → Type 0) (channels source : ℕ) (setup : Setup) (inputs : List ChannelInput) (served : List ServedInput) (notes : Option (SourceNotes N)) : Type 0 where
  pub inputs_are : map given_as served ≡ filter (λ one. belongs_to channels source one.channel) inputs
  pub answers : (channel : ℕ) → belongs_to channels source channel ≡ true → AreAnswered (lane_setup setup channel) (answers_on channel served)
  pub inputs_on : (channel : ℕ) → belongs_to channels source channel ≡ true → inputs_of (answers_on channel served) ≡ given_on channel inputs
  pub none_on : (channel : ℕ) → belongs_to channels source channel ≡ false → answers_on channel served ≡ []
  pub count : IfSome notes (λ all. length all.lanes.items ≡ channels)
  pub noted : IfSome notes (λ all. (channel : ℕ) (one : N) → slice_get all.lanes.items channel ≡ Some one → are_of (answers_on channel served) one)
  pub strays : IfSome notes (λ all. AreStraysOf channels (belongs_to channels source) inputs all.strays)

-- and what they admit was posted, with their requests
pub record HasDone {N : Type 0} (are_of : List AnsweredInput → N → Type 0) (channels source : ℕ) (setup : Setup) (inputs : List ChannelInput) (arrivals : Port Item) (requests : Port Request) (done : LaneDone N) : Type 0 where
  pub served : List ServedInput
  pub are : AreServed are_of channels source setup inputs served done.notes
  pub arrivals_are : HasSent arrivals (flat_map sent_in served) done.arrivals
  pub requests_are : HasPosted requests (flat_map asked_in served) done.requests

-- each request came on its channel
pub on-their-channels : {N : Type 0} (are_of : List AnsweredInput → N → Type 0) (channels source : ℕ) (setup : Setup) (inputs : List ChannelInput) (served : List ServedInput) (notes : Option (SourceNotes N))
    → AreServed are_of channels source setup inputs served notes → AreOnTheirChannels served
on-their-channels are_of channels source setup inputs served notes are channel = either (belongs_to channels source channel) refl
  where
    either : (b : Bool) → belongs_to channels source channel ≡ b → All (λ (request : Request). request.channel ≡ channel) (requests_of (answers_on channel served))
    either true is =
        All-weaker (IsLaneRequest (lane_setup setup channel)) (λ (request : Request). request.channel ≡ channel) (λ request asked. asked.channel)
        (requests_of (answers_on channel served)) (requests-asked (lane_setup setup channel) (answers_on channel served) (are.answers channel is))
    either false is =
        subst (λ (answered : List AnsweredInput). All (λ (request : Request). request.channel ≡ channel) (requests_of answered)) (sym (are.none_on channel is))
        (All-nil (λ (request : Request). request.channel ≡ channel))

module _ {N : Type 0} (are_of : List AnsweredInput → N → Type 0) (channels source : ℕ) (setup : Setup) (lanes : List (Option Lane)) (inputs : List ChannelInput)
    (opened : AreOpenLanesOf channels source setup lanes) where
  -- the channels of the lanes are the source's
  same-own : (inputs : List ChannelInput)
      → filter (λ one. is_own (owned lanes) one.channel) inputs ≡ filter (λ one. belongs_to channels source one.channel) inputs
  same-own = filter_agree (λ (one : ChannelInput). is_own (owned lanes) one.channel) (λ (one : ChannelInput). belongs_to channels source one.channel) (λ one. opened.own one.channel)

  long-own : length (owned lanes) ≡ channels
  long-own = length-map lanes (λ (lane : Option Lane). is_some lane) ∙ opened.count

  pub source-done : (arrivals : Port Item) (requests : Port Request) (done : LaneDone N) → DidLane are_of lanes arrivals requests inputs done
      → HasDone are_of channels source setup inputs arrivals requests done
  source-done arrivals requests done did =
      let is = did.did setup.sids.items setup.flows.items opened.stand in
      let given : map given_as is.served ≡ filter (λ one. belongs_to channels source one.channel) inputs = is.inputs_are ∙ same-own inputs in
      record {
        served = is.served;
        are = record {
          inputs_are = given;
          answers = λ channel own. is.answers channel (opened.own channel ∙ own);
          inputs_on = λ channel own.
              sym (inputs-answered channel is.served) ∙ ap (given_on channel) given ∙ given-own (belongs_to channels source) channel own inputs;
          none_on = λ channel foreign.
              none-answered (answers_on channel is.served)
              (sym (inputs-answered channel is.served) ∙ ap (given_on channel) given ∙ given-foreign (belongs_to channels source) channel foreign inputs);
          count = IfSome_then done.notes is.noted (λ all is. is.count ∙ long-own);
          noted = IfSome_then done.notes is.noted (λ all is. is.of_lanes);
          strays = IfSome_then done.notes is.noted (λ all is. stray-same all.strays is.strays);
        };
        arrivals_are = is.arrivals_are;
        requests_are = is.requests_are;
      }
    where
      stray-same : (strays : Strays) → AreStraysOf (length (owned lanes)) (is_own (owned lanes)) inputs strays → AreStraysOf channels (belongs_to channels source) inputs strays
      stray-same strays are =
          let counts : AreStraysOf channels (is_own (owned lanes)) inputs strays = subst (λ n. AreStraysOf n (is_own (owned lanes)) inputs strays) long-own are in
          record {
            foreign =
                counts.foreign
                ∙ ap (λ (l : List ChannelInput). counted (length l))
                (filter_agree (λ (one : ChannelInput). nat_lt one.channel channels && not (is_own (owned lanes) one.channel))
                (λ (one : ChannelInput). nat_lt one.channel channels && not (belongs_to channels source one.channel))
                (λ one. ap (λ b. nat_lt one.channel channels && not b) (opened.own one.channel)) inputs);
            absent = counts.absent;
          }
