-- What the lanes of a receiver have answered after one input more.
use Rattle.std.proofs.Common.{◌≡◌, ◌≢◌, ℕ, ◌<◌, ◌==◌, inl, inr, ⊎_elim, Bool, true, false, Option, Some, None, Ok, Err, List, [], ◌∷◌, ◌++◌, length, filter_map, slice_get, slice_set, if◌then◌else◌, refl, ap, sym, subst, ◌∙◌, append-nil, arith}
use Rattle.std.proofs.lemmas.Bool.{cases_eq, eq-eqb, ne_eqb}
use Rattle.std.proofs.lemmas.List.Elements.{filter_map-append}
use Rattle.std.proofs.lemmas.List.{length-set}
use Rattle.std.proofs.lemmas.Option.{same_Some, slice_get_within}
use Rattle.flow_core.proofs.OneFlow.{written, written_other}
use Rattle.lane.specs.declared.admitted.Admitted.{Admitted}
use Rattle.lane.specs.declared.admitted.Request.{Request}
use Rattle.lane.specs.declared.input.Input.{Input}
use Rattle.lane.specs.declared.input.Input.TheVariants.{Grant, Burst}
use Rattle.lane.specs.Admission.{IsRequestIn}
use Rattle.lane.specs.Inputs.{LaneSetup, Answer, AnsweredInput, IsAnswer}
use Rattle.lane.specs.Report.{admitted_by, requests_of}
use Rattle.lane.proofs.LaneTaking.{answered-last, from-pushed}
use Rattle.lane.proofs.LaneReports.{requests_of-append}
use Rattle.consumer.specs.declared.given.Given.{Given}
use Rattle.consumer.specs.Given.{request_on, requests_given, asked_in}
use Rattle.bonded_flows.specs.Table.{TableSetup}
use Rattle.receiver.specs.declared.setup.Setup.{Setup}
use Rattle.receiver.specs.declared.tallied_lane.TalliedLane.{TalliedLane}
use Rattle.receiver.specs.Items.{lane_setup}
use Rattle.receiver.specs.HandedIn.{HandedIn, came, came_on, answered_on, lane_of}
use Rattle.receiver.specs.Receiving.{HasAnswered, HaveAnswered, AreOpened, AnswersMore}

-- the flow of what is admitted has a record, and its request is of the lane's channel
module _ (setup : LaneSetup) (taken : List AnsweredInput) where
  pub admitted-flow : (input : Input) (admitted : Admitted) → IsAnswer setup taken input (Ok (Some admitted)) → admitted.flow < length setup.records
  admitted-flow (Grant number sid bytes) admitted is = absurd is
  admitted-flow (Burst number hcs_ok bytes) admitted is =
      let flow = is.1.flow in
      let within = slice_get_within setup.records flow.row.flow flow.flow_record flow.stands in
      let index = flow.index in
      let of_flow = is.2.2.flow_is in
      omega arith

  pub admitted-channel : (input : Input) (admitted : Admitted) (request : Request) → IsAnswer setup taken input (Ok (Some admitted))
      → admitted.request ≡ Some request → request.channel ≡ setup.channel
  admitted-channel (Grant number sid bytes) admitted request is asks = absurd is
  admitted-channel (Burst number hcs_ok bytes) admitted request is asks =
      ap (λ (r : Request). r.channel) (subst (IsRequestIn setup.channel is.0.flow admitted.segment.head) asks is.2.2.request).2

-- one lane more is opened
pub opened-more : (setup : Setup) (lanes : List TalliedLane) (one : TalliedLane) → HasAnswered (lane_setup setup (length lanes)) one []
    → AreOpened setup lanes → AreOpened setup (lanes ++ one ∷ [])
opened-more setup lanes one opened are channel other there =
    ⊎_elim
    (λ before. are channel other before)
    (λ last.
    subst (λ (t : TalliedLane). HasAnswered (lane_setup setup channel) t []) (sym last.1)
    (subst (λ (n : ℕ). HasAnswered (lane_setup setup n) one []) (sym last.0) opened))
    (from-pushed lanes one channel other there)

-- a list of one thing, or none
abbrev pub one_if : {X : Type 0} → Bool → X → List X
one_if own x = if own then x ∷ [] else []

picked-one : {X : Type 0} (own : Bool) (x : X) → filter_map (λ (o : Option X). o) ((if own then Some x else None) ∷ []) ≡ one_if own x
picked-one true x = refl
picked-one false x = refl

pub came-on : (on channel : ℕ) (one : AnsweredInput) → answered_on on (came channel one ∷ []) ≡ one_if (channel == on) one
came-on on channel one = picked-one (channel == on) one

-- the requests of one thing, if it is of a channel
requests-if : (own : Bool) (one : AnsweredInput) → requests_of (one_if own one) ≡ (if own then requests_of (one ∷ []) else [])
requests-if true one = refl
requests-if false one = refl

-- a request is given on its channel
abbrev pub request_in : Option Request → List Request
request_in request = filter_map (λ (r : Option Request). r) (request ∷ [])

asked-if : (on : ℕ) (request : Request) (own : Bool) → (request.channel == on) ≡ own → requests_given on (asked_in (Some request)) ≡ one_if own request
asked-if on request own is = picked-one (request.channel == on) request ∙ ap (λ b. one_if b request) is

pub asked-on : (on channel : ℕ) (request : Option Request) → ((r : Request) → request ≡ Some r → r.channel ≡ channel)
    → requests_given on (asked_in request) ≡ (if channel == on then request_in request else [])
asked-on on channel None of_channel = by-own (channel == on)
  where
    by-own : (own : Bool) → [] ≡ (if own then request_in None else [])
    by-own true = refl
    by-own false = refl
asked-on on channel (Some request) of_channel =
    asked-if on request (channel == on) (ap (λ n. n == on) (of_channel request refl))

-- what is asked for by what is answered to one input
pub requests-one : (answer : Answer) (input : Input) (request : Option Request) → ((admitted : Admitted) → admitted_by answer ≡ Some admitted → request ≡ admitted.request)
    → (admitted_by answer ≡ None → request ≡ None) → requests_of (record { input = input; answer = answer } ∷ []) ≡ request_in request
requests-one (Ok None) input request some none = ap request_in (sym (none refl))
requests-one (Ok (Some admitted)) input request some none = ap request_in (sym (some admitted refl))
requests-one (Err refusal) input request some none = ap request_in (sym (none refl))

module _ (made : TableSetup) (handed : List HandedIn) (given given_more : List Given) where
  -- no input more, and no request
  pub lanes-stay : (lanes : List TalliedLane) (more : List HandedIn) → ((channel : ℕ) → answered_on channel more ≡ []) → ((channel : ℕ) → requests_given channel given_more ≡ [])
      → HaveAnswered made lanes handed given → HaveAnswered made lanes (handed ++ more) (given ++ given_more)
  lanes-stay lanes more none no_request have = record {
    rows_fit = have.rows_fit;
    count = have.count;
    each = λ channel one here.
        subst (HasAnswered (lane_of made channel) one) (sym (same-answers channel)) (have.each channel one here);
    requests = λ channel.
        filter_map-append (request_on channel) given given_more
        ∙ ap (λ t. requests_given channel given ++ t) (no_request channel) ∙ append-nil (requests_given channel given)
        ∙ have.requests channel ∙ ap requests_of (sym (same-answers channel));
  }
    where
      same-answers : (channel : ℕ) → answered_on channel (handed ++ more) ≡ answered_on channel handed
      same-answers channel =
          filter_map-append (came_on channel) handed more ∙ ap (λ t. answered_on channel handed ++ t) (none channel) ∙ append-nil (answered_on channel handed)

  -- one input more on a channel
  module _ (lanes : List TalliedLane) (channel : ℕ) (before after : TalliedLane) (here : slice_get lanes channel ≡ Some before) (input : Input) (answer : Answer) (answers : AnswersMore before input answer after)
      (have : HaveAnswered made lanes handed given) where
    abbrev one : AnsweredInput
    one = record { input = input; answer = answer }

    abbrev more : List HandedIn
    more = came channel (record { input = input; answer = answer }) ∷ []

    answers-of : (on : ℕ) → answered_on on (handed ++ more) ≡ answered_on on handed ++ one_if (channel == on) one
    answers-of on = filter_map-append (came_on on) handed more ∙ ap (λ t. answered_on on handed ++ t) (came-on on channel one)

    pub has-answered : HasAnswered (lane_of made channel) after (answered_on channel handed ++ record { input = input; answer = answer } ∷ [])
    has-answered = answers (lane_of made channel) (answered_on channel handed) (have.each channel before here)

    -- the input was answered after those before it
    pub is-answer : IsAnswer (lane_of made channel) (answered_on channel handed) input answer
    is-answer = answered-last (lane_of made channel) (answered_on channel handed) one has-answered.stands.answered

    answers-own : answered_on channel (handed ++ more) ≡ answered_on channel handed ++ one ∷ []
    answers-own = answers-of channel ∙ ap (λ b. answered_on channel handed ++ one_if b one) (eq-eqb channel channel refl)

    answers-other : (on : ℕ) → channel ≢ on → answered_on on (handed ++ more) ≡ answered_on on handed
    answers-other on apart =
        answers-of on ∙ ap (λ b. answered_on on handed ++ one_if b one) (ne_eqb channel on apart) ∙ append-nil (answered_on on handed)

    each-own : (on : ℕ) (stands : TalliedLane) → channel ≡ on → slice_get (slice_set lanes channel after) on ≡ Some stands
        → HasAnswered (lane_of made on) stands (answered_on on (handed ++ more))
    each-own on stands same there =
        subst (λ (n : ℕ). slice_get (slice_set lanes channel after) n ≡ Some stands → HasAnswered (lane_of made n) stands (answered_on n (handed ++ more))) same
        (λ there_own.
        let is : after ≡ stands = same_Some after stands (sym (written lanes channel after (slice_get_within lanes channel before here)) ∙ there_own) in
        subst (λ (t : TalliedLane). HasAnswered (lane_of made channel) t (answered_on channel (handed ++ more))) is
        (subst (HasAnswered (lane_of made channel) after) (sym answers-own) has-answered))
        there

    pub lanes-answer : (request : Option Request) → ((admitted : Admitted) → admitted_by answer ≡ Some admitted → request ≡ admitted.request)
        → (admitted_by answer ≡ None → request ≡ None)
        → ((on : ℕ) → requests_given on given_more ≡ requests_given on (asked_in request))
        → ((r : Request) → request ≡ Some r → r.channel ≡ channel)
        → HaveAnswered made (slice_set lanes channel after) (handed ++ came channel (record { input = input; answer = answer }) ∷ []) (given ++ given_more)
    lanes-answer request some none asks of_channel = record {
      rows_fit = have.rows_fit;
      count = length-set lanes channel after ∙ have.count;
      each = λ on stands there.
          elim (cases_eq channel on) [
            | inl same ↦ each-own on stands same there
            | inr apart ↦
                subst (HasAnswered (lane_of made on) stands) (sym (answers-other on apart))
                (have.each on stands (sym (written_other lanes channel on after (λ same. apart (sym same))) ∙ there))
          ];
      requests = λ on.
          filter_map-append (request_on on) given given_more
          ∙ ap (λ t. t ++ requests_given on given_more) (have.requests on)
          ∙ ap (λ t. requests_of (answered_on on handed) ++ t)
          (asks on ∙ asked-on on channel request of_channel
          ∙ ap (λ t. if channel == on then t else []) (sym (requests-one answer input request some none))
          ∙ sym (requests-if (channel == on) one))
          ∙ sym (requests_of-append (answered_on on handed) (one_if (channel == on) one))
          ∙ ap requests_of (sym (answers-of on));
    }
