-- What is admitted of the inputs of a channel.
use Rattle.std.proofs.Common.{◌≡◌, ℕ, ◌<◌, Option, Some, None, Ok, Err, All, List, [], ◌∷◌, ◌++◌, length, slice_get, slice_index_or, map, take, filter_map, sym, ap, ◌∙◌, refl, arith}
use Rattle.std.specs.List.{cons_option}
use Rattle.std.proofs.lemmas.List.{map-append}
use Rattle.std.proofs.lemmas.List.Elements.{All-nil, All-cons, All-head, All-tail, All-same, All-append}
use Rattle.std.proofs.lemmas.Option.{slice_get_within, slice_get-get_or}
use Rattle.docsis_wire.specs.Limits.{sequence_modulus}
use Rattle.lane.specs.Admission.{IsRequestIn}
use Rattle.lane.specs.declared.admitted.Request.{Request}
use Rattle.lane.specs.declared.grant.SidFlow.{SidFlow}
use Rattle.lane.specs.declared.admitted.Admitted.{Admitted}
use Rattle.lane.specs.declared.input.Input.{Input}
use Rattle.lane.specs.declared.input.Input.TheVariants.{Grant, Burst}
use Rattle.lane.specs.Inputs.{LaneSetup, Answer, AnsweredInput, IsFlowOf, IsAnswer, AreAnswered}
use Rattle.lane.specs.Report.{admitted_by, admitted_of, requests_of, IsLaneRequest}
use Rattle.receiver.specs.Items.{IsItem}
use Rattle.lane.specs.Report.{event_of_admitted}
use Rattle.receiver.specs.Channels.{HasRow}
use Rattle.lane.proofs.LaneReports.{admitted_of-append, requests_of-append}

-- the flow of what is admitted has a record
abbrev pub AdmitsWithin : ℕ → Answer → Type 0
AdmitsWithin flow_count (Err refusal) = Unit {0}
AdmitsWithin flow_count (Ok None) = Unit {0}
AdmitsWithin flow_count (Ok (Some admitted)) = admitted.flow < flow_count

-- what is admitted of an input is of a flow that has a record
pub admits-within : (setup : LaneSetup) (taken : List AnsweredInput) (input : Input) (answer : Answer) → IsAnswer setup taken input answer
    → AdmitsWithin (length setup.records) answer
admits-within setup taken input (Err refusal) is = tt
admits-within setup taken input (Ok None) is = tt
admits-within setup taken (Grant number sid bytes) (Ok (Some admitted)) is = absurd is
admits-within setup taken (Burst number hcs_ok bytes) (Ok (Some admitted)) is =
    let flow = is.1.flow in
    let within = slice_get_within setup.records flow.row.flow flow.flow_record flow.stands in
    let index = flow.index in
    let of_flow = is.2.2.flow_is in
    omega arith

-- and its request is of the lane's channel, and of a cluster of that flow
asked : (setup : LaneSetup) (sid : ℕ) (flow : SidFlow) (admitted : Admitted) (request : Option Request) → IsFlowOf setup sid flow
    → IsRequestIn setup.channel flow admitted.segment.head request → All (IsLaneRequest setup) (cons_option request [])
asked setup sid flow admitted None of_flow is = All-nil (IsLaneRequest setup)
asked setup sid flow admitted (Some request) of_flow is =
    All-cons (IsLaneRequest setup) request []
    (let is_it = is.2 in
    let units = is.0 in
    let cluster = is.1 in
    let clusters = of_flow.clusters in
    let sequence : admitted.segment.head.sequence < sequence_modulus = admitted.segment.head.sequence_in_range in
    record {
      channel = ap (λ (r : Request). r.channel) is_it;
      units = let same = ap (λ (r : Request). r.units) is_it in omega arith;
      sequence = let same = ap (λ (r : Request). r.sequence) is_it in omega arith;
      flow_record = of_flow.flow_record;
      stands = ap (slice_get setup.records) (ap (λ (r : Request). r.flow) is_it ∙ of_flow.index) ∙ of_flow.stands;
      cluster = let same = ap (λ (r : Request). r.cluster) is_it in omega arith;
    })
    (All-nil (IsLaneRequest setup))

asks-within : (setup : LaneSetup) (taken : List AnsweredInput) (input : Input) (answer : Answer) → IsAnswer setup taken input answer
    → All (IsLaneRequest setup) (filter_map (λ (one : Admitted). one.request) (filter_map admitted_by (answer ∷ [])))
asks-within setup taken input (Err refusal) is = All-nil (IsLaneRequest setup)
asks-within setup taken input (Ok None) is = All-nil (IsLaneRequest setup)
asks-within setup taken (Grant number sid bytes) (Ok (Some admitted)) is = absurd is
asks-within setup taken (Burst number hcs_ok bytes) (Ok (Some admitted)) is =
    asked setup is.1.sid is.0.flow admitted admitted.request is.1.flow is.2.2.request

-- the flow has a row on the lane's channel
admits-of_row : (setup : LaneSetup) (taken : List AnsweredInput) (input : Input) (answer : Answer) → IsAnswer setup taken input answer
    → All (λ (one : Admitted). HasRow setup.rows one.flow setup.channel) (filter_map admitted_by (answer ∷ []))
admits-of_row setup taken input (Err refusal) is = All-nil (λ (one : Admitted). HasRow setup.rows one.flow setup.channel)
admits-of_row setup taken input (Ok None) is = All-nil (λ (one : Admitted). HasRow setup.rows one.flow setup.channel)
admits-of_row setup taken (Grant number sid bytes) (Ok (Some admitted)) is = absurd is
admits-of_row setup taken (Burst number hcs_ok bytes) (Ok (Some admitted)) is =
    let flow = is.1.flow in
    All-cons (λ (one : Admitted). HasRow setup.rows one.flow setup.channel) admitted []
    (record { place = flow.k; row = flow.row; stands = flow.of_row.stands; of_flow = sym (is.2.2.flow_is ∙ flow.index); of_channel = flow.of_row.channel })
    (All-nil (λ (one : Admitted). HasRow setup.rows one.flow setup.channel))

-- what is admitted is an item
admits-items : (flow_count : ℕ) (answer : Answer) → AdmitsWithin flow_count answer
    → All (IsItem flow_count) (map event_of_admitted (filter_map admitted_by (answer ∷ [])))
admits-items flow_count (Err refusal) within = All-nil (IsItem flow_count)
admits-items flow_count (Ok None) within = All-nil (IsItem flow_count)
admits-items flow_count (Ok (Some admitted)) within =
    All-cons (IsItem flow_count) (event_of_admitted admitted) []
    (record { flow_exists = within; takable = admitted.ready }) (All-nil (IsItem flow_count))

module _ {Y : Type 0} (give : List AnsweredInput → List Y) (P : Y → Type 0) where
  module _ (nothing : give [] ≡ []) (both : (xs ys : List AnsweredInput) → give (xs ++ ys) ≡ give xs ++ give ys) where
    -- what holds of all that each input gives holds of all that they give together
    given-by-each : (taken : List AnsweredInput) → All (λ one. All P (give (one ∷ []))) taken → All P (give taken)
    given-by-each [] each = All-same P (give []) [] nothing (All-nil P)
    given-by-each (one ∷ taken) each =
        let Each : AnsweredInput → Type 0 = λ t. All P (give (t ∷ [])) in
        All-same P (give (one ∷ taken)) (give (one ∷ []) ++ give taken) (both (one ∷ []) taken)
        (All-append P (give (one ∷ [])) (give taken) (All-head Each one taken each) (given-by-each taken (All-tail Each one taken each)))

module _ (setup : LaneSetup) (taken : List AnsweredInput) (answered : AreAnswered setup taken) where
  -- what holds of each input that is answered rightly after some others
  of-each-answer : (P : AnsweredInput → Type 0)
      → ((before : List AnsweredInput) (one : AnsweredInput) → IsAnswer setup before one.input one.answer → P one) → All P taken
  of-each-answer P of_answer k one within =
      of_answer (take k taken) (slice_index_or taken k one) (answered k (slice_index_or taken k one) (slice_get-get_or taken k one within))

  -- all that is admitted are items
  pub items-admitted : All (IsItem (length setup.records)) (map event_of_admitted (admitted_of taken))
  items-admitted =
      given-by-each (λ t. map event_of_admitted (admitted_of t)) (IsItem (length setup.records)) refl
      (λ xs ys. ap (map event_of_admitted) (admitted_of-append xs ys) ∙ map-append event_of_admitted (admitted_of xs) (admitted_of ys)) taken
      (of-each-answer (λ one. All (IsItem (length setup.records)) (map event_of_admitted (admitted_of (one ∷ []))))
      (λ before one is. admits-items (length setup.records) one.answer (admits-within setup before one.input one.answer is)))

  -- each of a flow that has a row on the lane's channel
  pub rows-admitted : All (λ (one : Admitted). HasRow setup.rows one.flow setup.channel) (admitted_of taken)
  rows-admitted =
      given-by-each admitted_of (λ (one : Admitted). HasRow setup.rows one.flow setup.channel) refl admitted_of-append taken
      (of-each-answer (λ one. All (λ (a : Admitted). HasRow setup.rows a.flow setup.channel) (admitted_of (one ∷ [])))
      (λ before one is. admits-of_row setup before one.input one.answer is))

  -- the requests are of the lane's channel, flows and clusters
  pub requests-asked : All (IsLaneRequest setup) (requests_of taken)
  requests-asked =
      given-by-each requests_of (IsLaneRequest setup) refl requests_of-append taken
      (of-each-answer (λ one. All (IsLaneRequest setup) (requests_of (one ∷ [])))
      (λ before one is. asks-within setup before one.input one.answer is))
