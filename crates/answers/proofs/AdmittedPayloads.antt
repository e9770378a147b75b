-- What is admitted of bursts of bytes carries bytes, no more than a grant has.
use Rattle.std.proofs.Common.{◌≡◌, ℕ, zero, suc, ◌+◌, ◌<◌, ◌≤◌, Option, Some, None, Ok, Err, List, [], ◌∷◌, ◌++◌, length, take, map, filter, slice_get, get_or, lit<, ap, sym, subst, ◌∙◌, arith, length-append}
use Rattle.std.specs.List.{All, AllByRecursion}
use Rattle.std.proofs.lemmas.List.Elements.{All-from_recursion, recursion_from_All, All-get_or}
use Rattle.std.proofs.lemmas.Option.{slice_get-get_or, slice_get_within}
use Rattle.docsis_wire.specs.Header.{header_bytes}
use Rattle.ccf.proofs.TwoSplits.{AllByRecursion-behind}
use Rattle.flow_records.specs.declared.event.Event.{Event}
use Rattle.flow_records.specs.declared.decision.Decision.{Decision}
use Rattle.flow_records.specs.Decisions.{names_a_flow, event_of_decision, gap_of}
use Rattle.lane.specs.declared.admitted.Admitted.{Admitted}
use Rattle.lane.specs.declared.input.Input.{Input}
use Rattle.lane.specs.declared.input.Input.TheVariants.{Grant, Burst}
use Rattle.lane.specs.declared.grant.OutstandingGrant.{OutstandingGrant}
use Rattle.lane.specs.Limits.{senders}
use Rattle.lane.specs.Admission.{IsAdmitted}
use Rattle.lane.specs.Inputs.{LaneSetup, Answer, AnsweredInput, HasBytes, IsOutstanding, IsAnswer, AreAnswered, inputs_of}
use Rattle.lane.specs.Report.{admitted_by, admitted_of, event_of_admitted}
use Rattle.receiver.specs.declared.setup.Setup.{Setup}
use Rattle.receiver.specs.Items.{Incoming, lane_setup, IsLaneOf, items_of}
use Rattle.receiver.specs.Intake.{IsIntake}
use Rattle.receiver.proofs.FlowComings.{item-picked}
use Rattle.receiver.proofs.Senders.{five}
use Rattle.answers.specs.Bytes.{AreBytes}
use Rattle.answers.specs.Room.{AreBurstsOfBytes}
use Rattle.answers.proofs.Everywhere.{all_map, all_of_map, all_true, all_at, all_from, all_given}
use Rattle.answers.proofs.FewFrames.{IsShort}
use Rattle.answers.proofs.RuledEvents.{ItemBrings}

-- The payload of a segment that was admitted.
pub record IsPayload (payload : List ℕ) : Type 0 where
  pub bytes : AreBytes payload
  pub short : IsShort payload

-- an element of a front is one of the whole
from_take : {X : Type 0} (n : ℕ) (xs : List X) (k : ℕ) (x : X) → slice_get (take n xs) k ≡ Some x → slice_get xs k ≡ Some x
from_take zero xs k x is = absurd cc
from_take (suc n) [] k x is = absurd cc
from_take (suc n) (y ∷ xs) zero x is = is
from_take (suc n) (y ∷ xs) (suc k) x is = from_take n xs k x is

-- an outstanding grant has at most so many bytes
grant-short : (setup : LaneSetup) (answered : List AnsweredInput) (k number sid bytes : ℕ) → AreAnswered setup answered → IsOutstanding (take k answered) number sid bytes → bytes ≤ 65535
grant-short setup answered k number sid bytes answers is =
    (answers is.at (record { input = Grant number sid bytes; answer = Ok None })
    (from_take k answered is.at (record { input = Grant number sid bytes; answer = Ok None }) is.stands)).0.1

-- the payload behind a header
payload-of : (channel : ℕ) (grant : OutstandingGrant) (bytes : List ℕ) (admitted : Admitted) → IsAdmitted channel grant.flow bytes admitted → AreBytes bytes
    → length bytes ≤ 65535 → IsPayload admitted.segment.payload
payload-of channel grant bytes admitted is are short =
    let segment = admitted.segment in
    let spelled : All (λ byte. byte < 256) (header_bytes segment.head ++ segment.payload) = subst AreBytes (sym is.spelled) are in
    let size : length (header_bytes segment.head) + length segment.payload ≡ length bytes =
    sym (length-append (header_bytes segment.head) segment.payload) ∙ ap length is.spelled in
    record {
      bytes = All-from_recursion (λ byte. byte < 256) segment.payload
          (AllByRecursion-behind (λ byte. byte < 256) (header_bytes segment.head) segment.payload
          (recursion_from_All (λ byte. byte < 256) (header_bytes segment.head ++ segment.payload) spelled));
      short = omega arith;
    }

-- what an answer admits
pub admitted-payload : (setup : LaneSetup) (answered : List AnsweredInput) (k : ℕ) (input : Input) (answer : Answer) (admitted : Admitted) → AreAnswered setup answered
    → IsAnswer setup (take k answered) input answer → HasBytes input → admitted_by answer ≡ Some admitted → IsPayload admitted.segment.payload
admitted-payload setup answered k input (Err refusal) admitted answers is are gives = absurd cc
admitted-payload setup answered k input (Ok None) admitted answers is are gives = absurd cc
admitted-payload setup answered k (Grant number sid bytes) (Ok (Some other)) admitted answers is are gives = absurd is
admitted-payload setup answered k (Burst number hcs_ok bytes) (Ok (Some other)) admitted answers is are gives =
    let grant = is.0 in
    let within = grant-short setup answered k number is.1.sid grant.bytes answers is.1.outstanding in
    let fits = is.2.0 in
    let same : other ≡ admitted = cc in
    subst (λ (a : Admitted). IsPayload a.segment.payload) same (payload-of setup.channel grant bytes other is.2.2 are (omega arith))

-- all that a channel admits
admitted-payloads : (setup : Setup) (incoming : Incoming) (channel : ℕ) (answered : List AnsweredInput) → IsLaneOf setup incoming channel answered
    → All HasBytes (incoming.inputs channel) → AllByRecursion (λ (a : Admitted). IsPayload a.segment.payload) (admitted_of answered)
admitted-payloads setup incoming channel answered lane are =
    let inputs : AllByRecursion HasBytes (inputs_of answered) = subst (AllByRecursion HasBytes) (sym lane.inputs) (recursion_from_All HasBytes (incoming.inputs channel) are) in
    let each : AllByRecursion (λ (one : AnsweredInput). HasBytes one.input) answered = all_of_map HasBytes (λ (one : AnsweredInput). one.input) answered inputs in
    all_given (λ (a : Admitted). IsPayload a.segment.payload) (λ (one : AnsweredInput). admitted_by one.answer) answered
    (λ k one admitted there gives.
    admitted-payload (lane_setup setup channel) answered k one.input one.answer admitted lane.answers (lane.answers k one there)
    (all_at (λ (o : AnsweredInput). HasBytes o.input) answered k one each there) gives)

-- a decision brings nothing
gap-brings : (P : List ℕ → Type 0) (flow : ℕ) (upto : Option ℕ) → ItemBrings P (gap_of flow upto)
gap-brings P flow None = tt
gap-brings P flow (Some number) = tt

-- the items of a channel, and the decisions
channel-brings : (setup : Setup) (incoming : Incoming) (channel : ℕ) (answered : List AnsweredInput) → IsLaneOf setup incoming channel answered
    → All HasBytes (incoming.inputs channel) → AllByRecursion (ItemBrings IsPayload) (map event_of_admitted (admitted_of answered))
channel-brings setup incoming channel answered lane are =
    all_map (ItemBrings IsPayload) event_of_admitted (admitted_of answered) (admitted-payloads setup incoming channel answered lane are)

decisions-bring : (decisions : List Decision) → AllByRecursion (ItemBrings IsPayload) (map event_of_decision decisions)
decisions-bring decisions =
    all_map (ItemBrings IsPayload) event_of_decision decisions
    (all_true (λ decision. ItemBrings IsPayload (event_of_decision decision)) (λ decision. gap-brings IsPayload decision.flow decision.upto) decisions)

-- each item of an intake brings bytes, no more than a grant has
pub intake-brings : (setup : Setup) (incoming : Incoming) (order : List ℕ) (intake : IsIntake setup incoming order) → AreBurstsOfBytes incoming
    → AllByRecursion (ItemBrings IsPayload) intake.items
intake-brings setup incoming order intake are =
    let items = intake.items in
    let merged = intake.merged in
    let lists = items_of setup incoming intake.answered in
    let of_sender : (sender : ℕ) → sender < senders → AllByRecursion (ItemBrings IsPayload) (lists sender) =
    five (λ sender. AllByRecursion (ItemBrings IsPayload) (lists sender))
    (channel-brings setup incoming 0 (intake.answered 0) (intake.lanes 0 (lit< tt)) (are 0 (lit< tt)))
    (channel-brings setup incoming 1 (intake.answered 1) (intake.lanes 1 (lit< tt)) (are 1 (lit< tt)))
    (channel-brings setup incoming 2 (intake.answered 2) (intake.lanes 2 (lit< tt)) (are 2 (lit< tt)))
    (channel-brings setup incoming 3 (intake.answered 3) (intake.lanes 3 (lit< tt)) (are 3 (lit< tt)))
    (decisions-bring (filter (names_a_flow (length setup.flows.items)) incoming.decisions)) in
    all_from (ItemBrings IsPayload) items (λ place item there.
    let paired = merged.paired in
    let inside = slice_get_within items place item there in
    let within : place < length order = omega arith in
    let sender = get_or order place 0 in
    let named : sender < senders = All-get_or (λ tag. tag < senders) order place 0 within merged.named in
    let found = item-picked sender item order items place (slice_get-get_or order place 0 within) there in
    all_at (ItemBrings IsPayload) (lists sender) found.0 item (of_sender sender named)
    (sym (ap (λ (xs : List Event). slice_get xs found.0) (merged.lists_are sender named)) ∙ found.1))
