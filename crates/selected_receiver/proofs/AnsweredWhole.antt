-- What the whole's input is answered, in whose place a stand-in was handed in.
use Rattle.std.proofs.Common.{◌≡◌, ℕ, Bool, true, Some, None, Ok, Err, List, take, refl, sym, ap, ◌∙◌, take_at}
use Rattle.docsis_wire.specs.declared.segment.Segment.{Segment}
use Rattle.docsis_wire.specs.Header.{header_bytes}
use Rattle.docsis_wire.specs.SegmentBytes.{segment_bytes}
use Rattle.docsis_wire.proofs.HeaderWords.{header_bytes-inj}
use Rattle.flow_selection.specs.declared.selection.Selection.{Selection}
use Rattle.flow_selection.specs.Selection.{is_selected}
use Rattle.lane.specs.declared.admitted.Admitted.{Admitted}
use Rattle.lane.specs.declared.input.Input.{Input}
use Rattle.lane.specs.declared.input.Input.TheVariants.{Grant, Burst}
use Rattle.lane.specs.Inputs.{LaneSetup, Answer, AnsweredInput, IsAnswer}
use Rattle.lane.specs.Report.{admitted_by}
use Rattle.consumer.specs.declared.given.Given.{Given}
use Rattle.bonded_flows.specs.Table.{TableSetup}
use Rattle.receiver.specs.Elsewhere.{LooksLike}
use Rattle.receiver.specs.HandedIn.{HandedIn, answered_on, lane_of}
use Rattle.receiver.proofs.Pairs.{zip_weaker}
use Rattle.answers.specs.Beside.{CountsAs, AreAdmittedFor, AnswersInPlaceOf}
use Rattle.answers.proofs.StandIns.{some_answer}
use Rattle.selected_receiver.specs.StandIns.{AreHeadedAlike}
use Rattle.selected_receiver.specs.Whole.{IsWhole}
use Rattle.selected_receiver.proofs.InTheirPlace.{answers-for}

-- segments whose bytes begin alike have one header
one-header : (one other : Segment) (bytes more : List ℕ) → segment_bytes one ≡ bytes → segment_bytes other ≡ more → take 8 more ≡ take 8 bytes → other.head ≡ one.head
one-header one other bytes more spelled also alike =
    header_bytes-inj other.head one.head
    (sym (take_at (header_bytes other.head) other.payload 8 refl) ∙ ap (take 8) also ∙ alike ∙ sym (ap (take 8) spelled)
    ∙ take_at (header_bytes one.head) one.payload 8 refl)

-- what is admitted of bursts that look alike has the same header
burst-headed : (setup also : LaneSetup) (taken others : List AnsweredInput) (input other : Input) (one another : Admitted)
    → IsAnswer setup taken input (Ok (Some one)) → IsAnswer also others other (Ok (Some another)) → LooksLike input other
    → another.segment.head ≡ one.segment.head
burst-headed setup also taken others (Grant number sid bytes) other one another is so_too looks = absurd is
burst-headed setup also taken others (Burst number hcs_ok bytes) (Grant n sid size) one another is so_too looks = absurd looks
burst-headed setup also taken others (Burst number hcs_ok bytes) (Burst n ok more) one another is so_too looks =
    one-header one.segment another.segment bytes more is.2.2.spelled so_too.2.2.spelled looks.3

pub headed-alike : (selected : ℕ → Bool) (setup also : LaneSetup) (taken others : List AnsweredInput) (input other : Input) (answer another : Answer)
    → IsAnswer setup taken input answer → IsAnswer also others other another → LooksLike input other
    → AreAdmittedFor selected (admitted_by answer) (admitted_by another) → AreHeadedAlike (admitted_by answer) (admitted_by another)
headed-alike selected setup also taken others input other (Ok None) (Ok None) is so_too looks are = refl
headed-alike selected setup also taken others input other (Ok None) (Ok (Some b)) is so_too looks are = absurd are
headed-alike selected setup also taken others input other (Ok None) (Err why) is so_too looks are = refl
headed-alike selected setup also taken others input other (Ok (Some a)) (Ok None) is so_too looks are = absurd are
headed-alike selected setup also taken others input other (Ok (Some a)) (Ok (Some b)) is so_too looks are = burst-headed setup also taken others input other a b is so_too looks
headed-alike selected setup also taken others input other (Ok (Some a)) (Err why) is so_too looks are = absurd are
headed-alike selected setup also taken others input other (Err why) (Ok None) is so_too looks are = refl
headed-alike selected setup also taken others input other (Err why) (Ok (Some b)) is so_too looks are = absurd are
headed-alike selected setup also taken others input other (Err why) (Err because) is so_too looks are = refl

-- an input in whose place another was handed in has an answer, in the place of that one's
pub whole-answer : (selected : Selection) (check : List ℕ → Bool) (made : TableSetup) (others : List HandedIn) (also : List Given) (handed : List HandedIn) (given : List Given)
    → IsWhole (is_selected selected) check made others also handed given → (channel : ℕ) (one : AnsweredInput) (input : Input)
    → IsAnswer (lane_of made channel) (answered_on channel others) one.input one.answer → LooksLike one.input input
    → ((admitted : Admitted) → admitted_by one.answer ≡ Some admitted → is_selected selected admitted.flow ≡ true → input ≡ one.input)
    → (answer : Answer) × IsAnswer (lane_of made channel) (answered_on channel handed) input answer
    × AnswersInPlaceOf (is_selected selected) one (record { input = input; answer = answer })
    × AreHeadedAlike (admitted_by one.answer) (admitted_by answer)
whole-answer selected check made others also handed given was channel one input is looks same =
    let chosen = is_selected selected in
    let setup = lane_of made channel in
    let taken = answered_on channel others in
    let now = answered_on channel handed in
    let counts = zip_weaker (AnswersInPlaceOf chosen) CountsAs (λ a b alike. alike.counts) taken now (answers-for chosen others handed was.stand_ins channel) in
    let found = some_answer chosen setup taken now counts one.input one.answer input is (record { looks_like = looks; same = same }) in
    (found.0, found.1, found.2, headed-alike chosen setup setup taken now one.input input one.answer found.0 is found.1 looks found.2.admitted)
