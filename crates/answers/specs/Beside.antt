-- The whole beside stand-ins: where a receiver is handed in what stands in for a trace, which has
-- other bytes in the bursts of flows that aren't selected, what happens for the trace itself,
-- whether or not a receiver made it.
use Rattle.std.specs.Prelude.{◌≡◌, ℕ, ◌<◌, ◌≤◌, Bool, true, Option, Some, None, Ok, All, List, [], ◌∷◌, ◌++◌, length, map, filter, filter_map, slice_get}
use Rattle.std.specs.List.{AllZip}
use Rattle.docsis_wire.specs.declared.segment.Segment.{Segment}
use Rattle.flow_records.specs.declared.record.FlowRecord.{FlowRecord}
use Rattle.flow_selection.specs.declared.selection.Selection.{Selection}
use Rattle.flow_selection.specs.Selection.{is_selected}
use Rattle.flow_selection.specs.Lines.{is_left}
use Rattle.flow_core.specs.declared.counts.FlowCounts.{FlowCounts}
use Rattle.flow_core.specs.Fates.{Fates, IsKeptAs}
use Rattle.lane.specs.declared.admitted.Admitted.{Admitted}
use Rattle.lane.specs.declared.input.Input.TheVariants.{Grant}
use Rattle.lane.specs.Inputs.{AnsweredInput, number_of, spends_its_grant, is_accepted, AreAnswered}
use Rattle.lane.specs.Report.{admitted_by, refused_by, requests_of}
use Rattle.loss_rule.specs.Rule.{Coming}
use Rattle.consumer.specs.declared.given.Given.{Given}
use Rattle.consumer.specs.Given.{frames_of, requests_given}
use Rattle.bonded_flows.specs.ByRule.{HasGivenByRule}
use Rattle.bonded_flows.specs.FlowSetup.{FlowSetup}
use Rattle.bonded_flows.specs.Table.{TableSetup, flow_setup}
use Rattle.receiver.specs.declared.closing.Closed.{Closed}
use Rattle.receiver.specs.Entries.{Entry}
use Rattle.receiver.specs.HandedIn.{HandedIn, came, decided, restarted, answered_on, lane_of}
use Rattle.receiver.specs.Received.{IsReceived}
use Rattle.receiver.specs.Replaying.{entry_of}
use Rattle.texts.specs.declared.follow.happening.Happening.{Happening}
use Rattle.texts.specs.declared.follow.happening.Happening.TheVariants.{Gave}
use Rattle.texts.specs.AnyHeader.{any_header}
use Rattle.texts.specs.Follow.{flow_of_given}
use Rattle.texts.specs.FollowedReport.{came_to}
use Rattle.texts.specs.Happened.{IsOfTrace, HasHappened}
use Rattle.texts.specs.Happening.{name_of_input}
use Rattle.answers.specs.Bytes.{AreBytes}
use Rattle.answers.specs.ToldAlike.{is_told_for, AreGivenFor}

-- ---- one thing in place of another

-- For what is outstanding one answered input is as good as another.
pub record CountsAs (one other : AnsweredInput) : Type 0 where
  pub grants : (number sid bytes : ℕ) → one ≡ record { input = Grant number sid bytes; answer = Ok None } → other ≡ record { input = Grant number sid bytes; answer = Ok None }
  pub granted_by : (number sid bytes : ℕ) → other ≡ record { input = Grant number sid bytes; answer = Ok None } → one ≡ record { input = Grant number sid bytes; answer = Ok None }
  pub number : number_of other.input ≡ number_of one.input
  pub spends : spends_its_grant other ≡ spends_its_grant one
  pub accepts : is_accepted other ≡ is_accepted one

-- What was admitted in place of what: of the same flow with the same request, and the same segment
-- if the flow is selected.
pub record IsAdmittedFor (selected : ℕ → Bool) (one other : Admitted) : Type 0 where
  pub flow : other.flow ≡ one.flow
  pub request : other.request ≡ one.request
  pub segment : selected one.flow ≡ true → other.segment ≡ one.segment

abbrev pub AreAdmittedFor : (ℕ → Bool) → Option Admitted → Option Admitted → Type 0
AreAdmittedFor selected None None = Unit {0}
AreAdmittedFor selected (Some one) (Some other) = IsAdmittedFor selected one other
AreAdmittedFor selected None (Some other) = ⊥
AreAdmittedFor selected (Some one) None = ⊥

-- An answered input in place of another.
pub record AnswersInPlaceOf (selected : ℕ → Bool) (one other : AnsweredInput) : Type 0 where
  pub counts : CountsAs one other
  pub admitted : AreAdmittedFor selected (admitted_by one.answer) (admitted_by other.answer)
  pub refused : refused_by other.answer ≡ refused_by one.answer

-- an input in place of another, or the same decision
pub record InputsFor (selected : ℕ → Bool) (channel : ℕ) (one : AnsweredInput) (place : ℕ) (other : AnsweredInput) : Type 0 where
  pub channel_is : place ≡ channel
  pub answers : AnswersInPlaceOf selected one other
  pub name : name_of_input channel other.input ≡ name_of_input channel one.input

abbrev pub InPlace : (ℕ → Bool) → HandedIn → HandedIn → Type 0
InPlace selected (came channel one) (came place other) = InputsFor selected channel one place other
InPlace selected (came channel one) (decided flow decision) = ⊥
InPlace selected (came channel one) (restarted flow first) = ⊥
InPlace selected (decided flow decision) other = other ≡ decided flow decision
InPlace selected (restarted flow first) other = ⊥

-- ---- what happened so far

-- the payload of each kept segment is such
abbrev pub KeepsCarrying : (List ℕ → Type 0) → Fates → Type 0
KeepsCarrying P fates = (i : ℕ) (segment : Segment) → IsKeptAs fates i segment → P segment.payload

-- What a flow has given to which all this came, where what it keeps is of bytes.
pub record GivesOfBytes (check : List ℕ → Bool) (setup : FlowSetup) (comings : List Coming) (frames : List (List ℕ)) : Type 0 where
  pub counts : FlowCounts
  pub given : HasGivenByRule check setup comings frames counts
  pub kept : KeepsCarrying AreBytes given.fates

-- What happened so far. What flows keep is of bytes.
pub record HappenedSoFar (made : TableSetup) (handed : List HandedIn) (given : List Given) (happened : List Happening) : Type 0 where
  pub has_happened : HasHappened made handed given happened
  pub each : All (IsOfTrace made.channels) handed
  pub answered : (channel : ℕ) → channel < made.channels → AreAnswered (lane_of made channel) (answered_on channel handed)
  pub requests : (channel : ℕ) → requests_given channel given ≡ requests_of (answered_on channel handed)
  pub flows : (k : ℕ) (flow_record : FlowRecord) → slice_get made.records k ≡ Some flow_record
      → GivesOfBytes any_header (flow_setup made k flow_record) (came_to made handed k flow_record) (frames_of k given)
  pub others : (k : ℕ) → length made.records ≤ k → frames_of k given ≡ []

-- **The whole beside the stand-ins**: after the stand-ins `others` were handed in, for which `also`
-- was given, this was handed in of the whole, entry by entry in their place, this was given for it
-- and this happened; and of each selected flow the same frames were given, and on each channel the
-- same requests.
pub record IsBeside (selected : Selection) (made : TableSetup) (others : List HandedIn) (also : List Given) (entries : List Entry) (handed : List HandedIn) (given : List Given) (happened : List Happening) : Type 0 where
  pub so_far : HappenedSoFar made handed given happened
  pub are : filter_map entry_of handed ≡ entries
  pub in_place : AllZip (InPlace (is_selected selected)) others handed
  pub given_same : AreGivenFor selected also given

-- ---- one thing more

-- a given thing is of no flow, or of one that is selected
abbrev pub is_told_if_given : Selection → Given → Bool
is_told_if_given selected given = is_left selected (flow_of_given given)

-- One thing more of the whole beside one stand-in more: it is this entry. What is given for it and
-- told of it comes behind what happened, and of that the same is told of the selected flows and of
-- none, in the same order.
pub record GrowsBeside (selected : Selection) (made : TableSetup) (others : List HandedIn) (also : List Given) (entries : List Entry) (handed : List HandedIn) (given : List Given) (happened : List Happening) (one : HandedIn) (e : Entry) (also_more : List Given) (telling : List Happening) : Type 0 where
  pub other : HandedIn
  pub more : List Given
  pub told : List Happening
  pub beside : IsBeside selected made (others ++ one ∷ []) (also ++ also_more) (entries ++ e ∷ []) (handed ++ other ∷ []) (given ++ more) (happened ++ (map Gave more ++ told))
  pub same : filter (is_told_for selected) (map Gave more ++ told) ≡ filter (is_told_for selected) (map Gave also_more ++ telling)

-- ---- the close

-- What was counted is the same of each selected flow and of each channel, and of as many flows.
pub record AreCountedAlike (selected : Selection) (closed other : Closed) : Type 0 where
  pub count : length other.flows.items ≡ length closed.flows.items
  pub flows : (k : ℕ) → is_selected selected k ≡ true → slice_get other.flows.items k ≡ slice_get closed.flows.items k
  pub lanes : other.lanes.items ≡ closed.lanes.items

-- What the whole gives as it is closed, beside what was given for the stand-ins.
pub record ClosesWhole (selected : Selection) (made : TableSetup) (handed : List HandedIn) (given : List Given) (rest : List Given) (closed : Closed) : Type 0 where
  pub more : List Given
  pub counted : Closed
  pub received : IsReceived any_header made handed (given ++ more) counted
  pub same : filter (is_told_if_given selected) more ≡ filter (is_told_if_given selected) rest
  pub alike : AreCountedAlike selected closed counted
