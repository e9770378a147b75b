-- What a lane admits, asks for and reports, of the whole list of its inputs with their answers.
use Rattle.std.specs.Prelude.{◌≡◌, ℕ, ◌<◌, ◌+◌, Option, Some, None, Ok, Err, List, [], ◌∷◌, ◌++◌, length, is_some, filter_map, slice_get, if◌then◌else◌}
use Rattle.docsis_wire.specs.Limits.{sequence_modulus}
use Rattle.flow_records.specs.Counted.{counted}
use Rattle.flow_records.specs.declared.event.Event.{Event}
use Rattle.flow_records.specs.declared.event.Event.TheVariants.{Arrive}
use Rattle.flow_records.specs.declared.record.FlowRecord.{FlowRecord}
use Rattle.lane.specs.declared.admitted.Admitted.{Admitted}
use Rattle.lane.specs.declared.admitted.Request.{Request}
use Rattle.lane.specs.declared.input.Input.{Input}
use Rattle.lane.specs.declared.report.LaneReport.{LaneReport}
use Rattle.lane.specs.Inputs.{LaneSetup, Answer, AnsweredInput}
use Rattle.lane.specs.declared.refusal.Refusal.{Refusal}
use Rattle.lane.specs.declared.refusal.Refusal.TheVariants.{GrantRange, GrantKnown, UnknownSid, TooManyGrants, GrantOutOfMemory, NoGrant, TooLong, BadCheck, TooShort, PointerPast, BurstOutOfMemory}

-- the number of a refusal: grants' refusals are 1 to 5 and bursts' 6 to 11, each in the order in
-- which they are looked for
abbrev pub refusal_number : Refusal → ℕ
refusal_number GrantRange = 1
refusal_number GrantKnown = 2
refusal_number UnknownSid = 3
refusal_number TooManyGrants = 4
refusal_number GrantOutOfMemory = 5
refusal_number NoGrant = 6
refusal_number TooLong = 7
refusal_number BadCheck = 8
refusal_number TooShort = 9
refusal_number PointerPast = 10
refusal_number BurstOutOfMemory = 11

-- what an answer admits, and the number of its refusal
abbrev pub admitted_by : Answer → Option Admitted
admitted_by (Ok admitted) = admitted
admitted_by (Err refusal) = None

abbrev pub refused_by : Answer → Option ℕ
refused_by (Ok admitted) = None
refused_by (Err refusal) = Some (refusal_number refusal)

-- the same as a list, and its request
abbrev pub admitted_in : Answer → List Admitted
admitted_in answer = filter_map admitted_by (answer ∷ [])

abbrev pub requests_in : Answer → List Request
requests_in answer = filter_map (λ one. one.request) (admitted_in answer)

-- what was admitted, in order
abbrev pub admitted_of : List AnsweredInput → List Admitted
admitted_of taken = filter_map (λ one. admitted_by one.answer) taken

-- what an admitted segment is to the flows
abbrev pub event_of_admitted : Admitted → Event
event_of_admitted admitted = Arrive admitted.flow admitted.segment

-- the requests of what was admitted, in order
abbrev pub requests_of : List AnsweredInput → List Request
requests_of taken = filter_map (λ one. one.request) (admitted_of taken)

-- a request on the lane's channel, made for a cluster that its flow has
pub record IsLaneRequest (setup : LaneSetup) (request : Request) : Type 0 where
  pub channel : request.channel ≡ setup.channel
  pub units : 0 < request.units
  pub sequence : request.sequence < sequence_modulus
  pub flow_record : FlowRecord
  pub stands : slice_get setup.records request.flow ≡ Some flow_record
  pub cluster : request.cluster < flow_record.clusters

-- the lane's report: how many bursts were admitted, and the numbers of the refusals, in order
abbrev pub admitted_count : List AnsweredInput → ℕ
admitted_count taken = counted (length (admitted_of taken))

abbrev pub refusal_numbers : List AnsweredInput → List ℕ
refusal_numbers taken = filter_map (λ one. refused_by one.answer) taken

-- what became of all these inputs is what the report says
pub record IsReportOf (answered : List AnsweredInput) (report : LaneReport) : Type 0 where
  pub admitted : report.admitted ≡ admitted_count answered
  pub refused : report.refused.items ≡ refusal_numbers answered

-- one answer more is added: a segment that it admits is counted, and its refusal is appended
pub record AddsAnswer (report : LaneReport) (answer : Answer) (after : LaneReport) : Type 0 where
  pub admitted : after.admitted ≡ (if is_some (admitted_by answer) then counted (report.admitted + 1) else report.admitted)
  pub refused : after.refused.items ≡ report.refused.items ++ filter_map refused_by (answer ∷ [])

-- Whatever inputs a report was of, with one more at the end that has this answer they have the
-- report after it.
abbrev pub Reports : LaneReport → Answer → LaneReport → Type 0
Reports report answer after =
    (answered : List AnsweredInput) (input : Input)
    → IsReportOf answered report → IsReportOf (answered ++ record { input = input; answer = answer } ∷ []) after
