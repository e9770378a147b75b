-- A lane over the whole list of one channel's inputs, each with its answer.
use Rattle.std.specs.Prelude.{◌≡◌, ◌≢◌, ◌↔◌, ℕ, ◌-◌, ◌<◌, ◌≤◌, Bool, true, false, IsTrue, Option, Some, None, Result, Ok, Err, List, take, slice_get, count_by, map}
use Rattle.std.specs.List.{All, AllPairs, Contains}
use Rattle.docsis_wire.specs.Limits.{header_length}
use Rattle.flow_records.specs.declared.record.FlowRecord.{FlowRecord}
use Rattle.lane.specs.declared.sids.SidRow.{SidRow}
use Rattle.lane.specs.declared.input.Input.{Input}
use Rattle.lane.specs.declared.input.Input.TheVariants.{Grant, Burst}
use Rattle.lane.specs.declared.refusal.Refusal.{Refusal}
use Rattle.lane.specs.declared.refusal.Refusal.TheVariants.{GrantRange, GrantKnown, UnknownSid, TooManyGrants, NoGrant, TooLong, BadCheck, TooShort, PointerPast}
use Rattle.lane.specs.declared.admitted.Admitted.{Admitted}
use Rattle.lane.specs.declared.grant.SidFlow.{SidFlow}
use Rattle.lane.specs.declared.grant.OutstandingGrant.{OutstandingGrant}
use Rattle.lane.specs.Limits.{grant_max, outstanding_max}
use Rattle.lane.specs.Admission.{IsMadeOf}

-- what a lane is opened with: its channel, the rows of all channels and the records of the flows
pub record LaneSetup : Type 0 where
  pub channel : ℕ
  pub rows : List SidRow
  pub records : List FlowRecord

-- the answer to an input: nothing to an accepted grant, what is admitted of a burst, or a refusal
abbrev pub Answer : Type 0
Answer = Result (Option Admitted) Refusal

-- an input that was taken, and what was answered to it
pub record AnsweredInput : Type 0 where
  pub input : Input
  pub answer : Answer

-- row k is of the lane's channel and has this service identifier
pub record IsRowOf (setup : LaneSetup) (sid k : ℕ) (row : SidRow) : Type 0 where
  pub stands : slice_get setup.rows k ≡ Some row
  pub channel : row.channel ≡ setup.channel
  pub identifier : row.sid ≡ sid

-- no row of the lane's channel has this service identifier
abbrev pub IsUnknown : LaneSetup → ℕ → Type 0
IsUnknown setup sid = (k : ℕ) (row : SidRow) → ¬ (IsRowOf setup sid k row)

-- the flow of this service identifier's row, with the number of clusters in the flow's record
pub record IsFlowOf (setup : LaneSetup) (sid : ℕ) (flow : SidFlow) : Type 0 where
  pub k : ℕ
  pub row : SidRow
  pub of_row : IsRowOf setup sid k row
  pub index : flow.index ≡ row.flow
  pub flow_record : FlowRecord
  pub stands : slice_get setup.records row.flow ≡ Some flow_record
  pub clusters : flow.clusters ≡ flow_record.clusters

-- a grant has 8 to 65,535 bytes, the segment header included
abbrev pub IsGrantSize : ℕ → Type 0
IsGrantSize bytes = (header_length ≤ bytes) × (bytes ≤ grant_max)

-- this is a grant that was accepted
abbrev pub answer_accepts : Input → Answer → Bool
answer_accepts (Grant number sid bytes) (Ok None) = true
answer_accepts _ _ = false

abbrev pub is_accepted : AnsweredInput → Bool
is_accepted one = answer_accepts one.input one.answer

-- these refusals of a burst spend its grant
abbrev pub refusal_spends : Refusal → Bool
refusal_spends TooLong = true
refusal_spends BadCheck = true
refusal_spends TooShort = true
refusal_spends PointerPast = true
refusal_spends _ = false

-- this is a burst that was admitted, or refused so that its grant is spent
abbrev pub answer_spends : Input → Answer → Bool
answer_spends (Burst number hcs_ok bytes) (Ok (Some admitted)) = true
answer_spends (Burst number hcs_ok bytes) (Err refusal) = refusal_spends refusal
answer_spends _ _ = false

abbrev pub spends_its_grant : AnsweredInput → Bool
spends_its_grant one = answer_spends one.input one.answer

-- the input is a burst
abbrev pub is_burst : Input → Bool
is_burst (Grant number sid bytes) = false
is_burst (Burst number hcs_ok bytes) = true

-- the bytes of a burst are bytes
abbrev pub HasBytes : Input → Type 0
HasBytes (Grant number sid bytes) = Unit {0}
HasBytes (Burst number hcs_ok bytes) = All (λ byte. byte < 256) bytes

-- the number of the grant that an input is or belongs to
abbrev pub number_of : Input → ℕ
number_of (Grant number sid bytes) = number
number_of (Burst number hcs_ok bytes) = number

-- A grant is outstanding after these inputs: one of them is a grant of this number, to this service
-- identifier and of so many bytes, that was accepted, and after it stands no burst on that number
-- that spent it.
pub record IsOutstanding (taken : List AnsweredInput) (number sid bytes : ℕ) : Type 0 where
  pub at : ℕ
  pub stands : slice_get taken at ≡ Some (record { input = Grant number sid bytes; answer = Ok None })
  pub unspent : (j : ℕ) (one : AnsweredInput) → at < j → slice_get taken j ≡ Some one → number_of one.input ≡ number → ¬ (IsTrue (spends_its_grant one))

-- a grant of this number is outstanding
abbrev pub IsKnown : List AnsweredInput → ℕ → Type 0
IsKnown taken number = (sid : ℕ) × (bytes : ℕ) × IsOutstanding taken number sid bytes

-- these numbers are different, and just those of which a grant is outstanding
pub record AreOutstanding (taken : List AnsweredInput) (numbers : List ℕ) : Type 0 where
  pub different : AllPairs (λ number other. number ≢ other) numbers
  pub known : (number : ℕ) → Contains numbers number ↔ IsKnown taken number

-- how many grants are outstanding: as many as were accepted, less those that were spent
abbrev pub outstanding_count : List AnsweredInput → ℕ
outstanding_count taken = count_by is_accepted taken - count_by spends_its_grant taken

-- The answer to a grant after these inputs, the first that fits.
abbrev pub IsAnswerToGrant : LaneSetup → List AnsweredInput → ℕ → ℕ → ℕ → Answer → Type 0
IsAnswerToGrant setup taken number sid bytes (Err GrantRange) = ¬ (IsGrantSize bytes)
IsAnswerToGrant setup taken number sid bytes (Err GrantKnown) = IsGrantSize bytes × IsKnown taken number
IsAnswerToGrant setup taken number sid bytes (Err UnknownSid) = IsGrantSize bytes × ¬ (IsKnown taken number) × IsUnknown setup sid
IsAnswerToGrant setup taken number sid bytes (Err TooManyGrants) =
    IsGrantSize bytes × ¬ (IsKnown taken number) × ¬ (IsUnknown setup sid) × (outstanding_max ≤ outstanding_count taken)
IsAnswerToGrant setup taken number sid bytes (Ok None) =
    IsGrantSize bytes × ¬ (IsKnown taken number) × ¬ (IsUnknown setup sid) × (outstanding_count taken < outstanding_max)
IsAnswerToGrant setup taken number sid bytes _ = ⊥

-- an outstanding grant, with the flow of its service identifier's row
pub record IsGrant (setup : LaneSetup) (taken : List AnsweredInput) (number : ℕ) (grant : OutstandingGrant) : Type 0 where
  pub sid : ℕ
  pub outstanding : IsOutstanding taken number sid grant.bytes
  pub flow : IsFlowOf setup sid grant.flow

-- The answer to a burst after these inputs: it is refused if it names no outstanding grant, and
-- otherwise it is what is made of it in its grant.
abbrev pub IsAnswerToBurst : LaneSetup → List AnsweredInput → ℕ → Bool → List ℕ → Result Admitted Refusal → Type 0
IsAnswerToBurst setup taken number hcs_ok bytes (Err NoGrant) = ¬ (IsKnown taken number)
IsAnswerToBurst setup taken number hcs_ok bytes answer =
    (grant : OutstandingGrant) × IsGrant setup taken number grant × IsMadeOf setup.channel grant hcs_ok bytes answer

-- the answer to an input after these inputs
abbrev pub IsAnswer : LaneSetup → List AnsweredInput → Input → Answer → Type 0
IsAnswer setup taken (Grant number sid bytes) answer = IsAnswerToGrant setup taken number sid bytes answer
IsAnswer setup taken (Burst number hcs_ok bytes) (Ok None) = ⊥
IsAnswer setup taken (Burst number hcs_ok bytes) (Ok (Some admitted)) = IsAnswerToBurst setup taken number hcs_ok bytes (Ok admitted)
IsAnswer setup taken (Burst number hcs_ok bytes) (Err refusal) = IsAnswerToBurst setup taken number hcs_ok bytes (Err refusal)

-- each input was answered rightly after those before it
abbrev pub AreAnswered : LaneSetup → List AnsweredInput → Type 0
AreAnswered setup taken = (k : ℕ) (one : AnsweredInput) → slice_get taken k ≡ Some one → IsAnswer setup (take k taken) one.input one.answer

-- the inputs without their answers
abbrev pub inputs_of : List AnsweredInput → List Input
inputs_of taken = map (λ one. one.input) taken
