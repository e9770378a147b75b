-- What a lane of the code stands for: a list of inputs with their answers.
use Rattle.std.specs.Prelude.{◌≡◌, ℕ, ◌+◌, ◌<◌, MatchOption, Option, Some, None, Ok, Err, List, [], ◌∷◌, ◌++◌, length, count_by, nat_eq, slice_index_or}
use Rattle.std.specs.Option.{option_map}
use Rattle.std.specs.HashMap.{get, hash_map_len}
use Rattle.lane.specs.declared.input.Input.{Input}
use Rattle.lane.specs.declared.input.Input.TheVariants.{Grant, Burst}
use Rattle.lane.specs.declared.refusal.Refusal.TheVariants.{GrantOutOfMemory, BurstOutOfMemory}
use Rattle.lane.specs.declared.grant.SidFlow.{SidFlow}
use Rattle.lane.specs.declared.grant.OutstandingGrant.{OutstandingGrant}
use Rattle.lane.specs.declared.lane.Lane.{Lane}
use Rattle.lane.specs.Admission.{Fits}
use Rattle.lane.specs.Rows.{CanBeOpenedWithin}
use Rattle.lane.specs.Inputs.{LaneSetup, Answer, AnsweredInput, IsUnknown, IsFlowOf, IsKnown, IsGrant, IsAnswerToGrant, IsAnswer, AreAnswered, is_accepted, spends_its_grant}
use Rattle.lane.specs.Report.{admitted_by}

-- what a table by service identifier has of this one
abbrev pub flow_at : List (Option SidFlow) → ℕ → Option SidFlow
flow_at flows sid = slice_index_or flows sid None

-- the table has the service identifiers of the lane's channel, each with its flow
abbrev pub HasFlows : LaneSetup → List (Option SidFlow) → Type 0
HasFlows setup flows = (sid : ℕ) → MatchOption (flow_at flows sid) (IsUnknown setup sid) (IsFlowOf setup sid)

-- After these inputs, with these answers, the lane keeps exactly the grants that are outstanding.
pub record StandsFor (setup : LaneSetup) (lane : Lane) (taken : List AnsweredInput) : Type 0 where
  pub channel : lane.channel ≡ setup.channel
  pub answered : AreAnswered setup taken
  pub flows : HasFlows setup lane.flows.items
  pub grants : (number : ℕ) → MatchOption (get nat_eq lane.grants number) (¬ (IsKnown taken number)) (IsGrant setup taken number)
  pub count : hash_map_len lane.grants + count_by spends_its_grant taken ≡ count_by is_accepted taken

-- the answer to this input is that an allocation failed
abbrev pub IsOutOfMemory : Input → Answer → Type 0
IsOutOfMemory (Grant number sid bytes) answer = answer ≡ Err GrantOutOfMemory
IsOutOfMemory (Burst number hcs_ok bytes) answer = answer ≡ Err BurstOutOfMemory

-- Whatever inputs a lane stands for, no other refusal of this input applies: the grant would be
-- accepted, or the burst fits its grant.
abbrev pub CouldTake : Lane → Input → Type 0
CouldTake lane (Grant number sid bytes) =
    (setup : LaneSetup) (taken : List AnsweredInput) → StandsFor setup lane taken → IsAnswerToGrant setup taken number sid bytes (Ok None)
CouldTake lane (Burst number hcs_ok bytes) =
    (setup : LaneSetup) (taken : List AnsweredInput)
    → StandsFor setup lane taken → (grant : OutstandingGrant) × IsGrant setup taken number grant × Fits grant hcs_ok bytes

-- whatever inputs a lane stood for, it stands for them with this one at the end, answered so
abbrev pub TakesInput : Lane → Input → Answer → Lane → Type 0
TakesInput lane input answer after =
    (setup : LaneSetup) (taken : List AnsweredInput)
    → StandsFor setup lane taken → StandsFor setup after (taken ++ record { input = input; answer = answer } ∷ [])

-- whatever inputs a lane stood for, it stands for them
abbrev pub StandsForTheSame : Lane → Lane → Type 0
StandsForTheSame lane after = (setup : LaneSetup) (taken : List AnsweredInput) → StandsFor setup lane taken → StandsFor setup after taken

-- Whatever inputs a lane stands for, with rows that have no fault: what any answer to this one
-- admits is of this flow, or it admits nothing.
abbrev pub WouldAdmit : Lane → Input → Option ℕ → Type 0
WouldAdmit lane input flow =
    (channels : ℕ) (setup : LaneSetup) (taken : List AnsweredInput) (answer : Answer)
    → CanBeOpenedWithin channels setup.rows (length setup.records) → StandsFor setup lane taken → IsAnswer setup taken input answer
    → option_map (λ admitted. admitted.flow) (admitted_by answer) ≡ flow

-- Whatever inputs a lane stands for, this is the index of a record.
abbrev pub NamesAFlow : Lane → Option ℕ → Type 0
NamesAFlow lane flow = (setup : LaneSetup) (taken : List AnsweredInput) (k : ℕ) → StandsFor setup lane taken → flow ≡ Some k → k < length setup.records
