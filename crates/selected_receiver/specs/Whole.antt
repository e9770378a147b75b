-- The whole beside its stand-ins: what a receiver stands for that is handed in other bytes in the
-- place of what bursts of flows carry that aren't selected.
use Rattle.std.specs.Prelude.{◌≡◌, ℕ, ◌<◌, ◌≤◌, Bool, true, false, Some, List, [], ◌++◌, length, filter, slice_get}
use Rattle.std.specs.List.{AllZip}
use Rattle.flow_records.specs.declared.record.FlowRecord.{FlowRecord}
use Rattle.flow_selection.specs.declared.selection.Selection.{Selection}
use Rattle.flow_selection.specs.Selection.{is_selected}
use Rattle.lane.specs.Inputs.{AreAnswered}
use Rattle.consumer.specs.declared.given.Given.{Given}
use Rattle.consumer.specs.Given.{frames_of, requests_given}
use Rattle.bonded_flows.specs.FlowSetup.{FlowSetup}
use Rattle.bonded_flows.specs.Parts.{FlowInput, parts_over, last_part, begun_at, GaveInParts}
use Rattle.bonded_flows.specs.Table.{TableSetup, flow_setup, inputs_at}
use Rattle.receiver.specs.HandedIn.{HandedIn, answered_on, flow_inputs, lane_of}
use Rattle.receiver.specs.Receiving.{StandsFor, IsSettledAt}
use Rattle.answers.specs.Beside.{GivesOfBytes, is_told_if_given}
use Rattle.selected_receiver.specs.declared.selected_receiver.SelectedReceiver.{SelectedReceiver}
use Rattle.selected_receiver.specs.StandIns.{StandsInFor}

-- What a flow has given to which all this came, part by part, where what the last part keeps is of
-- bytes.
pub record GivesParts (check : List ℕ → Bool) (setup : FlowSetup) (inputs : List FlowInput) (frames : List (List ℕ)) : Type 0 where
  pub earlier : List (List ℕ)
  pub own : List (List ℕ)
  pub gave : GaveInParts check setup (parts_over setup inputs) earlier
  pub gives : GivesOfBytes check (begun_at setup (last_part setup inputs).first) (last_part setup inputs).comings own
  pub all : frames ≡ earlier ++ own

-- **The whole beside its stand-ins**: in the place of `others`, for which `also` was given, this was
-- handed in of the whole, one by one, and this was given for it. Of each selected flow the same
-- frames were given, and on each channel the same requests. Each other flow gave all that comes of
-- what came to it.
pub record IsWhole (selected : ℕ → Bool) (check : List ℕ → Bool) (made : TableSetup) (others : List HandedIn) (also : List Given) (handed : List HandedIn) (given : List Given) : Type 0 where
  pub stand_ins : AllZip (StandsInFor selected) others handed
  pub answered : (channel : ℕ) → channel < made.channels → AreAnswered (lane_of made channel) (answered_on channel handed)
  pub requests : (channel : ℕ) → requests_given channel given ≡ requests_given channel also
  pub of_selected : (k : ℕ) → selected k ≡ true → frames_of k given ≡ frames_of k also
  pub of_others : (k : ℕ) (flow_record : FlowRecord) → selected k ≡ false → slice_get made.records k ≡ Some flow_record
      → GivesParts check (flow_setup made k flow_record) (inputs_at k (flow_inputs (length made.records) handed)) (frames_of k given)
  pub of_none : (k : ℕ) → length made.records ≤ k → frames_of k given ≡ []

-- what is seen of what is given: of the selected flows, and of none, the same in the same order
abbrev pub IsSeenOf : Selection → List Given → List Given → Type 0
IsSeenOf selected given seen = filter (is_told_if_given selected) given ≡ filter (is_told_if_given selected) seen

module _ {C : Type 0} (accepts : C → List ℕ → Bool) where
  -- **It stands for the whole**: its receiver stands for what stands in for that.
  pub record StandsForWhole (receiver : SelectedReceiver C) (check : List ℕ → Bool) (made : TableSetup) (handed : List HandedIn) (given : List Given) : Type 0 where
    pub others : List HandedIn
    pub also : List Given
    pub stands : StandsFor accepts receiver.receiver check made others also
    pub whole : IsWhole (is_selected receiver.selected) check made others also handed given

  -- it stands for something
  pub record IsReceivingWhole (receiver : SelectedReceiver C) : Type 0 where
    pub check : List ℕ → Bool
    pub made : TableSetup
    pub handed : List HandedIn
    pub given : List Given
    pub stands : StandsForWhole receiver check made handed given

  -- and of no flow something is left to be done
  pub record IsAtHand (receiver : SelectedReceiver C) : Type 0 where
    pub receiving : IsReceivingWhole receiver
    pub settled : (j : ℕ) → IsSettledAt receiver.receiver j
