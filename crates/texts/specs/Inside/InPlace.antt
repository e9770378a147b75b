-- What is handed in in the place of bursts of flows that aren't selected.
use Rattle.std.specs.Prelude.{◌≡◌, ◌<◌, ℕ, Bool, false, Option, Some, List, map}
use Rattle.std.specs.List.{AllZip}
use Rattle.docsis_wire.specs.declared.header_check.NoCheck.{NoCheck}
use Rattle.flow_selection.specs.declared.selection.Selection.{Selection}
use Rattle.flow_selection.specs.Selection.{is_selected}
use Rattle.lane.specs.declared.admitted.Admitted.{Admitted}
use Rattle.lane.specs.declared.input.Input.{Input}
use Rattle.lane.specs.Limits.{channel_limit}
use Rattle.lane.specs.Inputs.{LaneSetup, Answer, AnsweredInput, AreAnswered, IsAnswer, inputs_of}
use Rattle.lane.specs.Report.{admitted_by}
use Rattle.loss_rule.specs.declared.rule.LossRule.{LossRule}
use Rattle.receiver.specs.declared.outcome.Outcome.{Outcome}
use Rattle.receiver.specs.declared.replaying.Replaying.{Replaying}
use Rattle.receiver.specs.declared.setup.Setup.{Setup}
use Rattle.receiver.specs.declared.width.Width.{Width}
use Rattle.receiver.specs.AdmittedOrder.{IsAdmittedOrder}
use Rattle.receiver.specs.Elsewhere.{StandsIn, DiffersElsewhere}
use Rattle.receiver.specs.Entries.{Entry, tag_of, incoming_in}
use Rattle.receiver.specs.Items.{Incoming}
use Rattle.receiver.specs.Ruled.{IsOutcomeBy}
use Rattle.texts.specs.AnyHeader.{any_header}
use Rattle.texts.specs.Replay.{IsSetupOf}
use Rattle.texts.specs.Trace.Place.{Said}
use Rattle.texts.specs.Inside.Replayed.{HasReplayedLines}
use Rattle.texts.specs.Inside.SetupLines.{SetupSoFar}
use Rattle.texts.specs.Inside.TraceInput.{TraceState}

-- what the lane of a channel is opened with where lines say this
abbrev pub said_lane : Said → ℕ → LaneSetup
said_lane said channel = record { channel = channel; rows = said.sids; records = said.flows }

-- all that lines say that came on a channel, each with its answer
pub record AreAnswersOn (said : Said) (channel : ℕ) (answered : List AnsweredInput) : Type 0 where
  pub answers : AreAnswered (said_lane said channel) answered
  pub inputs : inputs_of answered ≡ (incoming_in said.entries).inputs channel

-- Behind what lines say, the second input may be handed in on this channel in the place of the
-- first: whatever is answered to it, the first would stand in for it.
abbrev pub IsInPlaceOf : (ℕ → Bool) → Said → ℕ → Input → Input → Type 0
IsInPlaceOf selected said channel input other =
    (answered : List AnsweredInput) (answer : Answer) → AreAnswersOn said channel answered → IsAnswer (said_lane said channel) answered other answer
    → StandsIn selected (record { input = other; answer = answer }) input

-- Behind what lines say, whatever is answered to this input on this channel, nothing is admitted of
-- it to a flow that is selected.
abbrev pub IsBoundElsewhere : (ℕ → Bool) → Said → ℕ → Input → Type 0
IsBoundElsewhere selected said channel input =
    (answered : List AnsweredInput) (answer : Answer) (admitted : Admitted) → AreAnswersOn said channel answered → IsAnswer (said_lane said channel) answered input answer
    → admitted_by answer ≡ Some admitted → selected admitted.flow ≡ false

-- What is said may be handed in in the place of these entries: it is of the same senders, has the
-- same decisions, and whatever is answered to its inputs, the one at the place of each would stand
-- in for it.
pub record AreInPlace (selected : ℕ → Bool) (entries : List Entry) (said : Said) : Type 0 where
  pub tags : map tag_of said.entries ≡ map tag_of entries
  pub decisions : (incoming_in said.entries).decisions ≡ (incoming_in entries).decisions
  pub inputs : (channel : ℕ) → channel < channel_limit → (answered : List AnsweredInput) → AreAnswersOn said channel answered
      → AllZip (StandsIn selected) answered ((incoming_in entries).inputs channel)

-- what lines say, with other entries
abbrev pub with_entries : Said → List Entry → Said
with_entries said entries = record said { entries = entries }

-- the same of the state of lines that are replayed for some flows, which tells these no more
abbrev pub other_lines : TraceState Selection → List Entry → TraceState (Unit {0})
other_lines given entries = record { state = tt; rule = given.rule; width = given.width; said = with_entries given.said entries }

-- **What the lines say was replayed but for what other flows' bursts carry**: entries were that may
-- be handed in in the place of theirs where these flows are selected.
pub record HasReplayedInPart (given : TraceState Selection) (selected : Selection) (width : Width) (rule : LossRule) (so_far : SetupSoFar) (taker : Option (Replaying NoCheck)) : Type 0 where
  pub selected_is : selected ≡ given.state
  pub others : List Entry
  pub in_place : AreInPlace (is_selected given.state) given.said.entries (with_entries given.said others)
  pub replayed : HasReplayedLines (other_lines given others) width rule so_far taker

-- What lines give that say this by a rule, but for other flows: the one-thread answer, in the
-- admitted order, for what comes in in the place of their bursts.
pub record IsPlayedInPart (selected : Selection) (rule : LossRule) (said : Said) (outcome : Outcome) : Type 0 where
  pub setup : Setup
  pub given : IsSetupOf said setup
  pub other : Incoming
  pub differs : DiffersElsewhere (is_selected selected) setup other (incoming_in said.entries)
  pub order : List ℕ
  pub admitted : IsAdmittedOrder setup other (map tag_of said.entries) order
  pub answered : IsOutcomeBy rule any_header setup other order outcome
