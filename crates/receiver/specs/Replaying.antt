-- A replay to which what was recorded is handed in, one entry after another.
use Rattle.std.specs.Prelude.{◌≡◌, ℕ, ◌<◌, Bool, All, Option, Some, None, List, ◌∷◌, [], ◌++◌, length, filter_map}
use Rattle.std.specs.Option.{option_map}
use Rattle.lane.specs.declared.input.Input.{Input}
use Rattle.lane.specs.Limits.{channel_limit, senders}
use Rattle.lane.specs.Inputs.{Answer, AnsweredInput, IsAnswer}
use Rattle.lane.specs.Report.{admitted_by}
use Rattle.loss_rule.specs.declared.rule.LossRule.{LossRule}
use Rattle.bonded_flows.specs.declared.decision.FlowDecision.{FlowDecision}
use Rattle.bonded_flows.specs.declared.decision.FlowDecision.TheVariants.{Gap, GapTo, SkipTo}
use Rattle.receiver.specs.declared.setup.Setup.{Setup}
use Rattle.receiver.specs.declared.replaying.Replaying.{Replaying}
use Rattle.receiver.specs.HandedIn.{HandedIn}
use Rattle.receiver.specs.HandedIn as handed_in
use Rattle.receiver.specs.HandedOrder.{order_of}
use Rattle.receiver.specs.Entries.{Entry, came, decided, incoming_in}
use Rattle.receiver.specs.Items.{lane_setup, IsLaneOf}
use Rattle.receiver.specs.Playing.{Plays}

-- the entry that a decision is which was handed in
abbrev pub decision_entry : ℕ → FlowDecision → Option Entry
decision_entry flow Gap = Some (decided (record { flow = flow; upto = None }))
decision_entry flow (GapTo number) = Some (decided (record { flow = flow; upto = Some number }))
decision_entry flow (SkipTo number) = None

-- and that something is which was handed in
abbrev pub entry_of : HandedIn → Option Entry
entry_of (handed_in.came channel one) = Some (came channel one.input)
entry_of (handed_in.decided flow decision) = decision_entry flow decision
entry_of (handed_in.restarted flow first) = None

-- it is an entry: an input of one of the four channels, or a decision of those that are recorded
abbrev pub IsGapDecision : FlowDecision → Type 0
IsGapDecision Gap = Unit {0}
IsGapDecision (GapTo number) = Unit {0}
IsGapDecision (SkipTo number) = ⊥

abbrev pub IsRecorded : HandedIn → Type 0
IsRecorded (handed_in.came channel one) = channel < channel_limit
IsRecorded (handed_in.decided flow decision) = IsGapDecision decision
IsRecorded (handed_in.restarted flow first) = ⊥

-- Whatever is answered to this input on this channel after these entries: what is admitted of it is
-- of this flow, or nothing is.
abbrev pub IsBoundFor : Setup → List Entry → ℕ → Input → Option ℕ → Type 0
IsBoundFor setup entries channel input flow =
    (answered : List AnsweredInput) (answer : Answer)
    → IsLaneOf setup (incoming_in entries) channel answered → IsAnswer (lane_setup setup channel) answered input answer
    → option_map (λ admitted. admitted.flow) (admitted_by answer) ≡ flow

module _ {C : Type 0} (accepts : C → List ℕ → Bool) where
  -- **These entries were handed in**, in this order, and nothing else; what it gave was kept, and
  -- the sender of each item.
  pub record HasReplayed (rule : LossRule) (check : List ℕ → Bool) (setup : Setup) (replaying : Replaying C) (entries : List Entry) : Type 0 where
    pub handed : List HandedIn
    pub plays : Plays accepts rule check setup replaying.playing handed
    pub recorded : All IsRecorded handed
    pub are : filter_map entry_of handed ≡ entries
    pub order_is : replaying.order.items ≡ order_of (length setup.flows.items) handed

  -- it is a replay of something
  pub record IsReplaying (replaying : Replaying C) : Type 0 where
    pub rule : LossRule
    pub check : List ℕ → Bool
    pub setup : Setup
    pub entries : List Entry
    pub replayed : HasReplayed rule check setup replaying entries
    pub five : length replaying.playing.places ≡ senders

  -- whatever was handed in, this entry was handed in besides
  abbrev pub ReplaysMore : Replaying C → Entry → Replaying C → Type 0
  ReplaysMore replaying entry after =
      (rule : LossRule) (check : List ℕ → Bool) (setup : Setup) (entries : List Entry)
      → HasReplayed rule check setup replaying entries → HasReplayed rule check setup after (entries ++ entry ∷ [])
