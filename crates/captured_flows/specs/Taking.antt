-- What a receiver takes of bursts that are handed on.
use Rattle.std.specs.Prelude.{◌≡◌, ℕ, Bool, List, ◌++◌}
use Rattle.consumer.specs.declared.given.Given.{Given}
use Rattle.bonded_flows.specs.Table.{TableSetup}
use Rattle.selected_receiver.specs.declared.selected_receiver.SelectedReceiver.{SelectedReceiver}
use Rattle.selected_receiver.specs.Whole.{StandsForWhole}
use Rattle.captured_flows.specs.Acts.{Act, items_of}
use Rattle.captured_flows.specs.Steps.{CaptureStep, given_in}
use Rattle.captured_flows.specs.Shown.{AreSeenOf}
use Rattle.captured_flows.specs.Plays.{Plays, PlaysPartly}

module _ {C : Type 0} (accepts : C → List ℕ → Bool) where
  -- **Whatever was handed in, something was handed in besides** of which this holds, in some steps:
  -- what is given in them is what was given more, and each move of what was handed in stands beside
  -- its steps. The consumer saw what is seen of them, in order.
  pub record TakesBy {O : Type 0} (saw : O → List CaptureStep → O → Type 0) (Spells : TableSetup → List Act → List Act → Type 0) (receiver : SelectedReceiver C) (out : O) (receiver' : SelectedReceiver C) (out' : O) : Type 0 where
    pub seen : List CaptureStep
    pub was_seen : (start : O) (before : List CaptureStep) → saw start before out → saw start (before ++ seen) out'
    pub selected : receiver'.selected ≡ receiver.selected
    pub stands : (check : List ℕ → Bool) (made : TableSetup) (handed : List Act) (given : List Given)
        → StandsForWhole accepts receiver check made (items_of handed) given
        → (more : List Act) × (steps : List CaptureStep) × Spells made handed more
        × StandsForWhole accepts receiver' check made (items_of (handed ++ more)) (given ++ given_in steps)
        × Plays check made handed given more steps × AreSeenOf receiver.selected steps seen

  -- **Where something fails on the way**: whatever was handed in, something was handed in besides,
  -- in some steps: those of moves, and of a part of one more. The consumer saw what is seen of
  -- them, in order.
  pub record BreaksOff {O : Type 0} (saw : O → List CaptureStep → O → Type 0) (receiver : SelectedReceiver C) (out : O) (receiver' : SelectedReceiver C) (out' : O) : Type 0 where
    pub seen : List CaptureStep
    pub was_seen : (start : O) (before : List CaptureStep) → saw start before out → saw start (before ++ seen) out'
    pub selected : receiver'.selected ≡ receiver.selected
    pub stands : (check : List ℕ → Bool) (made : TableSetup) (handed : List Act) (given : List Given)
        → StandsForWhole accepts receiver check made (items_of handed) given
        → (more : List Act) × (steps : List CaptureStep)
        × StandsForWhole accepts receiver' check made (items_of (handed ++ more)) (given ++ given_in steps)
        × PlaysPartly check made handed given more steps × AreSeenOf receiver.selected steps seen
