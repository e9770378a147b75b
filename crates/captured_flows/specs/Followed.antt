-- That frames come behind the bursts of their flows.
use Rattle.std.specs.Prelude.{◌≡◌, ℕ, ◌==◌, ◌||◌, Bool, true, false, List, [], ◌∷◌, ◌++◌}
use Rattle.consumer.specs.declared.given.Given.{Given}
use Rattle.consumer.specs.declared.given.Given.TheVariants.{Frame, Asked}
use Rattle.captured_flows.specs.Steps.{CaptureStep, handed_in, gave, replied, began_anew}

-- whether a burst of flow k is handed in in some steps
abbrev pub hands_in : ℕ → List CaptureStep → Bool
hands_in k [] = false
hands_in k (handed_in flow burst ∷ steps) = (flow == k) || hands_in k steps
hands_in k (gave one ∷ steps) = hands_in k steps
hands_in k (replied flow burst_id reply ∷ steps) = hands_in k steps
hands_in k (began_anew flow counts ∷ steps) = hands_in k steps

-- behind these steps a burst of the flow of what is given was handed in, if it is a flow's
abbrev pub IsBehindBurst : List CaptureStep → Given → Type 0
IsBehindBurst before (Frame flow frame) = hands_in flow before ≡ true
IsBehindBurst before (Asked request) = Unit {0}

abbrev pub StepFollows : List CaptureStep → CaptureStep → Type 0
StepFollows before (handed_in flow burst) = Unit {0}
StepFollows before (gave one) = IsBehindBurst before one
StepFollows before (replied flow burst_id reply) = Unit {0}
StepFollows before (began_anew flow counts) = Unit {0}

-- **Behind these steps each frame comes behind a burst of its flow** that was handed in.
abbrev pub FollowBursts : List CaptureStep → List CaptureStep → Type 0
FollowBursts before [] = Unit {0}
FollowBursts before (step ∷ steps) = StepFollows before step × FollowBursts (before ++ step ∷ []) steps
