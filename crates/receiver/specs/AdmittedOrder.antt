-- The admitted order of the tags of all inputs and decisions.
use Rattle.std.specs.Prelude.{◌≡◌, ℕ, Bool, List, [], ◌∷◌, length}
use Rattle.lane.specs.Inputs.{AnsweredInput}
use Rattle.receiver.specs.declared.setup.Setup.{Setup}
use Rattle.receiver.specs.Items.{Incoming, AreLanesOf, are_items}
use Rattle.receiver.specs.Order.{IsMergeOf, kept_places}

-- The admitted order: of tags that name the sender of each input and decision, those of admitted
-- bursts and of decisions that name a flow.
pub record IsAdmittedOrder (setup : Setup) (incoming : Incoming) (tags order : List ℕ) : Type 0 where
  pub answered : ℕ → List AnsweredInput
  pub lanes : AreLanesOf setup incoming answered
  pub flags : List Bool
  pub merged : IsMergeOf (are_items setup incoming answered) tags flags
  pub order_is : order ≡ kept_places tags flags

-- how many inputs each channel has, and how many decisions there are
abbrev pub input_counts : Incoming → List ℕ
input_counts incoming =
    length (incoming.inputs 0) ∷ length (incoming.inputs 1) ∷ length (incoming.inputs 2) ∷ length (incoming.inputs 3) ∷ length incoming.decisions ∷ []
