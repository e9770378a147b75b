-- What is handed in in the place of something else.
use Rattle.std.specs.Prelude.{◌≡◌, ◌⊎◌, ℕ, Bool, false, Option, Some, None, List, IfSome}
use Rattle.lane.specs.declared.admitted.Admitted.{Admitted}
use Rattle.lane.specs.declared.input.Input.{Input}
use Rattle.lane.specs.Report.{admitted_by}
use Rattle.receiver.specs.declared.receiver.Receiver.{Receiver}
use Rattle.receiver.specs.Elsewhere.{LooksLike}
use Rattle.receiver.specs.HandedIn.{HandedIn, came, decided, restarted}
use Rattle.receiver.specs.Receiving.{WouldCome}
use Rattle.answers.specs.Beside.{AnswersInPlaceOf}

-- what is admitted has the same header, if anything is
abbrev pub AreHeadedAlike : Option Admitted → Option Admitted → Type 0
AreHeadedAlike None other = other ≡ None
AreHeadedAlike (Some one) None = ⊥
AreHeadedAlike (Some one) (Some other) = other.segment.head ≡ one.segment.head

-- The first stands in for the second: an input on the same channel, which is answered in the
-- other's place, with the same header; or the same decision; or that the same flow begins anew at
-- the same number.
abbrev pub StandsInFor : (ℕ → Bool) → HandedIn → HandedIn → Type 0
StandsInFor selected (came channel one) (came place other) = (place ≡ channel) × AnswersInPlaceOf selected one other × AreHeadedAlike (admitted_by one.answer) (admitted_by other.answer)
StandsInFor selected (came channel one) (decided flow decision) = ⊥
StandsInFor selected (came channel one) (restarted flow first) = ⊥
StandsInFor selected (decided flow decision) other = other ≡ decided flow decision
StandsInFor selected (restarted flow first) other = other ≡ restarted flow first

-- The second may be handed in to a receiver on this channel in the place of the first: it is the
-- same, or it looks like it, and nothing would be admitted of the first to a flow that is selected.
abbrev pub MayStandIn : {C : Type 0} → (C → List ℕ → Bool) → (ℕ → Bool) → Receiver C → ℕ → Input → Input → Type 0
MayStandIn accepts selected receiver channel input other =
    (other ≡ input)
    ⊎ (LooksLike input other × ((flow : Option ℕ) × WouldCome accepts receiver channel input flow × IfSome flow (λ k. selected k ≡ false)))
