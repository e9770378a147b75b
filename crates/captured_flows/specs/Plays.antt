-- What a consumer sees of what a receiver takes: which frames and requests come of which burst.
use Rattle.std.specs.Prelude.{◌≡◌, ℕ, Bool, Some, None, List, [], ◌∷◌, ◌++◌, map}
use Rattle.flow_core.specs.declared.counts.FlowCounts.{FlowCounts}
use Rattle.lane.specs.declared.admitted.Admitted.{Admitted}
use Rattle.lane.specs.declared.input.Input.{Input}
use Rattle.lane.specs.Inputs.{Answer}
use Rattle.lane.specs.Report.{admitted_by}
use Rattle.consumer.specs.declared.given.Given.{Given}
use Rattle.consumer.specs.declared.given.Given.TheVariants.{Frame}
use Rattle.bonded_flows.specs.Table.{TableSetup}
use Rattle.bonded_flows.specs.declared.decision.FlowDecision.TheVariants.{SkipTo}
use Rattle.receiver.specs.declared.reply.Reply.{Reply}
use Rattle.receiver.specs.HandedIn.{HandedIn, came, decided, restarted}
use Rattle.receiver.specs.Receiving.{Says, IsToldRightly}
use Rattle.selected_receiver.specs.Given.{IsAllGiven, ClosesFlow}
use Rattle.captured_flows.specs.declared.captured_burst.CapturedBurst.{CapturedBurst}
use Rattle.captured_flows.specs.Acts.{Act, alone, with_burst, items_of}
use Rattle.captured_flows.specs.Sound.{IsUnsound}
use Rattle.captured_flows.specs.Flow.{Next, grant_of, burst_of}
use Rattle.captured_flows.specs.Captures.{refused_grant, refused_burst}
use Rattle.captured_flows.specs.Steps.{CaptureStep, handed_in, gave, replied, began_anew, given_in}

-- an input came on a channel, and its lane answered this
abbrev pub came_on : ℕ → Input → Answer → HandedIn
came_on channel input answer = came channel (record { input = input; answer = answer })

-- A part of a move, in which something failed: what was handed in of it, and what is seen. If a
-- burst was told, it was told first.
pub data IsPart : List Act → List CaptureStep → Type 0 where
  none_told : (more : List Act) (gives : List Given) → IsPart more (map gave gives)
  one_told : (flow : ℕ) (one : Next) (more : List Act) (gives : List Given) → IsPart more (handed_in flow one.arrival ∷ map gave gives)

module _ (check : List ℕ → Bool) (made : TableSetup) where
  -- this is all that is given for what was handed in
  abbrev pub IsGivenFor : List Act → List Given → Type 0
  IsGivenFor handed given = IsAllGiven check made (items_of handed) given

  -- **One move**, after this was handed in and given: what is handed in, and what is seen. A flow
  -- skips, and what that gives is seen. The grant of a burst and the burst itself, which its lane
  -- won't admit, are handed in, and no burst is told: nothing is admitted of them. A burst of a
  -- flow is told, then its grant and itself are handed in, and what each gives is seen, and then
  -- what was replied to it: what is admitted of it is of that flow. A flow is closed, what it then
  -- gives is seen, and then that it begins anew, with its counts.
  pub data IsMove (handed : List Act) (given : List Given) : List Act → List CaptureStep → Type 0 where
    skips_to : (flow number : ℕ) (gives : List Given) → IsGivenFor (handed ++ alone (decided flow (SkipTo number)) ∷ []) (given ++ gives)
        → IsMove handed given (alone (decided flow (SkipTo number)) ∷ []) (map gave gives)
    is_unsound : (channel : ℕ) (burst : CapturedBurst) (granting coming : Answer) (of_grant of_burst : List Given) → IsUnsound burst
        → admitted_by granting ≡ None → admitted_by coming ≡ None
        → IsGivenFor (handed ++ alone (came_on channel (refused_grant burst) granting) ∷ []) (given ++ of_grant)
        → IsGivenFor ((handed ++ alone (came_on channel (refused_grant burst) granting) ∷ []) ++ alone (came_on channel (refused_burst burst) coming) ∷ []) ((given ++ of_grant) ++ of_burst)
        → IsMove handed given (alone (came_on channel (refused_grant burst) granting) ∷ alone (came_on channel (refused_burst burst) coming) ∷ []) (map gave (of_grant ++ of_burst))
    is_told : (flow : ℕ) (one : Next) (granting coming : Answer) (reply : Reply) (of_grant of_burst : List Given) → Says reply coming
        → admitted_by granting ≡ None → ((admitted : Admitted) → admitted_by coming ≡ Some admitted → admitted.flow ≡ flow)
        → IsToldRightly made (items_of (handed ++ with_burst flow one.arrival (came_on one.arrival.channel (grant_of one) granting) ∷ [])) one.arrival.channel coming reply
        → IsGivenFor (handed ++ with_burst flow one.arrival (came_on one.arrival.channel (grant_of one) granting) ∷ []) (given ++ of_grant)
        → IsGivenFor ((handed ++ with_burst flow one.arrival (came_on one.arrival.channel (grant_of one) granting) ∷ []) ++ alone (came_on one.arrival.channel (burst_of one) coming) ∷ []) ((given ++ of_grant) ++ of_burst)
        → IsMove handed given (with_burst flow one.arrival (came_on one.arrival.channel (grant_of one) granting) ∷ alone (came_on one.arrival.channel (burst_of one) coming) ∷ [])
        (handed_in flow one.arrival ∷ (map gave (of_grant ++ of_burst) ++ replied flow one.arrival.item.burst_id reply ∷ []))
    begins_again : (flow first : ℕ) (frames : List (List ℕ)) (counts : FlowCounts) → ClosesFlow check made flow (items_of handed) given frames counts
        → IsGivenFor (handed ++ alone (restarted flow first) ∷ []) (given ++ map (Frame flow) frames)
        → IsMove handed given (alone (restarted flow first) ∷ []) (map gave (map (Frame flow) frames) ++ began_anew flow counts ∷ [])

  -- **Moves come one after another**: what is handed in and what is seen go side by side.
  pub data Plays (handed : List Act) (given : List Given) : List Act → List CaptureStep → Type 0 where
    nothing : Plays handed given [] []
    one_move : {more later : List Act} {steps behind : List CaptureStep} → Plays handed given more steps
        → IsMove (handed ++ more) (given ++ given_in steps) later behind → Plays handed given (more ++ later) (steps ++ behind)

  -- **Moves, and then a part of one**, where something failed.
  pub data PlaysPartly (handed : List Act) (given : List Given) : List Act → List CaptureStep → Type 0 where
    breaks_off : {more later : List Act} {steps behind : List CaptureStep} → Plays handed given more steps → IsPart later behind
        → PlaysPartly handed given (more ++ later) (steps ++ behind)
