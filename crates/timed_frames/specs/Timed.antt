-- What comes of a capture's bursts, each with the burst of which it comes.
use Rattle.std.specs.Prelude.{◌≡◌, ◌<◌, ℕ, Option, Some, List, [], ◌∷◌, ◌++◌, length, slice_get, slice_set}
use Rattle.flow_core.specs.declared.counts.FlowCounts.{FlowCounts}
use Rattle.lane.specs.declared.admitted.Request.{Request}
use Rattle.receiver.specs.declared.reply.Reply.{Reply}
use Rattle.consumer.specs.declared.given.Given.TheVariants as given
use Rattle.capture_rules.specs.declared.arrival.Arrival.{Arrival}
use Rattle.captured_flows.specs.declared.sound_burst.SoundBurst.{SoundBurst}
use Rattle.captured_flows.specs.Steps.{CaptureStep, handed_in, gave, replied, began_anew}
use Rattle.timed_frames.specs.declared.timed_step.LastBurst.{LastBurst}
use Rattle.timed_frames.specs.declared.timed_step.TimedStep.{TimedStep}
use Rattle.timed_frames.specs.declared.timed_step.TimedStep.TheVariants as timed_step

-- what is kept of a burst that is handed in
abbrev pub last_burst : Arrival SoundBurst → LastBurst
last_burst one = record { time = one.time; channel = one.channel; number = one.number; sid = one.item.sid; burst_id = one.item.burst_id }

-- **What comes of some steps**, where of each flow this burst was handed in last before them: a
-- frame comes of the burst of its flow that was handed in last, and so does a request.
pub data Timed (lasts : List (Option LastBurst)) : List CaptureStep → List TimedStep → List (Option LastBurst) → Type 0 where
  nothing_came : Timed lasts [] [] lasts
  burst_came : {steps : List CaptureStep} {timed : List TimedStep} {now : List (Option LastBurst)} (flow : ℕ) (one : Arrival SoundBurst)
      → Timed lasts steps timed now → flow < length now
      → Timed lasts (steps ++ handed_in flow one ∷ []) (timed ++ timed_step.HandedIn flow (last_burst one) ∷ []) (slice_set now flow (Some (last_burst one)))
  frame_came : {steps : List CaptureStep} {timed : List TimedStep} {now : List (Option LastBurst)} (flow : ℕ) (burst : LastBurst) (frame : List ℕ)
      → Timed lasts steps timed now → slice_get now flow ≡ Some (Some burst)
      → Timed lasts (steps ++ gave (given.Frame flow frame) ∷ []) (timed ++ timed_step.Frame flow burst frame ∷ []) now
  request_came : {steps : List CaptureStep} {timed : List TimedStep} {now : List (Option LastBurst)} (burst : LastBurst) (request : Request)
      → Timed lasts steps timed now → slice_get now request.flow ≡ Some (Some burst)
      → Timed lasts (steps ++ gave (given.Asked request) ∷ []) (timed ++ timed_step.Asked burst request ∷ []) now
  reply_came : {steps : List CaptureStep} {timed : List TimedStep} {now : List (Option LastBurst)} (flow : ℕ) (burst_id : Option ℕ) (reply : Reply)
      → Timed lasts steps timed now
      → Timed lasts (steps ++ replied flow burst_id reply ∷ []) (timed ++ timed_step.Replied flow burst_id reply ∷ []) now
  flow_ended : {steps : List CaptureStep} {timed : List TimedStep} {now : List (Option LastBurst)} (flow : ℕ) (counts : FlowCounts)
      → Timed lasts steps timed now
      → Timed lasts (steps ++ began_anew flow counts ∷ []) (timed ++ timed_step.Ended flow counts ∷ []) now
