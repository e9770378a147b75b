-- What a consumer of captures sees, one after another.
use Rattle.std.specs.Prelude.{ℕ, Option, Some, None, List, filter_map}
use Rattle.flow_core.specs.declared.counts.FlowCounts.{FlowCounts}
use Rattle.consumer.specs.declared.given.Given.{Given}
use Rattle.receiver.specs.declared.reply.Reply.{Reply}
use Rattle.capture_rules.specs.declared.arrival.Arrival.{Arrival}
use Rattle.captured_flows.specs.declared.sound_burst.SoundBurst.{SoundBurst}

-- **One step**: a burst of the flow with this index is handed in; something is given; the burst
-- with this number, if it has one, was handed in, and this was replied to it; or the flow was
-- closed and begins anew, and this was counted of it since it was begun.
pub data CaptureStep : Type 0 where
  handed_in : ℕ → Arrival SoundBurst → CaptureStep
  gave : Given → CaptureStep
  replied : ℕ → Option ℕ → Reply → CaptureStep
  began_anew : ℕ → FlowCounts → CaptureStep

-- what is given in some steps, in order
abbrev pub given_by : CaptureStep → Option Given
given_by (handed_in flow burst) = None
given_by (gave one) = Some one
given_by (replied flow burst_id reply) = None
given_by (began_anew flow counts) = None

abbrev pub given_in : List CaptureStep → List Given
given_in steps = filter_map given_by steps
