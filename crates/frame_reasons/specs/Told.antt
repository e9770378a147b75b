-- Why frames that the analyser joined are missing: what is told of bursts, and of which frames the
-- reasons are listed.
use Rattle.std.specs.Prelude.{◌≡◌, ℕ, Option, Some, None, List, [], ◌∷◌, ◌++◌, flat_map, map, take, drop, length}
use Rattle.bonded_flows.specs.declared.told.SegmentVerdict.{SegmentVerdict}
use Rattle.bonded_flows.specs.declared.told.SegmentVerdict.TheVariants as verdict
use Rattle.receiver.specs.declared.reply.Reply.{Reply}
use Rattle.receiver.specs.declared.reply.Reply.TheVariants as reply
use Rattle.captured_flows.specs.declared.burst_taken.BurstTaken.{BurstTaken}
use Rattle.captured_flows.specs.declared.burst_taken.BurstTaken.TheVariants as taken
use Rattle.burst_fates.specs.declared.burst_fate.BurstFate.{BurstFate}
use Rattle.burst_fates.specs.declared.burst_fate.BurstFate.TheVariants as fate
use Rattle.burst_fates.specs.declared.burst_fate.ToldFate.{ToldFate}
use Rattle.burst_fates.specs.declared.burst_fates.BurstFates.{BurstFates}
use Rattle.burst_fates.specs.declared.missing_reason.MissingReason.{MissingReason}
use Rattle.burst_fates.specs.Fates.{kept_of, reason_of}
use Rattle.frame_comparison.specs.Frames.{ShownFrame}
use Rattle.frame_comparison.specs.Seen.{listed_most}
use Rattle.timed_frames.specs.declared.timed_step.TimedStep.{TimedStep}
use Rattle.timed_frames.specs.declared.timed_step.TimedStep.TheVariants.{HandedIn, Frame, Asked, Replied, Ended}

-- ============ What is told ============

-- what became of a burst whose segment came to its flow
abbrev pub fate_of_verdict : SegmentVerdict → BurstFate
fate_of_verdict verdict.Kept = fate.Kept
fate_of_verdict verdict.Late = fate.Late
fate_of_verdict verdict.Repeat = fate.Repeat
fate_of_verdict verdict.Beyond = fate.Beyond

-- of one to which this was replied; that a grant was made is replied to none
abbrev pub fate_of_reply : Reply → Option BurstFate
fate_of_reply reply.Granted = None
fate_of_reply (reply.Admitted flow sequence told) = Some (fate_of_verdict told.verdict)
fate_of_reply (reply.Refused refusal) = Some (fate.Refused refusal)

-- and of one that came
abbrev pub fate_of_taken : BurstTaken → Option BurstFate
fate_of_taken taken.UnknownChannel = Some fate.UnknownChannel
fate_of_taken taken.UnknownSid = Some fate.UnknownSid
fate_of_taken (taken.Refused answer) = fate_of_reply answer
fate_of_taken (taken.Waits flow) = Some fate.Waits

-- it is told of a burst that has a number
abbrev pub told_if : Option ℕ → Option BurstFate → List ToldFate
told_if None what = []
told_if (Some id) None = []
told_if (Some id) (Some what) = record { id = id; fate = what } ∷ []

abbrev pub told_in_step : TimedStep → List ToldFate
told_in_step (HandedIn flow burst) = []
told_in_step (Frame flow burst frame) = []
told_in_step (Asked burst request) = []
told_in_step (Replied flow burst_id answer) = told_if burst_id (fate_of_reply answer)
told_in_step (Ended flow counts) = []

abbrev pub told_in_steps : List TimedStep → List ToldFate
told_in_steps steps = flat_map told_in_step steps

-- whatever was told before, this is told besides
abbrev pub TellsAll : List ToldFate → BurstFates → BurstFates → Type 0
TellsAll more old new = (told : List ToldFate) → old.told.items ≡ kept_of told → new.told.items ≡ kept_of (told ++ more)

-- ============ What is listed ============

-- why frames are missing, by the bursts that are named of them
abbrev pub reasons_of : List ToldFate → List ShownFrame → List MissingReason
reasons_of told frames = map (λ frame. reason_of told frame.bursts) frames

-- **Those of the frames that are listed that have no reason yet get theirs**, by what is known then
abbrev pub explained : List ToldFate → List MissingReason → List ShownFrame → List MissingReason
explained told reasons only = reasons ++ reasons_of told (drop (length reasons) (take listed_most only))
