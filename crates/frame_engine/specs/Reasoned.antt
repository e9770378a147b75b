-- What is told of the bursts of a capture as they come, and why frames are missing by what was told
-- till then.
use Rattle.std.specs.Prelude.{ℕ, Option, List, [], ◌∷◌, ◌++◌, length, map, Ok}
use Rattle.bonded_flows.specs.Table.{TableSetup}
use Rattle.burst_fates.specs.declared.burst_fate.ToldFate.{ToldFate}
use Rattle.burst_fates.specs.declared.missing_reason.MissingReason.{MissingReason}
use Rattle.burst_fates.specs.Fates.{kept_of}
use Rattle.capture.specs.PcapngBlocks.{CaptureParts}
use Rattle.capture_map.specs.declared.map.CaptureMap.{CaptureMap}
use Rattle.captured_flows.specs.declared.captured_burst.CapturedBurst.{CapturedBurst}
use Rattle.captured_flows.specs.declared.burst_taken.BurstTaken.{BurstTaken}
use Rattle.captured_flows.specs.Acts.{Act, items_of}
use Rattle.captured_flows.specs.Captures.{SpellsBursts, none_comes, one_more_comes}
use Rattle.captured_flows.specs.Flow.{FlowView}
use Rattle.captured_flows.specs.Steps.{CaptureStep, gave, given_in}
use Rattle.consumer.specs.declared.given.Given.{Given}
use Rattle.frame_comparison.specs.Aligned.{Arrival, with_all}
use Rattle.frame_comparison.specs.Compared.{nothing_came}
use Rattle.frame_comparison.specs.Frames.{ShownFrame}
use Rattle.frame_comparison.specs.Seen.{seen_of}
use Rattle.frame_reasons.specs.Told.{fate_of_taken, told_if, told_in_steps, explained}
use Rattle.receiver.specs.Received.{IsReceived}
use Rattle.receiver.specs.declared.closing.Closed.{Closed}
use Rattle.timed_frames.specs.declared.timed_step.LastBurst.{LastBurst}
use Rattle.timed_frames.specs.declared.timed_step.TimedStep.{TimedStep}
use Rattle.timed_frames.specs.Timed.{Timed}
use Rattle.frame_engine.specs.declared.settings.CaptureSettings.{CaptureSettings}
use Rattle.frame_engine.specs.Compared.{Brings, arrivals_of_steps}
use Rattle.frame_engine.specs.Joined.{made, check, none_handed_in, steps_seen, ComesOf, ComesAtEnd}
use Rattle.frame_engine.specs.Records.{IsBurstOf}

-- what became of each of some bursts when it came, in order
abbrev pub answers_in : {capture_map : CaptureMap} {made : TableSetup} {wait : ℕ} {flows : List FlowView} {handed : List Act} {bursts : List CapturedBurst} {more : List Act} {flows' : List FlowView}
    → SpellsBursts capture_map made wait flows handed bursts more flows' → List BurstTaken
answers_in none_comes = []
answers_in (one_more_comes {told = told} before last) = answers_in before ++ told ∷ []

module _ (settings : CaptureSettings) (capture_map : CaptureMap) where
  -- **What comes of some bursts, of the selected flows and of none, is this**, each step with its
  -- burst.
  pub record ComesTimed (bursts : List CapturedBurst) (timed : List TimedStep) : Type 0 where
    pub handed : List Act
    pub flows : List FlowView
    pub steps : List CaptureStep
    pub lasts : List (Option LastBurst)
    pub comes : ComesOf settings capture_map bursts handed flows steps
    pub is_timed : Timed (none_handed_in settings capture_map) (steps_seen settings capture_map steps) timed lasts

  -- so when nothing more comes: what waited was handed in, and then the receiver was closed
  pub data ComesTimedAtEnd (bursts : List CapturedBurst) (timed : List TimedStep) : Type 0 where
    waiting_ended : (handed : List Act) (steps : List CaptureStep) (lasts : List (Option LastBurst)) → ComesAtEnd settings capture_map bursts handed steps
        → Timed (none_handed_in settings capture_map) (steps_seen settings capture_map steps) timed lasts → ComesTimedAtEnd bursts timed
    receiver_closed : (handed : List Act) (steps : List CaptureStep) (rest : List Given) (closed : Closed) (lasts : List (Option LastBurst)) → ComesAtEnd settings capture_map bursts handed steps
        → IsReceived (check settings capture_map) (made settings capture_map) (items_of handed) (given_in steps ++ rest) closed
        → Timed (none_handed_in settings capture_map) (steps_seen settings capture_map (steps ++ map gave rest)) timed lasts → ComesTimedAtEnd bursts timed

  -- the frames that are listed as only the analyser's, once these came to be compared
  abbrev pub missing_of : List Arrival → List ShownFrame
  missing_of arrivals = (seen_of (with_all arrivals (nothing_came (length capture_map.flows.items)))).analyser.only

  -- those of them that have no reason yet get theirs
  abbrev pub reasons_then : List Arrival → List ToldFate → List MissingReason → List MissingReason
  reasons_then arrivals told reasons = explained (kept_of told) reasons (missing_of arrivals)

  -- **What is told of bursts, and why frames are missing**: of a record nothing is told; if it
  -- holds a burst, what became of that when it came, and then what the steps that came of it say
  -- of it and of others; those are what came of all bursts till then, but not of those before it.
  -- Behind the last, when nothing more comes, it is what the last steps say. Behind each the frames
  -- that are listed by then get their reasons, by what was told by then.
  pub data AreReasons : List CaptureParts → List CapturedBurst → List BurstTaken → List TimedStep → List Arrival → List ToldFate → List MissingReason → Type 0 where
    nothing_told : AreReasons [] [] [] [] [] [] []
    behind_record : {records : List CaptureParts} {bursts : List CapturedBurst} {answers : List BurstTaken} {timed : List TimedStep} {arrivals : List Arrival} {told : List ToldFate} {reasons : List MissingReason}
        → AreReasons records bursts answers timed arrivals told reasons → ComesTimed bursts timed
        → (one : CaptureParts) (more : List Arrival) → Brings settings.selected capture_map one more
        → AreReasons (records ++ one ∷ []) bursts answers timed (arrivals ++ more) told (reasons_then (arrivals ++ more) told reasons)
    behind_burst : {bursts : List CapturedBurst} {answers : List BurstTaken} {timed : List TimedStep} {arrivals : List Arrival} {told : List ToldFate} {reasons : List MissingReason}
        → (records : List CaptureParts) (one : CaptureParts) → AreReasons (records ++ one ∷ []) bursts answers timed arrivals told reasons
        → ComesTimed bursts timed
        → (burst : CapturedBurst) (answer : BurstTaken) (steps : List TimedStep) → IsBurstOf one (Ok burst)
        → ComesTimed (bursts ++ burst ∷ []) (timed ++ steps)
        → AreReasons (records ++ one ∷ []) (bursts ++ burst ∷ []) (answers ++ answer ∷ []) (timed ++ steps) (arrivals ++ arrivals_of_steps settings.selected steps)
        (told ++ told_if burst.burst_id (fate_of_taken answer) ++ told_in_steps steps)
        (reasons_then (arrivals ++ arrivals_of_steps settings.selected steps) (told ++ told_if burst.burst_id (fate_of_taken answer) ++ told_in_steps steps) reasons)
    behind_last : {records : List CaptureParts} {bursts : List CapturedBurst} {answers : List BurstTaken} {timed : List TimedStep} {arrivals : List Arrival} {told : List ToldFate} {reasons : List MissingReason}
        → AreReasons records bursts answers timed arrivals told reasons → (steps : List TimedStep) → ComesTimedAtEnd bursts (timed ++ steps)
        → AreReasons records bursts answers (timed ++ steps) (arrivals ++ arrivals_of_steps settings.selected steps) (told ++ told_in_steps steps)
        (reasons_then (arrivals ++ arrivals_of_steps settings.selected steps) (told ++ told_in_steps steps) reasons)
