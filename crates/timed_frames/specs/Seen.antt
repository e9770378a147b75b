-- What a consumer that keeps times has seen.
use Rattle.std.specs.Prelude.{◌≡◌, ℕ, IsTrue, None, List, [], ◌∷◌, ◌++◌, map, replicate}
use Rattle.consumer.specs.declared.given.Given.{Given}
use Rattle.captured_flows.specs.Steps.{CaptureStep, gave}
use Rattle.timed_frames.specs.declared.timed_step.TimedStep.{TimedStep}
use Rattle.timed_frames.specs.declared.timed_frames.TimedFrames.{TimedFrames}
use Rattle.timed_frames.specs.Timed.{Timed}

-- no burst was handed in of any of so many flows, and nothing waits
pub record HasSeenNothing (flow_count : ℕ) (kept : TimedFrames) : Type 0 where
  pub lasts : kept.lasts.items ≡ replicate flow_count None
  pub waiting : kept.waiting.items ≡ []
  pub whole : IsTrue kept.whole

-- what came of some steps waits behind what waited before
pub record WaitsBehind (start : TimedFrames) (steps : List CaptureStep) (end : TimedFrames) : Type 0 where
  pub came : List TimedStep
  pub timed : Timed start.lasts.items steps came end.lasts.items
  pub waiting : end.waiting.items ≡ start.waiting.items ++ came

-- if nothing is left out at the end, nothing was at the start, and all that came waits
abbrev pub HasSeen : TimedFrames → List CaptureStep → TimedFrames → Type 0
HasSeen start steps end = IsTrue end.whole → IsTrue start.whole × WaitsBehind start steps end

-- so what was given
abbrev pub HasGiven : TimedFrames → List Given → TimedFrames → Type 0
HasGiven start given end = HasSeen start (map gave given) end

-- one thing more waits, if nothing is left out
pub record Keeps (start : TimedFrames) (step : TimedStep) (end : TimedFrames) : Type 0 where
  pub whole : IsTrue end.whole → IsTrue start.whole
  pub waiting : IsTrue end.whole → end.waiting.items ≡ start.waiting.items ++ step ∷ []
