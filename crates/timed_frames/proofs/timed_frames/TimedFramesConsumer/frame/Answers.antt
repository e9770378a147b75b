-- A frame waits behind what waited before.
use Rattle.std.proofs.Common.{List, [], ◌∷◌, Option, map, sym, subst, ap}
use Rattle.consumer.specs.declared.given.Given.TheVariants as given
use Rattle.captured_flows.specs.Steps.{CaptureStep, gave}
use Rattle.timed_frames.specs.declared.timed_step.LastBurst.{LastBurst}
use Rattle.timed_frames.specs.declared.timed_step.TimedStep.TheVariants as timed_step
use Rattle.timed_frames.specs.Seen.{HasSeen}
use Rattle.timed_frames.specs.Timed.{Timed, nothing_came, frame_came}
use Rattle.timed_frames.specs.Timing.{seen_more, map_gave}
use Rattle.timed_frames.proofs.timed_frames.TimedFramesConsumer.frame.Goals as goal

pub returns-in-Some : goal.returns-in-Some
returns-in-Some c = λ start list has.
    let step = gave (given.Frame c.args.flow c.args.frame) in
    subst (λ (steps : List CaptureStep). HasSeen start steps c.keep.new.self) (sym (map_gave list (given.Frame c.args.flow c.args.frame)))
    (seen_more start c.args.self.now c.keep.new.self (map gave list) step (timed_step.Frame c.args.flow c.in-Some.burst c.args.frame) has c.keep.ensures.kept
    (λ whole. subst (λ (lasts : List (Option LastBurst)). Timed c.args.self.now.lasts.items (step ∷ []) (timed_step.Frame c.args.flow c.in-Some.burst c.args.frame ∷ []) lasts)
    (sym (ap (λ lasts. lasts.items) c.keep.ensures.lasts))
    (frame_came c.args.flow c.in-Some.burst c.args.frame nothing_came c.in-Some.ensures)))
