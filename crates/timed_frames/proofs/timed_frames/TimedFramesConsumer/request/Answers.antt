-- A request waits behind what waited before.
use Rattle.std.proofs.Common.{List, [], ◌∷◌, Option, map, sym, subst, ap}
use Rattle.consumer.specs.declared.given.Given.TheVariants as given
use Rattle.captured_flows.specs.Steps.{CaptureStep, gave}
use Rattle.timed_frames.specs.declared.timed_step.LastBurst.{LastBurst}
use Rattle.timed_frames.specs.declared.timed_step.TimedStep.TheVariants as timed_step
use Rattle.timed_frames.specs.Seen.{HasSeen}
use Rattle.timed_frames.specs.Timed.{Timed, nothing_came, request_came}
use Rattle.timed_frames.specs.Timing.{seen_more, map_gave}
use Rattle.timed_frames.proofs.timed_frames.TimedFramesConsumer.request.Goals as goal

pub returns-in-Some : goal.returns-in-Some
returns-in-Some c = λ start list has.
    let step = gave (given.Asked c.args.request) in
    subst (λ (steps : List CaptureStep). HasSeen start steps c.keep.new.self) (sym (map_gave list (given.Asked c.args.request)))
    (seen_more start c.args.self.now c.keep.new.self (map gave list) step (timed_step.Asked c.in-Some.burst c.args.request) has c.keep.ensures.kept
    (λ whole. subst (λ (lasts : List (Option LastBurst)). Timed c.args.self.now.lasts.items (step ∷ []) (timed_step.Asked c.in-Some.burst c.args.request ∷ []) lasts)
    (sym (ap (λ lasts. lasts.items) c.keep.ensures.lasts))
    (request_came c.in-Some.burst c.args.request nothing_came c.in-Some.ensures)))
