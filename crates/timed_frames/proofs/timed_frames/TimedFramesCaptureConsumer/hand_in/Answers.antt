-- The burst that is handed in is the last of its flow from then on.
use Rattle.std.proofs.Common.{◌<◌, List, [], ◌∷◌, Option, length, sym, subst, ap, rules}
use Rattle.captured_flows.specs.Steps.{handed_in}
use Rattle.timed_frames.specs.declared.timed_step.LastBurst.{LastBurst}
use Rattle.timed_frames.specs.declared.timed_step.TimedStep.TheVariants as timed_step
use Rattle.timed_frames.specs.Timed.{Timed, nothing_came, burst_came, last_burst}
use Rattle.timed_frames.specs.Timing.{seen_more}
use Rattle.timed_frames.proofs.timed_frames.TimedFramesCaptureConsumer.hand_in.Goals as goal

pub returns : goal.returns
returns c = λ start steps has.
    let old = c.args.self.now in
    let one = c.args.burst.now in
    let step = timed_step.HandedIn c.args.flow (last_burst one) in
    let small : c.args.flow < length old.lasts.items = search rules in
    seen_more start old c.keep.new.self steps (handed_in c.args.flow one) step has
    (record { whole = c.keep.ensures.kept.whole; waiting = c.keep.ensures.kept.waiting })
    (λ whole. subst (λ (lasts : List (Option LastBurst)). Timed old.lasts.items (handed_in c.args.flow one ∷ []) (step ∷ []) lasts)
    (sym (ap (λ lasts. lasts.items) c.keep.ensures.lasts))
    (burst_came c.args.flow one nothing_came small))
