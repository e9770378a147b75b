-- What was replied to a burst waits behind what waited before.
use Rattle.std.proofs.Common.{List, [], ◌∷◌, Option, sym, subst, ap}
use Rattle.captured_flows.specs.Steps.{replied}
use Rattle.timed_frames.specs.declared.timed_step.LastBurst.{LastBurst}
use Rattle.timed_frames.specs.declared.timed_step.TimedStep.TheVariants as timed_step
use Rattle.timed_frames.specs.Timed.{Timed, nothing_came, reply_came}
use Rattle.timed_frames.specs.Timing.{seen_more}
use Rattle.timed_frames.proofs.timed_frames.TimedFramesCaptureConsumer.replied.Goals as goal

pub returns : goal.returns
returns c = λ start steps has.
    let step = timed_step.Replied c.args.flow c.args.burst_id c.args.reply in
    seen_more start c.args.self.now c.keep.new.self steps (replied c.args.flow c.args.burst_id c.args.reply) step has c.keep.ensures.kept
    (λ whole. subst (λ (lasts : List (Option LastBurst)). Timed c.args.self.now.lasts.items (replied c.args.flow c.args.burst_id c.args.reply ∷ []) (step ∷ []) lasts)
    (sym (ap (λ lasts. lasts.items) c.keep.ensures.lasts))
    (reply_came c.args.flow c.args.burst_id c.args.reply nothing_came))
