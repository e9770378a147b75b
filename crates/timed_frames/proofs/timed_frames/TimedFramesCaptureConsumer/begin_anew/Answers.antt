-- That a flow begins anew waits behind what waited before.
use Rattle.std.proofs.Common.{List, [], ◌∷◌, Option, sym, subst, ap}
use Rattle.captured_flows.specs.Steps.{began_anew}
use Rattle.timed_frames.specs.declared.timed_step.LastBurst.{LastBurst}
use Rattle.timed_frames.specs.declared.timed_step.TimedStep.TheVariants as timed_step
use Rattle.timed_frames.specs.Timed.{Timed, nothing_came, flow_ended}
use Rattle.timed_frames.specs.Timing.{seen_more}
use Rattle.timed_frames.proofs.timed_frames.TimedFramesCaptureConsumer.begin_anew.Goals as goal

pub returns : goal.returns
returns c = λ start steps has.
    seen_more start c.args.self.now c.keep.new.self steps (began_anew c.args.flow c.args.counts) (timed_step.Ended c.args.flow c.args.counts) has c.keep.ensures.kept
    (λ whole. subst (λ (lasts : List (Option LastBurst)). Timed c.args.self.now.lasts.items (began_anew c.args.flow c.args.counts ∷ []) (timed_step.Ended c.args.flow c.args.counts ∷ []) lasts)
    (sym (ap (λ lasts. lasts.items) c.keep.ensures.lasts))
    (flow_ended c.args.flow c.args.counts nothing_came))
