-- The frames of the first steps were taken.
use Rattle.std.proofs.Common.{take}
use Rattle.frame_comparison.specs.Aligned.{with_all}
use Rattle.frame_engine.specs.Compared.{arrivals_of_steps}
use Rattle.frame_engine.proofs.Arrivals.{steps-kept}
use Rattle.frame_engine.proofs.comparing.take_all.Goals as goal

pub loop-step-preserved : goal.loop-step-preserved
loop-step-preserved c = λ before is.
    let taken = c.take_step.ensures (with_all (arrivals_of_steps c.args.selected.now (take c.loop-step.step-index c.args.steps.now)) before) (c.loop-step.invariant before is) in
    steps-kept c.args.selected.now c.args.steps.now c.loop-step.step-index c.step-item.result c.loop-step-test.true before c.take_step.new.comparison (rw (← c.step-item.is) taken)
