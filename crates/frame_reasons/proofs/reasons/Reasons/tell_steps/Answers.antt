use Rattle.std.proofs.Common.{◌∙◌, refl}
use Rattle.frame_reasons.proofs.Telling.{tells_more, tells_nothing}
use Rattle.frame_reasons.proofs.reasons.Reasons.tell_steps.Goals as goal

pub loop-step-init : goal.loop-step-init
loop-step-init c = record { tells = tells_nothing c.args.self.now.fates; listed = refl }

pub loop-step-preserved : goal.loop-step-preserved
loop-step-preserved c = record {
  tells = tells_more c.args.steps.now c.loop-step.step-index c.step-item.result c.args.self.now.fates c.loop-step.self.fates c.tell_step.new.self.fates c.loop-step-test.true
      c.loop-step.invariant.tells (rw (← c.step-item.is) c.tell_step.ensures.tells);
  listed = c.tell_step.ensures.listed ∙ c.loop-step.invariant.listed;
}
