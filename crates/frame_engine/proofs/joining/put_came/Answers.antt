-- What waited was put into the file, and compared.
use Rattle.std.proofs.Common.{List, subst}
use Rattle.timed_frames.specs.declared.timed_step.TimedStep.{TimedStep}
use Rattle.frame_engine.specs.Compared.{arrivals_of_steps}
use Rattle.frame_engine.specs.Comparing.{Takes}
use Rattle.frame_engine.specs.Explaining.{ExplainsAfter}
use Rattle.frame_reasons.specs.Told.{told_in_steps}
use Rattle.frame_engine.proofs.joining.put_came.Goals as goal

pub returns-clause-compared : goal.returns-clause-compared
returns-clause-compared c =
    subst (λ (steps : List TimedStep). Takes (arrivals_of_steps c.args.selected.now steps) c.args.comparing.now c.take_steps.new.self) c.waiting-3.ensures c.take_steps.ensures.takes

pub returns-clause-explained : goal.returns-clause-explained
returns-clause-explained c =
    subst (λ (steps : List TimedStep). ExplainsAfter (told_in_steps steps) c.take_steps.new.self.comparison c.args.comparing.now.reasons c.take_steps.new.self.reasons) c.waiting-3.ensures
    c.take_steps.ensures.explains
