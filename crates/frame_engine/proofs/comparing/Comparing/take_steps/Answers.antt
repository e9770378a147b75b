-- What is told and listed changes nothing of what is compared.
use Rattle.frame_engine.specs.Compared.{arrivals_of_steps}
use Rattle.frame_engine.proofs.Explained.{takes-kept, explains-kept}
use Rattle.frame_engine.proofs.comparing.Comparing.take_steps.Goals as goal

pub returns-clause-takes : goal.returns-clause-takes
returns-clause-takes c =
    takes-kept (arrivals_of_steps c.args.selected.now c.args.steps.now) c.args.self.now c.tell_steps.new.self c.compare_steps.new.self c.explain.new.self c.tell_steps.ensures.comparison c.compare_steps.ensures.takes c.explain.ensures.comparison

pub returns-clause-explains : goal.returns-clause-explains
returns-clause-explains c = (
  c.tell_steps.new.self.reasons,
  c.tell_steps.ensures.tells,
  explains-kept c.compare_steps.new.self.comparison c.explain.new.self.comparison c.tell_steps.new.self.reasons c.compare_steps.new.self.reasons c.explain.new.self.reasons
      c.explain.ensures.comparison c.compare_steps.ensures.reasons c.explain.ensures.explains,
)
