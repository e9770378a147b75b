-- What is listed changes nothing of what is compared.
use Rattle.frame_engine.proofs.Explained.{finished-kept, explains-kept}
use Rattle.frame_engine.proofs.comparing.Comparing.finish.Goals as goal

pub returns-clause-finishes : goal.returns-clause-finishes
returns-clause-finishes c = finished-kept c.args.self.now c.finish_comparison.new.self c.explain.new.self c.finish_comparison.ensures.finishes c.explain.ensures.comparison

pub returns-clause-explains : goal.returns-clause-explains
returns-clause-explains c =
    explains-kept c.finish_comparison.new.self.comparison c.explain.new.self.comparison c.args.self.now.reasons c.finish_comparison.new.self.reasons c.explain.new.self.reasons
    c.explain.ensures.comparison c.finish_comparison.ensures.reasons c.explain.ensures.explains
