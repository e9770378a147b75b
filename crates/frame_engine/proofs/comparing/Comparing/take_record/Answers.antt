-- What is listed changes nothing of what is compared.
use Rattle.capture.specs.SeenCapture.{capture_parts}
use Rattle.frame_engine.proofs.Explained.{brought-kept, explains-kept}
use Rattle.frame_engine.proofs.comparing.Comparing.take_record.Goals as goal

pub returns-clause-takes : goal.returns-clause-takes
returns-clause-takes c = brought-kept c.args.selected.now c.args.flows.now.map (capture_parts c.args.given.now) c.args.self.now c.compare_record.new.self c.explain.new.self c.compare_record.ensures.takes c.explain.ensures.comparison

pub returns-clause-explains : goal.returns-clause-explains
returns-clause-explains c =
    explains-kept c.compare_record.new.self.comparison c.explain.new.self.comparison c.args.self.now.reasons c.compare_record.new.self.reasons c.explain.new.self.reasons
    c.explain.ensures.comparison c.compare_record.ensures.reasons c.explain.ensures.explains
