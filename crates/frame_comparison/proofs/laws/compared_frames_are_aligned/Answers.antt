use Rattle.frame_comparison.proofs.Arrivals.{came-aligned, finished-aligned, came-few}
use Rattle.frame_comparison.proofs.laws.compared_frames_are_aligned.Goals as goal

pub returns-clause-while_they_come : goal.returns-clause-while_they_come
returns-clause-while_they_come c = came-aligned

pub returns-clause-at_the_end : goal.returns-clause-at_the_end
returns-clause-at_the_end c = finished-aligned

pub returns-clause-few_wait : goal.returns-clause-few_wait
returns-clause-few_wait c = came-few
