use Rattle.answers.proofs.NoWalk.{too_great, no_walk}
use Rattle.answers.proofs.some_numbers_have_no_walk.Goals as goal

pub returns : goal.returns
returns c = (too_great, no_walk)
