use Rattle.lane.specs.Limits.{channel_limit}
use Rattle.lane.proofs.OneLaneAnswer.{one-list-of-answers}
use Rattle.lane.proofs.laws.lane_has_at_most_one_answer_to_each_input.Goals as goal

pub returns-clause-one : goal.returns-clause-one
returns-clause-one c = λ setup taken others can. one-list-of-answers channel_limit setup can taken others

pub returns-clause-one_within : goal.returns-clause-one_within
returns-clause-one_within c = λ channels setup taken others can. one-list-of-answers channels setup can taken others
