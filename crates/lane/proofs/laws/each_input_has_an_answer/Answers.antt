use Rattle.lane.specs.Limits.{channel_limit}
use Rattle.lane.proofs.LaneAnswers.{answer-to, answers-to-all}
use Rattle.lane.proofs.laws.each_input_has_an_answer.Goals as goal

pub returns-clause-next : goal.returns-clause-next
returns-clause-next c = λ setup taken input can answered has. answer-to channel_limit setup can taken answered input has

pub returns-clause-all : goal.returns-clause-all
returns-clause-all c = λ setup inputs can has. answers-to-all channel_limit setup can inputs has

pub returns-clause-next_within : goal.returns-clause-next_within
returns-clause-next_within c = λ channels setup taken input can answered has. answer-to channels setup can taken answered input has

pub returns-clause-all_within : goal.returns-clause-all_within
returns-clause-all_within c = λ channels setup inputs can has. answers-to-all channels setup can inputs has
