use Rattle.lane.specs.Limits.{channel_limit}
use Rattle.lane.proofs.OneLaneAnswer.{one-grant}
use Rattle.lane.proofs.laws.number_has_one_outstanding_grant.Goals as goal

pub returns-clause-one : goal.returns-clause-one
returns-clause-one c = λ setup taken number grant other can answered. one-grant channel_limit setup can taken answered number grant other

pub returns-clause-one_within : goal.returns-clause-one_within
returns-clause-one_within c = λ channels setup taken number grant other can answered. one-grant channels setup can taken answered number grant other
