use Rattle.receiver.proofs.OneReplay.{one-outcome, one-ruled_outcome, intake-faultless}
use Rattle.receiver.proofs.laws.replay_has_one_outcome.Goals as goal

pub returns-clause-one : goal.returns-clause-one
returns-clause-one c = λ check setup lists order outcome other can is are.
    one-outcome setup lists order can check outcome is
    (λ flow_record events frames others counts more one again.
    c.closed_flow_has_one_outcome.ensures check flow_record one.n again.n events frames others counts more one.outcome again.outcome one.closed again.closed)
    other are

pub returns-clause-by_rule : goal.returns-clause-by_rule
returns-clause-by_rule c = λ rule check setup lists order outcome other can is are.
    one-ruled_outcome setup lists order can rule check
    (λ flow_record events frames others counts more one again.
    c.closed_flow_has_one_outcome.ensures check flow_record one.n again.n events frames others counts more one.outcome again.outcome one.closed again.closed)
    outcome other is are

pub returns-clause-faultless : goal.returns-clause-faultless
returns-clause-faultless c = λ check setup lists order outcome k can is. intake-faultless setup lists order can is.intake k

pub returns-clause-faultless_by_rule : goal.returns-clause-faultless_by_rule
returns-clause-faultless_by_rule c = λ rule check setup lists order outcome k can is. intake-faultless setup lists order can is.intake k
