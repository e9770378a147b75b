use Rattle.flow_core.proofs.Draining.{draining-onward, draining-ends, draining-skipped, draining-near}
use Rattle.flow_core.proofs.laws.draining_ends.Goals as goal

pub returns-clause-onward : goal.returns-clause-onward
returns-clause-onward c = λ check flow_record flow events answers x y given fates s is. draining-onward check flow_record flow events answers y given fates s is x

pub returns-clause-kept : goal.returns-clause-kept
returns-clause-kept c = λ check flow_record flow events answers i y given fates s is. draining-ends check flow_record flow events answers y given fates s is i

pub returns-clause-expected : goal.returns-clause-expected
returns-clause-expected c = λ check flow_record flow events answers x y given fates s is. draining-near check flow_record flow events answers y given fates s is x

pub returns-clause-skipped : goal.returns-clause-skipped
returns-clause-skipped c = λ check flow_record flow events answers x y i given fates s is. draining-skipped check flow_record flow events answers y given fates s is x i
