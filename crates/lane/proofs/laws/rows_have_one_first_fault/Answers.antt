use Rattle.lane.specs.Limits.{channel_limit}
use Rattle.lane.proofs.RowFaults.{one_fault, fault-refused}
use Rattle.lane.proofs.laws.rows_have_one_first_fault.Goals as goal

pub returns-clause-one : goal.returns-clause-one
returns-clause-one c = one_fault channel_limit

pub returns-clause-none : goal.returns-clause-none
returns-clause-none c = fault-refused channel_limit

pub returns-clause-one_within : goal.returns-clause-one_within
returns-clause-one_within c = one_fault

pub returns-clause-none_within : goal.returns-clause-none_within
returns-clause-none_within c = fault-refused
