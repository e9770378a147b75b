use Rattle.frame_records.proofs.FirstIds.{one_list, named_in_turn, none_named}
use Rattle.frame_records.proofs.laws.burst_ids_are_given_in_turn.Goals as goal

pub returns-clause-one : goal.returns-clause-one
returns-clause-one c = one_list

pub returns-clause-first : goal.returns-clause-first
returns-clause-first c = named_in_turn

pub returns-clause-end : goal.returns-clause-end
returns-clause-end c = none_named
