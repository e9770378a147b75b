use Rattle.receiver.proofs.MergedLists.{merge-lawful, one-merge}
use Rattle.receiver.proofs.laws.lists_have_one_merge.Goals as goal

pub returns-clause-lawful : goal.returns-clause-lawful
returns-clause-lawful g c = merge-lawful

pub returns-clause-one : goal.returns-clause-one
returns-clause-one g c = one-merge
