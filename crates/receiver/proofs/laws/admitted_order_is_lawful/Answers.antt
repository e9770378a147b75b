use Rattle.receiver.proofs.MergedLists.{admitted-lawful, admitted-faultless}
use Rattle.receiver.proofs.laws.admitted_order_is_lawful.Goals as goal

pub returns-clause-lawful : goal.returns-clause-lawful
returns-clause-lawful c = admitted-lawful

pub returns-clause-faultless : goal.returns-clause-faultless
returns-clause-faultless c = λ setup incoming tags order k can is. admitted-faultless setup incoming tags order can is k
