use Rattle.lane.proofs.LaneReports.{admitted_of-append, requests_of-append, refusal_numbers-append, admitted_count-append}
use Rattle.lane.proofs.laws.reports_are_appended.Goals as goal

pub returns-clause-admitted : goal.returns-clause-admitted
returns-clause-admitted c = admitted_of-append

pub returns-clause-requests : goal.returns-clause-requests
returns-clause-requests c = requests_of-append

pub returns-clause-refused : goal.returns-clause-refused
returns-clause-refused c = refusal_numbers-append

pub returns-clause-count : goal.returns-clause-count
returns-clause-count c = admitted_count-append
