use Rattle.receiver.proofs.ChannelInputs.{items-admitted, requests-asked}
use Rattle.receiver.proofs.laws.admitted_segments_are_of_the_flows.Goals as goal

pub returns-clause-items : goal.returns-clause-items
returns-clause-items c = items-admitted

pub returns-clause-requests : goal.returns-clause-requests
returns-clause-requests c = requests-asked
