use Rattle.receiver.proofs.FlowComings.{hands-in_decisions}
use Rattle.receiver.proofs.FlowChannels.{row-has_channel, channel-has_row, come-on_own, come-as_admitted, handed-as_decided, nothing-decided}
use Rattle.receiver.proofs.laws.segments_come_on_channels_of_their_flow.Goals as goal

pub returns-clause-channels : goal.returns-clause-channels
returns-clause-channels c = come-on_own

pub returns-clause-rows : goal.returns-clause-rows
returns-clause-rows c = λ setup flow_record k channel below. (
  channel-has_row setup.sids.items k flow_record channel below,
  row-has_channel setup.sids.items k flow_record channel below,
)

pub returns-clause-come : goal.returns-clause-come
returns-clause-come c = come-as_admitted

pub returns-clause-events : goal.returns-clause-events
returns-clause-events c = handed-as_decided

pub returns-clause-decisions : goal.returns-clause-decisions
returns-clause-decisions c = λ setup incoming order intake k. hands-in_decisions k order intake.items

pub returns-clause-no_decision : goal.returns-clause-no_decision
returns-clause-no_decision c = nothing-decided
