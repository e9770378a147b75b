-- What is handed in to a receiver that takes one input at a time, and what it is to the flows.
use Rattle.std.specs.Prelude.{ℕ, ◌==◌, ◌&&◌, nat_lt, Option, Some, None, List, filter_map, if◌then◌else◌}
use Rattle.std.specs.Option.{option_map}
use Rattle.flow_records.specs.declared.record.FlowRecord.{FlowRecord}
use Rattle.lane.specs.declared.admitted.Admitted.{Admitted}
use Rattle.lane.specs.Inputs.{AnsweredInput, LaneSetup}
use Rattle.lane.specs.Report.{admitted_by}
use Rattle.loss_rule.specs.declared.rule.LossRule.{LossRule}
use Rattle.loss_rule.specs.Rule.{Coming, on_channel, handed_in}
use Rattle.bonded_flows.specs.declared.decision.FlowDecision.{FlowDecision}
use Rattle.bonded_flows.specs.ByRule.{decision_event, is_in_range}
use Rattle.bonded_flows.specs.FlowSetup.{FlowSetup}
use Rattle.bonded_flows.specs.Parts.{comes, begins_anew, last_part, begun_at}
use Rattle.bonded_flows.specs.Table.{TableSetup, TableInput, flow_setup, inputs_at}
use Rattle.receiver.specs.declared.setup.Setup.{Setup}

-- One thing that is handed in: an input on a channel, with the answer of the channel's lane; a
-- decision about the flow with this index; or that the flow with this index begins anew at a
-- number.
pub data HandedIn : Type 0 where
  came : ℕ → AnsweredInput → HandedIn
  decided : ℕ → FlowDecision → HandedIn
  restarted : ℕ → ℕ → HandedIn

-- what came on this channel, each input with its answer, in order
abbrev pub came_on : ℕ → HandedIn → Option AnsweredInput
came_on channel (came other one) = if other == channel then Some one else None
came_on channel (decided flow decision) = None
came_on channel (restarted flow first) = None

abbrev pub answered_on : ℕ → List HandedIn → List AnsweredInput
answered_on channel handed = filter_map (came_on channel) handed

-- an admitted segment comes to its flow on its channel
abbrev pub arrives_on : ℕ → Admitted → TableInput
arrives_on channel admitted = record { flow = admitted.flow; input = comes (on_channel channel admitted.segment) }

-- a decision comes to its flow
abbrev pub decides_of : ℕ → FlowDecision → TableInput
decides_of flow decision = record { flow = flow; input = comes (handed_in (decision_event decision)) }

-- What it is to the flows, where there are so many: of an input the segment that is admitted; a
-- decision that names a flow, and no number above 8191; a flow that begins anew.
abbrev pub flow_input_of : ℕ → HandedIn → Option TableInput
flow_input_of flow_count (came channel one) = option_map (arrives_on channel) (admitted_by one.answer)
flow_input_of flow_count (decided flow decision) =
    if nat_lt flow flow_count && is_in_range decision then Some (decides_of flow decision) else None
flow_input_of flow_count (restarted flow first) = Some (record { flow = flow; input = begins_anew first })

abbrev pub flow_inputs : ℕ → List HandedIn → List TableInput
flow_inputs flow_count handed = filter_map (flow_input_of flow_count) handed

-- what a receiver by this rule, of so many channels, is made with
abbrev pub made_of : LossRule → ℕ → Setup → TableSetup
made_of rule channels setup = record { rule = rule; records = setup.flows.items; channels = channels; rows = setup.sids.items }

-- what its lane of this channel is opened with
abbrev pub lane_of : TableSetup → ℕ → LaneSetup
lane_of made channel = record { channel = channel; rows = made.rows; records = made.records }

-- what flow k, which has this record, is made with since it was begun or began anew, and all that
-- came to it since
abbrev pub begun_with : TableSetup → ℕ → FlowRecord → List TableInput → FlowSetup
begun_with made k flow_record history = begun_at (flow_setup made k flow_record) (last_part (flow_setup made k flow_record) (inputs_at k history)).first

abbrev pub came_since : TableSetup → ℕ → FlowRecord → List TableInput → List Coming
came_since made k flow_record history = (last_part (flow_setup made k flow_record) (inputs_at k history)).comings
