-- What a call answers, as a number, and for which answer of a receiver.
use Rattle.std.specs.Prelude.{ℕ, ◌+◌, Bool, true, false, Result, Ok, Err}
use Rattle.flow_records.specs.declared.record.SetupFault.TheVariants as setup_fault
use Rattle.lane.specs.declared.sids.LaneFault.TheVariants as lane_fault
use Rattle.lane.specs.Report.{refusal_number}
use Rattle.bonded_flows.specs.declared.decision.FlowDecision.{FlowDecision}
use Rattle.bonded_flows.specs.declared.flow_slot.NotReady.{NotReady}
use Rattle.bonded_flows.specs.declared.flow_slot.NotReady.TheVariants as not_ready
use Rattle.bonded_flows.specs.declared.flow_slot.DecideFault.{DecideFault}
use Rattle.bonded_flows.specs.declared.flow_slot.DecideFault.TheVariants as decide_fault
use Rattle.bonded_flows.specs.declared.told.SegmentVerdict.{SegmentVerdict}
use Rattle.bonded_flows.specs.declared.told.SegmentVerdict.TheVariants as verdict
use Rattle.bonded_flows.specs.ByRule.{is_in_range}
use Rattle.receiver.specs.declared.reply.Reply.{Reply}
use Rattle.receiver.specs.declared.reply.Reply.TheVariants as reply
use Rattle.receiver.specs.declared.reply.TakeError.{TakeError}
use Rattle.receiver.specs.declared.reply.TakeError.TheVariants as take_error
use Rattle.receiver.specs.declared.reply.DecisionReply.{DecisionReply}
use Rattle.receiver.specs.declared.reply.DecisionReply.TheVariants as decision_reply
use Rattle.receiver.specs.declared.reply.RestartError.{RestartError}
use Rattle.receiver.specs.declared.reply.RestartError.TheVariants as restart_error
use Rattle.receiver.specs.declared.setup.SetupError.{SetupError}
use Rattle.receiver.specs.declared.setup.SetupError.TheVariants as setup_error
use Rattle.receiver.specs.declared.width.WidthFault.{WidthFault}
use Rattle.receiver.specs.declared.width.WidthFault.TheVariants as width_fault
use Rattle.c_receiver.specs.declared.status.Status.{Status}
use Rattle.c_receiver.specs.declared.status.Status.TheVariants as status
use Rattle.c_receiver.specs.declared.status.MakeFault.{MakeFault}
use Rattle.c_receiver.specs.declared.status.MakeFault.TheVariants as make_fault

-- ---- the numbers, as `segrx.h` has them
abbrev pub number_of_width : WidthFault → ℕ
number_of_width width_fault.NoChannel = 20
number_of_width width_fault.TooManyChannels = 21
number_of_width width_fault.NoFlow = 22
number_of_width width_fault.TooManyFlows = 23

abbrev pub number_of_setup : SetupError → ℕ
number_of_setup (setup_error.Flows setup_fault.TooManyFlows) = 24
number_of_setup (setup_error.Flows (setup_fault.BadFlow k)) = 25
number_of_setup (setup_error.Flows (setup_fault.SameSfid k)) = 26
number_of_setup (setup_error.Flows setup_fault.OutOfMemory) = 11
number_of_setup (setup_error.Rows (lane_fault.SidRange k)) = 27
number_of_setup (setup_error.Rows (lane_fault.SameSid k)) = 28
number_of_setup (setup_error.Rows (lane_fault.UnknownFlow k)) = 29
number_of_setup (setup_error.Rows lane_fault.OutOfMemory) = 11
number_of_setup setup_error.OutOfMemory = 11

abbrev pub status_number : Status → ℕ
status_number status.Done = 0
status_number status.Null = 1
status_number status.NoChannel = 2
status_number status.NoFlow = 3
status_number status.NumberRange = 4
status_number status.UnknownDecision = 6
status_number status.Nothing = 7
status_number status.RoomTooSmall = 8
status_number status.Closed = 9
status_number status.FlowClosing = 10
status_number status.OutOfMemory = 11
status_number status.Unfinished = 12
status_number status.NotKept = 13
status_number status.Late = 14
status_number status.Repeat = 15
status_number status.Beyond = 16
status_number status.LengthRange = 17
status_number (status.Refused refusal) = 32 + refusal_number refusal

abbrev pub fault_number : MakeFault → ℕ
fault_number make_fault.UnknownRule = 5
fault_number (make_fault.Width fault) = number_of_width fault
fault_number (make_fault.Setup error) = number_of_setup error
fault_number make_fault.OutOfMemory = 11

-- ---- the status for what a receiver answered
abbrev pub of_not_ready : NotReady → Status
of_not_ready not_ready.OutOfMemory = status.OutOfMemory
of_not_ready not_ready.Closing = status.FlowClosing

abbrev pub of_verdict : SegmentVerdict → Status
of_verdict verdict.Kept = status.Done
of_verdict verdict.Late = status.Late
of_verdict verdict.Repeat = status.Repeat
of_verdict verdict.Beyond = status.Beyond

abbrev pub of_take : Result Reply TakeError → Status
of_take (Ok reply.Granted) = status.Done
of_take (Ok (reply.Admitted flow sequence told)) = of_verdict told.verdict
of_take (Ok (reply.Refused refusal)) = status.Refused refusal
of_take (Err (take_error.NoChannel back)) = status.NoChannel
of_take (Err (take_error.NotTaken back why)) = of_not_ready why
of_take (Err (take_error.Unfinished flow)) = status.Unfinished

-- a decision is passed over for its number where that is above 8191, and else for its flow
abbrev pub passed_over : Bool → Status
passed_over true = status.NoFlow
passed_over false = status.NumberRange

abbrev pub of_decide : FlowDecision → Result DecisionReply DecideFault → Status
of_decide decision (Ok decision_reply.PassedOver) = passed_over (is_in_range decision)
of_decide decision (Ok (decision_reply.Taken lost)) = status.Done
of_decide decision (Err (decide_fault.NotTaken why)) = of_not_ready why
of_decide decision (Err decide_fault.Unfinished) = status.Unfinished

abbrev pub of_restart_error : RestartError → Status
of_restart_error restart_error.NoFlow = status.NoFlow
of_restart_error restart_error.NumberRange = status.NumberRange
of_restart_error restart_error.OutOfMemory = status.OutOfMemory

-- what is told: that something is missing in the queue, if it is
abbrev pub told : Bool → Status → Status
told true answer = answer
told false answer = status.NotKept
