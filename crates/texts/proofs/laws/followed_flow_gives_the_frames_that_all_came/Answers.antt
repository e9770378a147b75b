-- What a flow gives of a trace that is followed is what a bonded flow gives.
use Rattle.std.proofs.Common.{◌≡◌, List, ◌++◌, Some, subst, arith}
use Rattle.std.specs.Prelude.{slice_get}
use Rattle.std.proofs.lemmas.Option.{slice_get_within}
use Rattle.bonded_flows.specs.Table.{flow_setup}
use Rattle.consumer.specs.Given.{frames_of}
use Rattle.docsis_wire.proofs.StreamPlaces.{element_at}
use Rattle.flow_records.specs.declared.record.FlowRecord.{FlowRecord}
use Rattle.receiver.specs.HandedIn.{made_of}
use Rattle.text_lines.specs.Capacities.{default_capacity}
use Rattle.text_lines.specs.Lines.{lines_of}
use Rattle.texts.specs.AnyHeader.{any_header}
use Rattle.texts.specs.FollowedReport.{came_to}
use Rattle.texts.specs.Trace.Line.{shape_of}
use Rattle.texts.proofs.GivenOfTrace.{gave_of_trace}
use Rattle.texts.proofs.TraceChecks.{read_passes_in}
use Rattle.texts.proofs.laws.followed_flow_gives_the_frames_that_all_came.Goals as goal

pub returns : goal.returns
returns c rule width settings input text k flow_record frames asks is of_flow modem safe =
    let made = made_of rule width.channels is.setup in
    let given = frames_of k (is.given ++ is.rest) in
    let within = slice_get_within is.setup.flows.items k flow_record of_flow in
    let long = is.received.flow_count in
    let counts = element_at is.closed.flows.items k (omega (arith, within, long)) in
    let gave = gave_of_trace any_header made width.channels k flow_record is.handed given counts.0 is.entries.each
    (is.received.flows k flow_record counts.0 of_flow counts.1) in
    let some = width.some_channel in
    let passes = read_passes_in (shape_of width default_capacity) (lines_of input) is.said (omega arith) (omega (arith, some)) is.read in
    let at = subst (λ (records : List FlowRecord). slice_get records k ≡ Some flow_record) is.is_setup.flows of_flow in
    c.bonded_flow_gives_the_frames_that_all_came.ensures any_header frames modem.chunks modem.fill modem.segments (flow_setup made k flow_record)
    (came_to made is.handed k flow_record) modem.index_at given counts.0 asks (passes.flows.each k flow_record at).window_in_range modem.cut modem.in_order
    modem.falls safe gave
