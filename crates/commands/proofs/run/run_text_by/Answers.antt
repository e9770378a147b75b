use Rattle.std.proofs.Common.{refl, rules}
use Rattle.std.proofs.lemmas.Result.{err_from_is_err_and}
use Rattle.texts.specs.Replay.{IsReportFault}
use Rattle.texts.specs.Report.{report_text}
use Rattle.texts.specs.Run.{IsRunTextBy}
use Rattle.texts.specs.Trace.Place.{nothing_said, trace_format}
use Rattle.engines.proofs.EngineRan.{ran-refused, ran-unread, ran-written, ran-failed}
use Rattle.commands.proofs.TraceRead.{trace_read, trace_fault}
use Rattle.commands.proofs.run.run_text_by.Goals as goal

pub returns-in_err-new : goal.returns-in_err-new
returns-in_err-new g c =
    let p = err_from_is_err_and c.from_residual.result c.from_residual.ensures.1 in
    rw (p.1, p.2) (ran-refused g.R.Read.remaining g.W.Write.contents (IsRunTextBy c.args.rule c.args.ring c.args.mailbox) (IsReportFault c.args.ring) c.args.reader.now c.args.writer.now c.requires.reader)

pub returns-in_err-reading : goal.returns-in_err-reading
returns-in_err-reading g c =
    let p = err_from_is_err_and c.from_residual-in_err-reading.result c.from_residual-in_err-reading.ensures.1 in
    let ring = c.args.ring in
    rw (p.1, p.2) (ran-unread g.R.Read.remaining g.W.Write.contents (IsRunTextBy c.args.rule ring c.args.mailbox) (IsReportFault ring) trace_format (nothing_said ring) (trace_fault ring)
    c.args.reader.now c.read_lines.new.reader c.args.writer.now c.in_err-reading.field-0.0 (c.in_err-reading.ensures.cause (nothing_said ring) c.in_ok-new.ensures)
    c.in_err-reading.ensures.read_first)

pub run_trace-requires : goal.run_trace-requires
run_trace-requires g c =
    let ring = c.args.ring in
    let read = c.in_ok-reading.ensures.read (nothing_said ring) c.in_ok-new.ensures in
    let is = trace_read ring c.args.mailbox _ c.in_ok-reading.reading read c.into_trace-trace.result c.into_trace-trace.ensures in
    let can = c.trace_passes_the_checks.ensures ring c.args.mailbox read.input c.into_trace-trace.result c.requires.ring is in
    search rules

pub returns-in_err-write_report : goal.returns-in_err-write_report
returns-in_err-write_report g c =
    let p = err_from_is_err_and c.from_residual-in_err-write_report.result c.from_residual-in_err-write_report.ensures.1 in
    let ring = c.args.ring in
    let read = c.in_ok-reading.ensures.read (nothing_said ring) c.in_ok-new.ensures in
    let is = trace_read ring c.args.mailbox _ c.in_ok-reading.reading read c.into_trace-trace.result c.into_trace-trace.ensures in
    let outcome = c.in_ok-outcome.outcome in
    rw (p.1, p.2) (ran-failed g.R.Read.remaining g.W.Write.contents (IsRunTextBy c.args.rule ring c.args.mailbox) (IsReportFault ring) c.args.reader.now c.read_lines.new.reader
    c.args.writer.now c.write_report.new.writer read.input (report_text outcome) read.is
    (record { trace = c.into_trace-trace.result; is_trace = is; outcome = outcome; received = c.in_ok-outcome.ensures; printed = refl })
    c.in_ok-reading.ensures.to_end c.in_err-write_report.field-0.0 (rw c.in_err-write_report.was at c.write_report.ensures))

pub returns : goal.returns
returns g c =
    let ring = c.args.ring in
    let read = c.in_ok-reading.ensures.read (nothing_said ring) c.in_ok-new.ensures in
    let is = trace_read ring c.args.mailbox _ c.in_ok-reading.reading read c.into_trace-trace.result c.into_trace-trace.ensures in
    let outcome = c.in_ok-outcome.outcome in
    ran-written g.R.Read.remaining g.W.Write.contents (IsRunTextBy c.args.rule ring c.args.mailbox) (IsReportFault ring) c.args.reader.now c.read_lines.new.reader
    c.args.writer.now c.write_report.new.writer read.input (report_text outcome) read.is
    (record { trace = c.into_trace-trace.result; is_trace = is; outcome = outcome; received = c.in_ok-outcome.ensures; printed = refl })
    c.in_ok-reading.ensures.to_end c.in_ok-write_report.field-0 c.requires.writer.0 (rw c.in_ok-write_report.was at c.write_report.ensures)
