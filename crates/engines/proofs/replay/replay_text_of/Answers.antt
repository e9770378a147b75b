use Rattle.std.proofs.Common.{refl}
use Rattle.std.proofs.lemmas.Result.{err_from_is_err_and}
use Rattle.texts.specs.Inside.TraceInput.{taking_format}
use Rattle.texts.specs.Replay.{IsReplayFault}
use Rattle.texts.specs.Selected.{IsReplayedOf, report_of}
use Rattle.engines.proofs.EngineRan.{ran-refused, ran-unread, ran-written, ran-failed}
use Rattle.engines.proofs.TraceText.{part_replayed, lines_fault}
use Rattle.engines.proofs.replay.replay_text_of.Goals as goal

pub returns-in_err-replay : goal.returns-in_err-replay
returns-in_err-replay g c =
    let p = err_from_is_err_and c.from_residual.result c.from_residual.ensures.1 in
    rw (p.1, p.2) (ran-refused g.R.Read.remaining g.W.Write.contents (IsReplayedOf c.args.selected.now c.args.rule) IsReplayFault c.args.reader.now c.args.writer.now c.requires.reader)

pub returns-in_err-lines : goal.returns-in_err-lines
returns-in_err-lines g c =
    let p = err_from_is_err_and c.from_residual-in_err-lines.result c.from_residual-in_err-lines.ensures.1 in
    rw (p.1, p.2) (ran-unread g.R.Read.remaining g.W.Write.contents (IsReplayedOf c.args.selected.now c.args.rule) IsReplayFault taking_format _ (lines_fault _ refl)
    c.args.reader.now c.read_lines.new.reader c.args.writer.now c.in_err-lines.field-0.0 (c.in_err-lines.ensures.cause _ c.in_ok-replay.ensures)
    c.in_err-lines.ensures.read_first)

pub finish-requires : goal.finish-requires
finish-requires g c = let read = c.in_ok-lines.ensures.read _ c.in_ok-replay.ensures in (read.state, read.stands)

pub returns-in_err-write_report_of : goal.returns-in_err-write_report_of
returns-in_err-write_report_of g c =
    let p = err_from_is_err_and c.from_residual-in_err-write_report_of.result c.from_residual-in_err-write_report_of.ensures.1 in
    let read = c.in_ok-lines.ensures.read _ c.in_ok-replay.ensures in
    let outcome = c.in_ok-outcome.outcome in
    rw (p.1, p.2) (ran-failed g.R.Read.remaining g.W.Write.contents (IsReplayedOf c.args.selected.now c.args.rule) IsReplayFault c.args.reader.now c.read_lines.new.reader c.args.writer.now
    c.write_report_of.new.writer read.input (report_of c.args.selected.now outcome) read.is (part_replayed c.args.selected.now _ _ _ c.in_ok-lines.lines outcome refl refl read c.in_ok-outcome.ensures c.other_payloads_change_no_selected_flow.ensures.either_side c.stand_ins_give_a_part_of_the_whole_text.ensures.replay)
    c.in_ok-lines.ensures.to_end c.in_err-write_report_of.field-0.0 (rw c.in_err-write_report_of.was at c.write_report_of.ensures))

pub returns : goal.returns
returns g c =
    let read = c.in_ok-lines.ensures.read _ c.in_ok-replay.ensures in
    let outcome = c.in_ok-outcome.outcome in
    ran-written g.R.Read.remaining g.W.Write.contents (IsReplayedOf c.args.selected.now c.args.rule) IsReplayFault c.args.reader.now c.read_lines.new.reader c.args.writer.now
    c.write_report_of.new.writer read.input (report_of c.args.selected.now outcome) read.is (part_replayed c.args.selected.now _ _ _ c.in_ok-lines.lines outcome refl refl read c.in_ok-outcome.ensures c.other_payloads_change_no_selected_flow.ensures.either_side c.stand_ins_give_a_part_of_the_whole_text.ensures.replay)
    c.in_ok-lines.ensures.to_end c.in_ok-write_report_of.field-0 c.requires.writer.0 (rw c.in_ok-write_report_of.was at c.write_report_of.ensures)
