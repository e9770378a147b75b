use Rattle.std.proofs.Common.{[]}
use Rattle.std.specs.Prelude.{flat_map}
use Rattle.std.proofs.lemmas.Result.{err_from_is_err_and}
use Rattle.texts.specs.Join.{IsJoined, IsJoinFault, frame_line}
use Rattle.texts.specs.Join.Line.{join_format}
use Rattle.engines.proofs.EngineRan.{ran-unread, ran-written, ran-failed}
use Rattle.engines.proofs.JoinedText.{joined_text, join_fault}
use Rattle.engines.proofs.join.join_text.Goals as goal

pub returns-in_err-joined : goal.returns-in_err-joined
returns-in_err-joined g c =
    let p = err_from_is_err_and c.from_residual.result c.from_residual.ensures.1 in
    rw (p.1, p.2) (ran-unread g.R.Read.remaining g.W.Write.contents IsJoined IsJoinFault join_format [] join_fault c.args.reader.now c.read_lines.new.reader c.args.writer.now
    c.in_err-joined.field-0.0 (c.in_err-joined.ensures.cause [] c.new.ensures) c.in_err-joined.ensures.read_first)

pub returns-in_err-write_frames : goal.returns-in_err-write_frames
returns-in_err-write_frames g c =
    let p = err_from_is_err_and c.from_residual-in_err-write_frames.result c.from_residual-in_err-write_frames.ensures.1 in
    let read = c.in_ok-joined.ensures.read [] c.new.ensures in
    let text = flat_map frame_line c.in_ok-joined.joined.frames.items in
    rw (p.1, p.2) (ran-failed g.R.Read.remaining g.W.Write.contents IsJoined IsJoinFault c.args.reader.now c.read_lines.new.reader c.args.writer.now c.write_frames.new.writer
    read.input text read.is (joined_text _ c.in_ok-joined.joined read) c.in_ok-joined.ensures.to_end c.in_err-write_frames.field-0.0 (rw c.in_err-write_frames.was at c.write_frames.ensures))

pub returns : goal.returns
returns g c =
    let read = c.in_ok-joined.ensures.read [] c.new.ensures in
    let text = flat_map frame_line c.in_ok-joined.joined.frames.items in
    ran-written g.R.Read.remaining g.W.Write.contents IsJoined IsJoinFault c.args.reader.now c.read_lines.new.reader c.args.writer.now c.write_frames.new.writer
    read.input text read.is (joined_text _ c.in_ok-joined.joined read) c.in_ok-joined.ensures.to_end c.in_ok-write_frames.field-0 c.requires.writer.0 (rw c.in_ok-write_frames.was at c.write_frames.ensures)
