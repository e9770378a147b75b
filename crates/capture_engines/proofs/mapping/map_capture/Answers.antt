use Rattle.std.proofs.lemmas.Result.{err_from_is_err_and}
use Rattle.capture_engines.proofs.MapRan.{mapped-refused, mapped-written, mapped-failed}
use Rattle.capture_engines.proofs.mapping.map_capture.Goals as goal

pub returns-in_err-room : goal.returns-in_err-room
returns-in_err-room g c =
    let p = err_from_is_err_and c.from_residual-in_err-room.result c.from_residual-in_err-room.ensures.1 in
    rw (p.1, p.2) (mapped-refused g.R.Read.remaining g.W.Write.contents c.args.reader.now c.read_capture.new.reader c.args.writer.now)

pub returns-in_err-write_reading : goal.returns-in_err-write_reading
returns-in_err-write_reading g c =
    let p = err_from_is_err_and c.from_residual-in_err-write_reading.result c.from_residual-in_err-write_reading.ensures.1 in
    rw (p.1, p.2)
    (mapped-failed g.R.Read.remaining g.W.Write.contents c.args.reader.now c.read_capture.new.reader c.args.writer.now c.write_reading.new.writer c.in_ok-reading.reading
    c.in_ok-reading.ensures.read c.in_err-write_reading.field-0.0 (rw c.in_err-write_reading.was at c.write_reading.ensures))

pub returns : goal.returns
returns g c =
    mapped-written g.R.Read.remaining g.W.Write.contents c.args.reader.now c.read_capture.new.reader c.args.writer.now c.write_reading.new.writer c.in_ok-reading.reading
    c.in_ok-reading.ensures.read c.in_ok-write_reading.field-0 c.in_ok-reading.ensures.sound c.in_ok-reading.ensures.to_end c.requires.writer.0
    (rw c.in_ok-write_reading.was at c.write_reading.ensures)
