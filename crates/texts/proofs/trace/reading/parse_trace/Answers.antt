use Rattle.std.proofs.lemmas.Result.{err_from_is_err_and}
use Rattle.texts.specs.Trace.Place.{nothing_said}
use Rattle.texts.proofs.trace.reading.parse_trace.Goals as goal

pub returns-in_err-take_lines-clause-fault : goal.returns-in_err-take_lines-clause-fault
returns-in_err-take_lines-clause-fault c =
    let p = err_from_is_err_and c.from_residual-in_err-take_lines.result c.from_residual-in_err-take_lines.ensures.1 in
    rw (p.1, p.2) (c.in_err-take_lines.ensures.fault (nothing_said c.args.ring) c.in_ok-reading.ensures)

pub returns-clause-trace : goal.returns-clause-trace
returns-clause-trace c =
    let read = c.in_ok-take_lines.ensures.read (nothing_said c.args.ring) c.in_ok-reading.ensures in
    record {
      said = read.0;
      read = read.1;
      given = c.into_trace.ensures read.0 read.2;
    }
