use Rattle.std.proofs.lemmas.Result.{err_from_is_err_and}
use Rattle.capture_engines.proofs.Pieces.{some_more, some_fault}
use Rattle.capture_engines.proofs.map_reading.MapReading.take_piece.Goals as goal

pub loop-rest-preserved : goal.loop-rest-preserved
loop-rest-preserved c =
    some_more c.args.self.now c.loop-rest.self c.take_some.new.self c.args.piece.now c.loop-rest.rest.now c.in_ok-rest.rest.now c.loop-rest.invariant c.in_ok-rest.ensures.taken

pub returns-in_err-rest-clause-fault : goal.returns-in_err-rest-clause-fault
returns-in_err-rest-clause-fault c =
    let p = err_from_is_err_and c.from_residual.result c.from_residual.ensures.1 in
    rw (p.1, p.2)
    (some_fault c.args.self.now c.loop-rest.self c.args.piece.now c.loop-rest.rest.now c.in_err-rest.field-0.0 c.loop-rest.invariant c.in_err-rest.ensures.fault)
