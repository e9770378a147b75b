use Rattle.std.proofs.Common.{rules}
use Rattle.std.proofs.lemmas.List.{nil_from_length}
use Rattle.std.proofs.lemmas.Result.{err_from_is_err_and}
use Rattle.frame_engine.proofs.Reading.{some-none, some-more, some-fault}
use Rattle.frame_engine.proofs.Beside.{unread-beside, some-beside, all-beside}
use Rattle.frame_engine.proofs.frame_reading.FrameReading.take_piece.Goals as goal

pub returns-in_err-rest-clause-fault : goal.returns-in_err-rest-clause-fault
returns-in_err-rest-clause-fault c =
    let p = err_from_is_err_and c.from_residual.result c.from_residual.ensures.1 in
    rw (p.1, p.2)
    (some-fault c.args.self.now c.loop-rest.self c.take_some.new.self c.args.piece.now c.loop-rest.rest.now c.in_err-rest.field-0.0 c.loop-rest.invariant.joins
    c.in_err-rest.ensures.fault)

pub loop-rest-init : goal.loop-rest-init
loop-rest-init c = record {
  joins = some-none c.args.self.now c.args.piece.now;
  beside = unread-beside c.args.self.now c.args.piece.now c.args.comparing.now;
  ready = c.requires.ready;
}

pub loop-rest-preserved : goal.loop-rest-preserved
loop-rest-preserved c = record {
  joins =
      some-more c.args.self.now c.loop-rest.self c.take_some.new.self c.args.piece.now c.loop-rest.rest.now c.in_ok-rest.rest.now c.loop-rest.invariant.joins
      c.in_ok-rest.ensures.taken;
  beside =
      some-beside c.args.self.now c.loop-rest.self c.take_some.new.self c.args.piece.now c.loop-rest.rest.now c.in_ok-rest.rest.now c.args.comparing.now c.loop-rest.comparing
      c.take_some.new.comparing c.loop-rest.invariant.beside c.in_ok-rest.ensures.compared;
  ready = c.in_ok-rest.ensures.ready;
}

pub returns-clause-compared : goal.returns-clause-compared
returns-clause-compared c =
    all-beside c.args.self.now c.loop-rest.self c.args.piece.now c.loop-rest.rest.now c.args.comparing.now c.loop-rest.comparing
    (nil_from_length c.loop-rest.rest.now (search rules)) c.loop-rest.invariant.beside
