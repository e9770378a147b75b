-- The receiver was closed, or not, and that was written, or not.
use Rattle.std.proofs.lemmas.Result.{err_from_is_err_and, on_ok_weaker}
use Rattle.frame_engine.proofs.Ended.{closed-or_ended, closed-written}
use Rattle.frame_engine.proofs.joining.Joining.write_closed.Goals as goal

pub returns-in_err-write-clause-written : goal.returns-in_err-write-clause-written
returns-in_err-write-clause-written g c = λ settings capture_map bursts written has.
    let p = err_from_is_err_and c.from_residual.result c.from_residual.ensures.1 in
    rw (p.1, p.2) (
      c.close-file.result.0.bytes.items,
      closed-or_ended settings capture_map bursts written c.args.self c.close-file.result.0 c.close-file.result.1 c.close-file.ensures.closed c.close-file.ensures.file has,
      (c.in_err-write.ensures.front, c.in_err-write.ensures.failed),
    )

pub returns-clause-written : goal.returns-clause-written
returns-clause-written g c = λ settings capture_map bursts written has.
    closed-written settings capture_map g.W.Write.contents bursts written c.args.self c.close-file.result.0 c.close-file.result.1 c.args.writer.now c.write.new.writer
    c.close-file.ensures.closed c.close-file.ensures.file c.close-file.ensures.only has
    (c.in_ok-write.ensures.written, c.in_ok-write.ensures.left_flushed, c.in_ok-write.ensures.sound)

pub returns-clause-compared : goal.returns-clause-compared
returns-clause-compared g c =
    on_ok_weaker c.close-file.result.1
    (λ closes. λ settings capture_map records bursts written has. (
      c.close-file.result.0.bytes.items,
      closes settings capture_map records bursts written has,
      (c.in_ok-write.ensures.written, c.in_ok-write.ensures.left_flushed, c.in_ok-write.ensures.sound),
    ))
    c.close-file.ensures.compared
