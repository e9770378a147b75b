-- A piece was joined and written, or not.
use Rattle.std.proofs.Common.{◌++◌, refl}
use Rattle.std.proofs.lemmas.Result.{err_from_is_err_and, on_ok_weaker}
use Rattle.frame_engine.specs.declared.frame_reading.FrameReading.{FrameReading}
use Rattle.frame_engine.proofs.Reading.{piece-unwritten, piece-written}
use Rattle.frame_engine.proofs.Beside.{bytes-written-beside}
use Rattle.frame_engine.proofs.frame_reading.FrameReading.join_piece.Goals as goal

pub returns-in_err-write-clause-joins : goal.returns-in_err-write-clause-joins
returns-in_err-write-clause-joins g c = λ settings capture_map bytes written has.
    let p = err_from_is_err_and c.from_residual.result c.from_residual.ensures.1 in
    let mid = c.take_piece-taken.new.self in
    rw (p.1, p.2) (
      mid.joining.file.bytes.items,
      (
        piece-unwritten g.W.Write.contents settings capture_map c.args.self.now mid c.args.piece.now c.take_piece-taken.result bytes written c.take_piece-taken.ensures.taken
            c.take_piece-taken.ensures.fault has,
        tt,
        (c.in_err-write.ensures.front, c.in_err-write.ensures.failed),
      ),
    )

pub returns-clause-joins : goal.returns-clause-joins
returns-clause-joins g c = λ settings capture_map bytes written has.
    let mid = c.take_piece-taken.new.self in
    let new : FrameReading = record mid { joining = record mid.joining { file = c.write.new.self } } in (
      mid.joining.file.bytes.items,
      piece-written g.W.Write.contents settings capture_map c.args.self.now mid new c.args.piece.now c.take_piece-taken.result bytes written c.args.writer.now c.write.new.writer
          c.take_piece-taken.ensures.taken c.take_piece-taken.ensures.fault has refl c.write.ensures.link c.write.ensures.channels c.in_ok-write.ensures.none_left
          (c.in_ok-write.ensures.written, c.in_ok-write.ensures.left_flushed, c.in_ok-write.ensures.sound),
    )

pub returns-clause-compared : goal.returns-clause-compared
returns-clause-compared g c =
    on_ok_weaker c.take_piece-taken.result
    (λ joins. λ settings capture_map bytes written has.
    let mid = c.take_piece-taken.new.self in (
      mid.joining.file.bytes.items,
      bytes-written-beside settings capture_map c.write.new.self (bytes ++ c.args.piece.now) written mid c.take_piece-taken.new.comparing (joins settings capture_map bytes written has)
          c.write.ensures.link c.write.ensures.channels c.in_ok-write.ensures.none_left,
      (c.in_ok-write.ensures.written, c.in_ok-write.ensures.left_flushed, c.in_ok-write.ensures.sound),
    ))
    c.take_piece-taken.ensures.compared
