-- A piece was followed and written, or the writer failed.
use Rattle.std.proofs.Common.{◌++◌}
use Rattle.std.proofs.lemmas.Result.{err_from_is_err_and}
use Rattle.engines.proofs.FollowedLines.{front_either, piece_written}
use Rattle.engines.proofs.follow.Follower.take_piece.Goals as goal

pub returns-in_err-written : goal.returns-in_err-written
returns-in_err-written g c = λ rule width settings bytes told has.
    let p = err_from_is_err_and c.from_residual.result c.from_residual.ensures.1 in
    let wrote = c.write_lines-written.ensures rule width settings bytes told has in
    let front = front_either rule width settings bytes c.args.piece.now (told ++ wrote.0) c.write_lines-written.new.self c.write_lines-written.result.1 wrote.2 in
    let failed = rw c.in_err-written.was at wrote.1 in
    rw (p.1, p.2) (wrote.0, (front, tt, (failed.front, failed.failed)))

pub returns : goal.returns
returns g c = λ rule width settings bytes told has.
    let wrote = c.write_lines-written.ensures rule width settings bytes told has in (
      wrote.0,
      piece_written g.W.Write.contents c.args.writer.now c.write_lines-written.new.writer rule width settings bytes c.args.piece.now told wrote.0
          c.write_lines-written.new.self c.write_lines-written.result.1 c.in_ok-written.field-0 (rw c.in_ok-written.was at wrote.1) wrote.2,
    )
