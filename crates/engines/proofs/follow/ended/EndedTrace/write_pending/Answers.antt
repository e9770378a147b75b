-- What was pending was written, or the writer failed, or nothing was written.
use Rattle.std.proofs.Common.{◌≡◌, [], ap}
use Rattle.std.specs.Prelude.{flat_map}
use Rattle.std.proofs.lemmas.Result.{err_from_is_err_and}
use Rattle.texts.specs.Follow.{told_lines}
use Rattle.engines.proofs.FollowedEnd.{pending_unwritten}
use Rattle.engines.proofs.follow.ended.EndedTrace.write_pending.Goals as goal

pub returns-in_err-written : goal.returns-in_err-written
returns-in_err-written g c = λ rule width settings bytes told has.
    let p = err_from_is_err_and c.from_residual.result c.from_residual.ensures.1 in
    let wrote = c.put_pending-written.ensures rule width settings bytes told has in
    rw (p.1, p.2)
    (pending_unwritten g.W.Write.contents c.args.writer.now c.put_pending-written.new.writer rule width settings bytes told wrote.0 c.put_pending-written.new.self
    c.in_err-written.field-0.0 c.put_pending-written.result.1 (rw c.in_err-written.was at wrote.1) wrote.2)

pub returns-in_err-put : goal.returns-in_err-put
returns-in_err-put g c = λ rule width settings bytes told has.
    let p = err_from_is_err_and c.from_residual-in_err-put.result c.from_residual-in_err-put.ensures.1 in
    let wrote = c.put_pending-written.ensures rule width settings bytes told has in
    let none : wrote.0 ≡ [] = rw c.in_err-put.was at wrote.2 in
    rw (p.1, p.2) (wrote.1.untouched (ap (flat_map (told_lines settings)) none))

pub returns : goal.returns
returns g c = λ rule width settings bytes told has.
    let wrote = c.put_pending-written.ensures rule width settings bytes told has in
    let written = rw c.in_ok-written.was at wrote.1 in
    let put = rw c.in_ok-put.was at wrote.2 in
    (wrote.0, put.0, put.1, written.written, written.left_flushed, written.sound)
