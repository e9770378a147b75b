-- All was written, or there was a fault.
use Rattle.std.proofs.Common.{◌++◌, refl}
use Rattle.std.proofs.lemmas.Result.{err_from_is_err_and}
use Rattle.engines.proofs.FollowedEnd.{ends_by, ends_pending, ends_closed}
use Rattle.engines.proofs.follow.Follower.finish.Goals as goal

pub returns-in_err-ended : goal.returns-in_err-ended
returns-in_err-ended g c = λ rule width settings bytes told has.
    let p = err_from_is_err_and c.from_residual.result c.from_residual.ensures.1 in
    rw (p.1, p.2)
    (ends_by g.W.Write.contents c.args.writer.now _ rule width settings bytes told c.in_err-ended.field-0.0 refl
    (c.in_err-ended.ensures.fault rule width settings bytes told has))

pub returns-in_err-write_pending : goal.returns-in_err-write_pending
returns-in_err-write_pending g c = λ rule width settings bytes told has.
    let p = err_from_is_err_and c.from_residual-in_err-write_pending.result c.from_residual-in_err-write_pending.ensures.1 in
    let ended = c.in_ok-ended.ensures.end rule width settings bytes told has in
    rw (p.1, p.2)
    (ends_pending g.W.Write.contents c.args.writer.now _ rule width settings bytes told c.in_err-write_pending.field-0.0
    (c.in_err-write_pending.ensures rule width settings bytes told ended))

pub returns : goal.returns
returns g c = λ rule width settings bytes told has.
    let ended = c.in_ok-ended.ensures.end rule width settings bytes told has in
    let wrote = c.in_ok-write_pending.ensures rule width settings bytes told ended in
    ends_closed g.W.Write.contents c.args.writer.now _ rule width settings bytes told wrote.0 _ wrote.1 wrote.2 wrote.3 wrote.4 wrote.5 _ c.close.result
    (c.close.ensures rule width settings bytes (told ++ wrote.0) wrote.1)
