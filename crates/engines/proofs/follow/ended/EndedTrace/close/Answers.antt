-- The rest was written, or the writer failed, or nothing was written.
use Rattle.std.proofs.Common.{refl}
use Rattle.std.proofs.lemmas.Result.{err_from_is_err_and}
use Rattle.followed_traces.specs.End.{end_text}
use Rattle.engines.proofs.FollowedEnd.{followed_text}
use Rattle.engines.proofs.follow.ended.EndedTrace.close.Goals as goal

pub returns-in_err-end : goal.returns-in_err-end
returns-in_err-end g c = λ rule width settings bytes told has.
    let p = err_from_is_err_and c.from_residual.result c.from_residual.ensures.1 in
    rw (p.1, p.2) refl

pub returns-in_err-write_end : goal.returns-in_err-write_end
returns-in_err-write_end g c = λ rule width settings bytes told has.
    let p = err_from_is_err_and c.from_residual-in_err-write_end.result c.from_residual-in_err-write_end.ensures.1 in
    let to = c.in_ok-end.ensures.to has.state has.stands in
    let wrote = c.in_err-write_end.ensures in
    rw (p.1, p.2) (
      end_text c.args.self.line c.in_ok-end.end,
      followed_text rule width settings bytes told c.args.self has c.in_ok-end.end c.in_ok-end.ensures.settings to,
      wrote.front,
      wrote.failed,
    )

pub returns : goal.returns
returns g c = λ rule width settings bytes told has.
    let to = c.in_ok-end.ensures.to has.state has.stands in
    let wrote = c.in_ok-write_end.ensures in (
      end_text c.args.self.line c.in_ok-end.end,
      followed_text rule width settings bytes told c.args.self has c.in_ok-end.end c.in_ok-end.ensures.settings to,
      wrote.written,
      wrote.left_flushed,
      wrote.sound,
    )
