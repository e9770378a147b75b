-- The receiver was closed.
use Rattle.std.proofs.Common.{subst}
use Rattle.std.specs.Box.{box_value}
use Rattle.followed_traces.specs.Inside.Watched.{ReceiverUnderWay, HasFollowed}
use Rattle.followed_traces.proofs.FollowedTrace.{under_way, followed_end}
use Rattle.followed_traces.proofs.following.Following.finish.Goals as goal

pub returns-in-Ok : goal.returns-in-Ok
returns-in-Ok c = λ state rule width setup entries has.
    followed_end state rule width setup entries _ (subst (λ (now : ReceiverUnderWay). HasFollowed state rule width setup entries now) (under_way c.into_inner.result (box_value c.self.inside.receiver) c.self.inside.happened c.args.self c.into_inner.ensures c.self.view_is) has)
    c.in-Ok.closed c.close.new.out c.in-Ok.ensures.closes
