use Rattle.std.proofs.Common.{sym, subst}
use Rattle.std.specs.Box.{box_value}
use Rattle.followed_traces.specs.Inside.Watched.{ReceiverUnderWay, would_be_followed}
use Rattle.followed_traces.proofs.FollowedTrace.{under_way, looked}
use Rattle.followed_traces.proofs.following.FollowingTakeEntries.look.Goals as goal

pub returns : goal.returns
returns c =
    subst (λ (now : ReceiverUnderWay). would_be_followed now c.args.channel c.args.input.now c.look.result)
    (sym (under_way c.deref.result.now (box_value c.self.inside.receiver) c.self.inside.happened c.args.self.now c.deref.ensures c.self.view_is))
    (looked _ c.from.result c.args.channel c.args.input.now c.look.result c.from.ensures c.look.ensures.flow)
