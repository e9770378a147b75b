-- Nothing was handed in, and nothing happened.
use Rattle.std.proofs.Common.{[], sym, subst}
use Rattle.docsis_wire.specs.declared.header_check.NoCheck.{NoCheck}
use Rattle.receiver.specs.declared.receiver.Receiver.{Receiver}
use Rattle.followed_traces.specs.Inside.Watched.{HasFollowed}
use Rattle.followed_traces.proofs.FollowedTrace.{nothing_handed_in}
use Rattle.followed_traces.proofs.following.FollowingTakeEntries.begin.Goals as goal

pub returns : goal.returns
returns c = λ state none.
    subst (λ (receiver : Receiver NoCheck). HasFollowed state c.args.rule c.args.width c.args.setup.now [] (record { receiver = receiver; pending = c.new-3.result }))
    (sym c.in_ok-new.ensures.ok)
    (nothing_handed_in state c.args.rule c.args.width c.args.setup.now c.in-Ok.receiver c.new-3.result none c.in-Ok.ensures.stands c.in-Ok.ensures.settled
    c.new-3.ensures.none)
