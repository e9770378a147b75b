use Rattle.engines.proofs.FollowedLines.{followed_nothing}
use Rattle.engines.proofs.follow.Follower.new.Goals as goal

pub returns : goal.returns
returns c =
    let fresh = c.in_ok-new.ensures in
    followed_nothing c.args.rule c.args.width c.args.settings _ fresh.settings c.new.ensures fresh.nothing fresh.put
