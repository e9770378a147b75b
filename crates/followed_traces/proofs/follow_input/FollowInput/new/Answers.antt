-- No line was read.
use Rattle.std.proofs.Common.{[], refl}
use Rattle.followed_traces.proofs.follow_input.FollowInput.new.Goals as goal

pub returns-clause-nothing : goal.returns-clause-nothing
returns-clause-nothing c = record { settings = refl; bytes = tt; lines = c.in_ok-new.ensures.lines (record { told = []; settings = c.args.settings }) refl }
