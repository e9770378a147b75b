-- What isn't of a channel is a decision.
use Rattle.std.proofs.Common.{◌≡◌, ℕ, IfOk, subst, arith}
use Rattle.lane.specs.Limits.{channel_limit}
use Rattle.receiver.specs.Items.{incoming_of}
use Rattle.receiver.specs.Playing.{PlaysNext}
use Rattle.receiver.proofs.playing.Playing.take_next.Goals as goal

pub returns-else-sender-lt-CHANNELS-clause-takes : goal.returns-else-sender-lt-CHANNELS-clause-takes
returns-else-sender-lt-CHANNELS-clause-takes g c =
    let of_decisions : channel_limit ≡ c.args.sender = let behind = c.if-sender-lt-CHANNELS.false in let named = c.requires.sender in omega arith in
    subst (λ (sender : ℕ). IfOk c.take_next_decision.result (λ is_item. PlaysNext g.C.HeaderCheck.accepts (incoming_of c.args.lists.now) c.args.self.now
    sender is_item c.take_next_decision.new.self)) of_decisions c.take_next_decision.ensures.takes
