use Rattle.loss_rule.proofs.LeastNumber.{IsLeastBelow}
use Rattle.loss_rule.proofs.last_numbers.LastNumbers.nearest.Given as goal

abbrev pub invariant-loop-channel : goal.invariant-loop-channel
invariant-loop-channel l = IsLeastBelow l.fn.self.reached.at l.fn.self.channels.items l.channel l.nearest
