-- Of those that were looked at, the last old one is known.
use Rattle.capture_rules.proofs.HeldSoFar.{IsLastOldTo}
use Rattle.capture_rules.proofs.held_times.HeldTimes.skip_to.Given as goal

abbrev pub invariant-loop-one : goal.invariant-loop-one
invariant-loop-one l = IsLastOldTo l.self.wait l.now l.expected l.self.held.items l.one-index l.last
