-- The queues that were there are there, and those that were opened are empty.
use Rattle.std.proofs.Common.{◌≡◌, ℕ, ◌+◌, ◌-◌, length}
use Rattle.capture_rules.specs.Inside.Numbers.{numbers_on}
use Rattle.capture_rules.proofs.waiting_numbers.WaitingNumbers.open.Given as goal

abbrev pub invariant-loop-alloc : goal.invariant-loop-alloc
invariant-loop-alloc l = (other : ℕ) → numbers_on l.self other ≡ numbers_on l.initial.self other

abbrev pub decreases-loop-alloc : goal.decreases-loop-alloc
decreases-loop-alloc l = l.channel + 1 - length l.self.channels.items
