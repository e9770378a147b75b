use Rattle.std.proofs.Common.{◌+◌, ◌≤◌, ℕ}
use Rattle.crossbeam_queue.specs.Passes.{view, IsPassOf}
use Rattle.mailbox.specs.Inside.Counting.{Counted}
use Rattle.mailbox.proofs.counting.count_left.Given as goal

abbrev pub invariant-loop : goal.invariant-loop
invariant-loop g l =
    IsPassOf l.queue l.pass
    × ((rounds : ℕ) × Counted (view l.fn.pass) (view l.pass) l.left rounds × (rounds + (goal.iterator-loop g).remaining l.iterator' ≤ (goal.iterator-loop g).remaining l.initial.iterator'))
