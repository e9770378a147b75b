use Rattle.std.proofs.Common.{◌≡◌, [], map, replicate}
use Rattle.frame_comparison.proofs.one_side.OneSide.new.Given as goal

abbrev pub invariant-loop : goal.invariant-loop
invariant-loop l = map (λ queue. queue.items) l.waiting.items ≡ replicate l.counter []
