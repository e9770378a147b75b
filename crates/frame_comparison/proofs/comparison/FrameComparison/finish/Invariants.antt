use Rattle.std.proofs.Common.{◌≡◌, IsTrue, length}
use Rattle.frame_comparison.specs.Compared.{Comparison, ended_to}
use Rattle.frame_comparison.specs.Seen.{seen_of}
use Rattle.frame_comparison.proofs.comparison.FrameComparison.finish.Given as goal

abbrev pub invariant-loop-flow : goal.invariant-loop-flow
invariant-loop-flow l = IsTrue l.self.is_whole
    × (length l.self.counts ≡ length l.initial.self.counts)
    × ((comparison : Comparison) → l.initial.self ≡ seen_of comparison → l.self ≡ seen_of (ended_to l.flow comparison))
