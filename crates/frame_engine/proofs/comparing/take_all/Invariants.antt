use Rattle.std.proofs.Common.{take}
use Rattle.frame_comparison.specs.Aligned.{with_all}
use Rattle.frame_comparison.specs.Compared.{Comparison}
use Rattle.frame_engine.specs.Compared.{arrivals_of_steps}
use Rattle.frame_engine.specs.Comparing.{IsKeptOf}
use Rattle.frame_engine.proofs.comparing.take_all.Given as goal

abbrev pub invariant-loop-step : goal.invariant-loop-step
invariant-loop-step l =
    (before : Comparison) → IsKeptOf before l.fn.comparison → IsKeptOf (with_all (arrivals_of_steps l.selected (take l.step-index l.steps)) before) l.comparison
