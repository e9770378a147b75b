-- All flows before this one are selected.
use Rattle.std.proofs.Common.{◌≡◌, ℕ, ◌<◌, true}
use Rattle.flow_selection.specs.Selection.{is_selected}
use Rattle.texts.proofs.replay.selected_replay.leaves_none_out.Given as goal

abbrev pub invariant-loop-flow : goal.invariant-loop-flow
invariant-loop-flow l = (k : ℕ) → k < l.flow → is_selected l.selected k ≡ true
