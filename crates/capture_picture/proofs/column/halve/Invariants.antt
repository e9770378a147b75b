use Rattle.std.proofs.Common.{◌≡◌, ℕ, ◌<◌, ◌≤◌, get_or}
use Rattle.capture_picture.specs.Columns.{no_column, pair_at}
use Rattle.capture_picture.proofs.column.halve.Given as goal

-- the columns below the place are pairs of what there was, and the others are as they were
abbrev pub invariant-loop-place : goal.invariant-loop-place
invariant-loop-place l =
    ((k : ℕ) → k < l.place → get_or l.columns k no_column ≡ pair_at l.initial.columns k)
    × ((k : ℕ) → l.place ≤ k → get_or l.columns k no_column ≡ get_or l.initial.columns k no_column)
