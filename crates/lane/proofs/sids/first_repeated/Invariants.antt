-- No identifier so far stands in an earlier row, and those of the rows so far were seen.
use Rattle.std.proofs.Common.{ℕ, ◌<◌, ◌↔◌}
use Rattle.lane.specs.Rows.{IsSidRepeated}
use Rattle.lane.specs.Inside.Seen.{HasSeen}
use Rattle.lane.proofs.SeenRows.{IsAmongFirst}
use Rattle.lane.proofs.sids.first_repeated.Given as goal

abbrev pub invariant-loop-k : goal.invariant-loop-k
invariant-loop-k l =
    ((j : ℕ) → j < l.k → ¬ (IsSidRepeated l.rows j))
    × ((channel sid : ℕ) → HasSeen l.seen channel sid ↔ IsAmongFirst l.rows l.k channel sid)
