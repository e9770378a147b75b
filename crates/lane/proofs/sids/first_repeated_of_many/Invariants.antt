-- No identifier so far stands in an earlier row, and the table has those of the rows so far.
use Rattle.std.proofs.Common.{◌≡◌, ℕ, ◌<◌, ◌↔◌}
use Rattle.lane.specs.Limits.{sid_limit}
use Rattle.lane.specs.Rows.{IsSidRepeated}
use Rattle.lane.specs.Inside.Seen.{HasMarked}
use Rattle.lane.proofs.SeenRows.{IsAmongFirst}
use Rattle.lane.proofs.sids.first_repeated_of_many.Given as goal

abbrev pub invariant-loop-k : goal.invariant-loop-k
invariant-loop-k l =
    record {
      channels : l.table.channels ≡ l.channels;
      apart : (j : ℕ) → j < l.k → ¬ (IsSidRepeated l.rows j);
      marked : (channel sid : ℕ) → sid < sid_limit → HasMarked l.table channel sid ↔ IsAmongFirst l.rows l.k channel sid;
    }
