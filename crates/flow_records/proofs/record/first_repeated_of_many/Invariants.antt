-- The set has the identifiers of the records so far, of which none stands in an earlier record.
use Rattle.std.proofs.Common.{ℕ, ◌<◌}
use Rattle.flow_records.specs.Setup.{IsRepeated}
use Rattle.flow_records.proofs.SeenIdentifiers.{HasSeen}
use Rattle.flow_records.proofs.record.first_repeated_of_many.Given as goal

abbrev pub invariant-loop-k : goal.invariant-loop-k
invariant-loop-k l =
    record {
      seen : HasSeen l.records l.k l.seen;
      apart : (j : ℕ) → j < l.k → ¬ (IsRepeated l.records j);
    }
