-- Where no fault is found there is none.
use Rattle.std.proofs.Common.{ℕ, MatchOption, subst}
use Rattle.flow_records.specs.Setup.{IsLeast}
use Rattle.lane.specs.Rows.{IsSidRepeated}
use Rattle.lane.proofs.sids.check_rows_within.Goals as goal

pub returns-clause-ok : goal.returns-clause-ok
returns-clause-ok c e = record {
  in_range = c.in_default.ensures;
  apart = subst (λ found. MatchOption found ((k : ℕ) → ¬ (IsSidRepeated c.args.rows.now k)) (λ k. IsLeast (IsSidRepeated c.args.rows.now) k)) c.in_default-2.is c.in_ok-k.ensures;
  known = c.in_default-first_without_flow.ensures;
}
