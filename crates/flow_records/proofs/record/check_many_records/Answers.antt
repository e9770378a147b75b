-- Where no fault is found there is none.
use Rattle.std.proofs.Common.{ℕ, MatchOption, subst, arith}
use Rattle.flow_records.specs.Setup.{IsRepeated, IsLeast}
use Rattle.flow_records.proofs.Setup.{no_fault}
use Rattle.flow_records.proofs.record.check_many_records.Goals as goal

pub returns-clause-ok : goal.returns-clause-ok
returns-clause-ok c e =
    no_fault c.args.limit c.args.records.now (omega arith) c.in_default.ensures
    (subst (λ found. MatchOption found ((k : ℕ) → ¬ (IsRepeated c.args.records.now k)) (λ k. IsLeast (IsRepeated c.args.records.now) k)) c.in_default-2.is c.in_ok-k.ensures)
