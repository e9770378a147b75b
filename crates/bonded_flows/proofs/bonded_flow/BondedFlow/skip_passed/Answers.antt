-- The segment is noted, and then what every channel has passed is skipped.
use Rattle.std.proofs.Common.{◌≡◌, ℕ, Option, None, Some, refl, sym, subst, ◌∙◌, inl, inr}
use Rattle.flow_core.specs.declared.event.Applied.TheVariants.{DecisionSkip}
use Rattle.loss_rule.specs.declared.last_numbers.LastNumbers.{LastNumbers}
use Rattle.loss_rule.specs.Numbers.{carried_of, distances_of, expected_of, IsPassedByAll}
use Rattle.bonded_flows.specs.Taking.{SkipsPassed}
use Rattle.bonded_flows.proofs.NotedNumbers.{passed-none, passed-some}
use Rattle.bonded_flows.proofs.bonded_flow.BondedFlow.skip_passed.Goals as goal

-- what every channel has come to, as it is known afterwards
by-all : (was is : LastNumbers) (passed : Option ℕ) → carried_of is ≡ carried_of was → distances_of is ≡ distances_of was → expected_of is ≡ expected_of was
    → IsPassedByAll (carried_of was) (distances_of was) (expected_of was) passed → IsPassedByAll (carried_of is) (distances_of is) (expected_of is) passed
by-all was is passed carried distances expected by_all =
    subst (λ n. IsPassedByAll (carried_of is) (distances_of is) n passed) (sym expected)
    (subst (λ ds. IsPassedByAll (carried_of is) ds (expected_of was) passed) (sym distances)
    (subst (λ cs. IsPassedByAll cs (distances_of was) (expected_of was) passed) (sym carried) by_all))

pub returns-in-Decided-clause-skips : goal.returns-in-Decided-clause-skips
returns-in-Decided-clause-skips c =
    passed-none c.args.self.now c.args.channel c.args.number c.note.new.self c.requires.number c.requires.up_to_date
    c.note.ensures.carried c.note.ensures.expected c.note.ensures.distances (inl c.in-Decided.is)

pub returns-in_err-passed : goal.returns-in_err-passed
returns-in_err-passed c =
    let none = c.in_err-passed.was in
    let result = c.from_residual.ensures in
    record {
      skips = subst (λ passed. SkipsPassed c.args.self.now c.args.channel c.args.number passed (record c.args.self.now { lasts = c.passed_by_all.new.self })) (sym result)
          (passed-none c.args.self.now c.args.channel c.args.number c.passed_by_all.new.self c.requires.number c.requires.up_to_date
          (c.passed_by_all.ensures.carried ∙ c.note.ensures.carried) (c.passed_by_all.ensures.expected ∙ c.note.ensures.expected)
          (c.passed_by_all.ensures.distances ∙ c.note.ensures.distances)
          (inr (by-all c.note.new.self c.passed_by_all.new.self None c.passed_by_all.ensures.carried c.passed_by_all.ensures.distances c.passed_by_all.ensures.expected
          (subst (IsPassedByAll (carried_of c.note.new.self) (distances_of c.note.new.self) (expected_of c.note.new.self)) none c.passed_by_all.ensures.passed))));
      pending = refl;
      rule = refl;
      index = refl;
    }

pub returns : goal.returns
returns c =
    let some = c.in_ok-passed.was in
    record {
      skips = passed-some c.args.self.now c.args.channel c.args.number c.passed_by_all.new.self c.requires.number c.requires.up_to_date
          (c.passed_by_all.ensures.carried ∙ c.note.ensures.carried) (c.passed_by_all.ensures.expected ∙ c.note.ensures.expected)
          (c.passed_by_all.ensures.distances ∙ c.note.ensures.distances)
          c.in_ok-passed.passed c.skip_to.new.self (DecisionSkip c.skip_to.result) c.in_default.not-Decided
          (by-all c.note.new.self c.passed_by_all.new.self (Some c.in_ok-passed.passed) c.passed_by_all.ensures.carried c.passed_by_all.ensures.distances c.passed_by_all.ensures.expected
          (subst (IsPassedByAll (carried_of c.note.new.self) (distances_of c.note.new.self) (expected_of c.note.new.self)) some c.passed_by_all.ensures.passed))
          c.skip_to.ensures;
      pending = refl;
      rule = refl;
      index = refl;
    }
