use Rattle.std.proofs.Common.{sym, subst}
use Rattle.flow_core.specs.Fates.{Fates, IsExpected}
use Rattle.flow_core.proofs.Giving.{same_fates, expected_of_drained, drained_of_expected}
use Rattle.flow_core.proofs.laws.drained_flow_has_come_to_its_expected_index.Goals as goal

pub returns : goal.returns
returns c = λ check flow_record flow events answers y given fates s is.
    let same = same_fates check flow_record flow events answers y given s fates is in (
      λ drained. subst (λ (f : Fates). IsExpected f y) same (expected_of_drained check flow_record flow events answers y given s drained),
      λ expected. drained_of_expected check flow_record flow events answers y given s (subst (λ (f : Fates). IsExpected f y) (sym same) expected),
    )
