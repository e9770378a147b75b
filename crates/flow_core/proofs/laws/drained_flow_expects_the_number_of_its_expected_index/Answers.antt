use Rattle.std.proofs.Common.{ap, subst, ◌∙◌}
use Rattle.flow_core.specs.Fates.{Fates, IsExpected, number_of}
use Rattle.flow_core.proofs.Outcome.{expected-unique}
use Rattle.flow_core.proofs.Giving.{same_fates, expected_of_drained}
use Rattle.flow_core.proofs.laws.drained_flow_expects_the_number_of_its_expected_index.Goals as goal

pub returns : goal.returns
returns c = λ check flow_record flow events answers x y given fates s is drained expected.
    let same = same_fates check flow_record flow events answers y given s fates is in
    let come = subst (λ (f : Fates). IsExpected f y) same (expected_of_drained check flow_record flow events answers y given s drained) in
    s.window.number ∙ ap (number_of flow_record.first) (expected-unique fates y x come expected)
