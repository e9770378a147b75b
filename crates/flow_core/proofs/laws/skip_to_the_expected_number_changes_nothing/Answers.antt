use Rattle.flow_core.proofs.Skipping.{skip-nothing}
use Rattle.flow_core.proofs.laws.skip_to_the_expected_number_changes_nothing.Goals as goal

pub returns : goal.returns
returns c = λ first x number fates after any behind skips. skip-nothing first x number fates after any skips behind
