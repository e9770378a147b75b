use Rattle.reorder.specs.Verdicts.{skipped_count}
use Rattle.reorder.proofs.SkippedCount.{AreOpen-skipped_count, AreOpen-PassesInTurn, skipped_count-ends}
use Rattle.reorder.proofs.laws.skip_to_passes_open_numbers.Goals as goal

pub returns-clause-passed : goal.returns-clause-passed
returns-clause-passed g c = λ w number lawful. AreOpen-PassesInTurn w (skipped_count w number) lawful.expected_in_range (AreOpen-skipped_count w number lawful)

pub returns-clause-ends : goal.returns-clause-ends
returns-clause-ends g c = λ w number lawful in_range near. skipped_count-ends w number lawful in_range near
