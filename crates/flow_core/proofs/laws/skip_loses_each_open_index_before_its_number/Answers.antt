use Rattle.flow_core.proofs.Skipping.{skip-loses, skip-keeps, skip-reaches, skip-answers}
use Rattle.flow_core.proofs.laws.skip_loses_each_open_index_before_its_number.Goals as goal

pub returns-clause-lost : goal.returns-clause-lost
returns-clause-lost c = λ first x number i end fates after any expected skips. skip-loses first x number fates after any skips i end expected

pub returns-clause-kept : goal.returns-clause-kept
returns-clause-kept c = λ first x number i segment fates after any skips. skip-keeps first x number fates after any skips i segment

pub returns-clause-expected : goal.returns-clause-expected
returns-clause-expected c = λ first x y number end fates after any expected skips. skip-reaches first x number fates after any skips y end expected

pub returns-clause-answer : goal.returns-clause-answer
returns-clause-answer c = λ first x number fates after any expected skips. skip-answers first x number fates after any skips expected
