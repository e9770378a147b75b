use Rattle.std.proofs.Common.{◌≡◌, true}
use Rattle.ccf.proofs.Filters.{FiltersFrom-once}
use Rattle.ccf.proofs.laws.filter_has_one_answer.Goals as goal

pub returns : goal.returns
returns c = λ p. FiltersFrom-once (λ j. p j ≡ true) 0
