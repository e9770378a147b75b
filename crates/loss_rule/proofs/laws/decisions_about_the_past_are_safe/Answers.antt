use Rattle.loss_rule.proofs.HandedIn.{none-safe, past-safe}
use Rattle.loss_rule.proofs.laws.decisions_about_the_past_are_safe.Goals as goal

pub returns-clause-undecided : goal.returns-clause-undecided
returns-clause-undecided c = none-safe

pub returns-clause-of_the_past : goal.returns-clause-of_the_past
returns-clause-of_the_past c = past-safe
