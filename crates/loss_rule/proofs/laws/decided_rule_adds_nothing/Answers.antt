use Rattle.flow_core.specs.Fates.{no_fates}
use Rattle.loss_rule.specs.Rule.{no_lasts}
use Rattle.loss_rule.proofs.DecidedRule.{decided-events, decided-rules}
use Rattle.loss_rule.proofs.laws.decided_rule_adds_nothing.Goals as goal

pub returns-clause-events : goal.returns-clause-events
returns-clause-events c = λ flow comings events noted fates. decided-events flow (no_lasts flow) no_fates comings events noted fates

pub returns-clause-ruled : goal.returns-clause-ruled
returns-clause-ruled c = λ flow comings answers fates. decided-rules flow (no_lasts flow) no_fates comings answers fates
