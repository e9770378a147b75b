use Rattle.flow_core.specs.Fates.{no_fates}
use Rattle.loss_rule.specs.Rule.{no_lasts}
use Rattle.loss_rule.proofs.Reaching.{reached-none}
use Rattle.loss_rule.proofs.Rulings.{rules-some, rules-once}
use Rattle.loss_rule.proofs.RuledTurns.{rules-lead}
use Rattle.loss_rule.proofs.laws.ruled_events_are_one.Goals as goal

pub returns-clause-some : goal.returns-clause-some
returns-clause-some c = λ rule flow comings. rules-some rule flow (no_lasts flow) no_fates comings (reached-none flow.first flow.width)

pub returns-clause-only : goal.returns-clause-only
returns-clause-only c = λ rule flow comings events others noted more fates after.
    rules-once rule flow (no_lasts flow) no_fates comings events others noted more fates after (reached-none flow.first flow.width)

pub returns-clause-after : goal.returns-clause-after
returns-clause-after c = λ rule flow comings events noted fates. rules-lead rule flow (no_lasts flow) no_fates comings events noted fates
