use Rattle.std.proofs.Common.{List, [], ◌∷◌, ◌++◌, ap, ◌∙◌}
use Rattle.flow_core.specs.Events.{FlowEvent, arrives}
use Rattle.loss_rule.proofs.Leasts.{passing-some, passing-once}
use Rattle.loss_rule.proofs.Rulings.{sliding-some, sliding-once, steps-passed, steps-slid}
use Rattle.loss_rule.proofs.laws.skips_are_one.Goals as goal

pub returns-clause-passing : goal.returns-clause-passing
returns-clause-passing c = passing-some

pub returns-clause-passing_only : goal.returns-clause-passing_only
returns-clause-passing_only c = passing-once

pub returns-clause-sliding : goal.returns-clause-sliding
returns-clause-sliding c = sliding-some

pub returns-clause-sliding_only : goal.returns-clause-sliding_only
returns-clause-sliding_only c = sliding-once

pub returns-clause-decided : goal.returns-clause-decided
returns-clause-decided c = λ flow lasts noted fates channel segment events (x, skips, expected, notes, none, are). are ∙ ap (λ (t : List FlowEvent). t ++ arrives segment ∷ []) none

pub returns-clause-passed : goal.returns-clause-passed
returns-clause-passed c = λ flow lasts noted fates x channel segment events at ruled. steps-passed flow lasts noted fates x channel segment events at ruled

pub returns-clause-slid : goal.returns-clause-slid
returns-clause-slid c = λ flow lasts noted fates x channel segment events at ruled. steps-slid flow lasts noted fates x channel segment events at ruled
