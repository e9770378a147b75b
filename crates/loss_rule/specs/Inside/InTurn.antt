-- Two lists of comings, one after the other.
use Rattle.std.specs.Prelude.{◌≡◌, List, ◌++◌}
use Rattle.flow_core.specs.Fates.{Fates}
use Rattle.flow_core.specs.Events.{FlowEvent}
use Rattle.loss_rule.specs.declared.rule.LossRule.{LossRule}
use Rattle.loss_rule.specs.Rule.{Coming, RuledFlow, Lasts, Rules}

-- What both lists make: the events of each, and what is noted and the fates between.
abbrev pub RulesInTurn : LossRule → RuledFlow → Lasts → Fates → List Coming → List Coming → List FlowEvent → Lasts → Fates → Type 0
RulesInTurn rule flow lasts fates comings more events noted after =
    (front back : List FlowEvent) × (between_lasts : Lasts) × (between : Fates)
    × Rules rule flow lasts fates comings front between_lasts between × Rules rule flow between_lasts between more back noted after × (events ≡ front ++ back)
