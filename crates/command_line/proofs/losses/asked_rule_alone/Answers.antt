use Rattle.std.proofs.Common.{sym, subst, ◌∙◌}
use Rattle.std.proofs.lemmas.Bool.Decides.{Decides-eqb}
use Rattle.std.proofs.lemmas.Slice.Eq.{slice_eq-Decides}
use Rattle.command_line.specs.Losses.{losses_option}
use Rattle.command_line.proofs.AskedRules.{IsRuleNamed, AskForRuleAlone-two}
use Rattle.command_line.proofs.losses.asked_rule_alone.Goals as goal

pub returns-in-len2 : goal.returns-in-len2
returns-in-len2 g c =
    let same = slice_eq-Decides Decides-eqb c.as_str-then-options-lt3.result.now losses_option c.eq.result c.eq.ensures in
    let is = sym c.as_str-then-options-lt3.ensures ∙ same.0 c.if-eq.true in
    let named = subst (λ text. IsRuleNamed text c.rule_named-in-len2.result) c.as_str-in-len2.ensures c.rule_named-in-len2.ensures in
    AskForRuleAlone-two g.S.AsStr.text c.args.options.now c.option-item-then-options-lt3.result c.name-item.result c.rule_named-in-len2.result
    c.in-len2.len_at_least c.in-len2.len_below c.option-item-then-options-lt3.is c.name-item.is is named
