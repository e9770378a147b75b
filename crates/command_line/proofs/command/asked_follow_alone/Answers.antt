use Rattle.std.specs.Prelude.{map, codes}
use Rattle.loss_rule.specs.declared.rule.LossRule.{LossRule}
use Rattle.command_line.specs.Losses.{AskForRuleAlone}
use Rattle.command_line.specs.Command.{AskToFollowAlone}
use Rattle.command_line.proofs.AskedEvents.{follow-with_rule, follow-with_none, follow-without_rule, follow-without_none}
use Rattle.command_line.proofs.AskedWords.{of_command}
use Rattle.command_line.proofs.command.asked_follow_alone.Goals as goal

pub returns-in_ok-asked_rule_alone-in-Some : goal.returns-in_ok-asked_rule_alone-in-Some
returns-in_ok-asked_rule_alone-in-Some g c = λ rule events.
    let options = map g.S.AsStr.text c.in_ok-options.options.now in
    let rest = map g.S.AsStr.text c.in-Some.rest.now in
    let by = c.in_ok-asked_rule_alone-in-Some.field-0 in
    of_command (codes "follow") (map g.S.AsStr.text c.args.words.now) options (AskToFollowAlone rule events) c.in_ok-options.ensures
    (follow-with_rule options rest c.in-Some.ensures by ((c.asked_rule_alone.ensures by).0 c.in_ok-asked_rule_alone-in-Some.was) rule events)

pub returns-in_ok-asked_rule_alone-in-None : goal.returns-in_ok-asked_rule_alone-in-None
returns-in_ok-asked_rule_alone-in-None g c = λ rule events.
    let options = map g.S.AsStr.text c.in_ok-options.options.now in
    let by = c.in_ok-asked_rule_alone-in-None.field-0 in
    of_command (codes "follow") (map g.S.AsStr.text c.args.words.now) options (AskToFollowAlone rule events) c.in_ok-options.ensures
    (follow-without_rule options c.in-None.ensures by ((c.asked_rule_alone-in-None.ensures by).0 c.in_ok-asked_rule_alone-in-None.was) rule events)

pub returns-in_err-asked_rule_alone-in-Some : goal.returns-in_err-asked_rule_alone-in-Some
returns-in_err-asked_rule_alone-in-Some g c = λ rule events.
    let options = map g.S.AsStr.text c.in_ok-options.options.now in
    let rest = map g.S.AsStr.text c.in-Some.rest.now in
    let found = c.in_err-asked_rule_alone-in-Some.was in
    let none : (by : LossRule) → ¬ AskForRuleAlone by rest = λ by asks. cc (found, (c.asked_rule_alone.ensures by).1 asks) in
    rw c.from_residual-in_err-asked_rule_alone-in-Some.ensures
    (of_command (codes "follow") (map g.S.AsStr.text c.args.words.now) options (AskToFollowAlone rule events) c.in_ok-options.ensures
    (follow-with_none options rest c.in-Some.ensures none rule events))

pub returns-in_err-asked_rule_alone-in-None : goal.returns-in_err-asked_rule_alone-in-None
returns-in_err-asked_rule_alone-in-None g c = λ rule events.
    let options = map g.S.AsStr.text c.in_ok-options.options.now in
    let found = c.in_err-asked_rule_alone-in-None.was in
    let none : (by : LossRule) → ¬ AskForRuleAlone by options = λ by asks. cc (found, (c.asked_rule_alone-in-None.ensures by).1 asks) in
    rw c.from_residual-in_err-asked_rule_alone-in-None.ensures
    (of_command (codes "follow") (map g.S.AsStr.text c.args.words.now) options (AskToFollowAlone rule events) c.in_ok-options.ensures
    (follow-without_none options c.in-None.ensures none rule events))
