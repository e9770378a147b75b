use Rattle.std.proofs.Common.{subst}
use Rattle.flow_core.specs.Events.{IsAhead}
use Rattle.flow_core.proofs.Outcome.{expected-unique, open_and_settled}
use Rattle.loss_rule.specs.declared.rule.LossRule.TheVariants.{Passed}
use Rattle.loss_rule.proofs.Leasts.{come-passed}
use Rattle.loss_rule.proofs.Noting.{own-ahead}
use Rattle.loss_rule.proofs.RuledTurns.{ruled-reached}
use Rattle.loss_rule.proofs.Arrivals.{passed-looks, by-passed}
use Rattle.loss_rule.proofs.Prompt.{kept_or_lost, up_to_date-after}
use Rattle.loss_rule.proofs.LosingJust.{just-lost}
use Rattle.loss_rule.proofs.laws.flow_never_waits_for_what_can_no_longer_come.Goals as goal

pub returns-clause-settled : goal.returns-clause-settled
returns-clause-settled c = λ rule flow comings events noted fates own i looks are has passed.
    kept_or_lost fates i ((up_to_date-after rule flow looks comings events noted fates are).settled own i has passed)

pub returns-clause-expected : goal.returns-clause-expected
returns-clause-expected c = λ rule flow comings events noted fates own x looks are has expected passed.
    open_and_settled fates x expected.open_itself ((up_to_date-after rule flow looks comings events noted fates are).settled own x has passed)

pub returns-clause-passed : goal.returns-clause-passed
returns-clause-passed c = λ rule flow comings events noted fates least i looks are come below.
    kept_or_lost fates i ((up_to_date-after rule flow looks comings events noted fates are).settled come.own i come.has (come-passed flow noted least i come below))

pub returns-clause-just : goal.returns-clause-just
returns-clause-just c = λ flow before events own lasts noted fates after channel i segment answers are ruled leads lost.
    let r = ruled-reached Passed flow before events lasts fates are in
    just-lost flow lasts noted fates after channel i segment own answers (up_to_date-after Passed flow passed-looks before events lasts fates are)
    (by-passed flow lasts fates channel segment own answers noted after r leads ruled) lost

pub returns-clause-behind : goal.returns-clause-behind
returns-clause-behind c = λ rule flow lasts noted fates own channel x index segment ruled expected behind is.
    behind index (subst (λ k. IsAhead flow.first k segment.head.sequence index) (expected-unique fates ruled.0 x ruled.2 expected)
    (own-ahead flow.first ruled.0 channel segment.head.sequence lasts noted ruled.3 index is))
