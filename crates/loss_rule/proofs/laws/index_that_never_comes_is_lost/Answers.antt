use Rattle.std.proofs.Common.{arith}
use Rattle.flow_core.proofs.Nearness.{numbered_of_cut}
use Rattle.loss_rule.proofs.Leasts.{come-passed}
use Rattle.loss_rule.proofs.Prompt.{up_to_date-after}
use Rattle.loss_rule.proofs.Taking.{falls-taken}
use Rattle.loss_rule.proofs.AllKept.{kept-came, kept-latest}
use Rattle.loss_rule.proofs.NeverComing.{near-came, never-lost}
use Rattle.loss_rule.proofs.laws.index_that_never_comes_is_lost.Goals as goal

pub returns-clause-lost : goal.returns-clause-lost
returns-clause-lost c = λ check frames chunks fill segments rule flow comings index_at events noted fates least i looks positive narrow cut order near decisions
    are come below never.
    let numbered = numbered_of_cut check frames chunks flow.first fill segments cut in
    let came = near-came rule looks flow positive narrow segments comings index_at numbered order near decisions events noted fates are in
    never-lost comings index_at fates i (λ kept. (let found = came i kept in (found.0, found.1, found.2, found.4, found.5))) never
    ((up_to_date-after rule flow looks comings events noted fates are).settled come.own i come.has (come-passed flow noted least i come below))

pub returns-clause-overtaken : goal.returns-clause-overtaken
returns-clause-overtaken c = λ check frames chunks fill segments rule flow comings index_at events noted fates own i looks narrow cut order fall safely are has
    overtaken never.
    let numbered = numbered_of_cut check frames chunks flow.first fill segments cut in
    let within = falls-taken rule looks flow narrow segments comings index_at numbered order fall in
    never-lost comings index_at fates i
    (kept-came rule looks flow segments comings index_at numbered order within safely events noted fates are i) never
    ((up_to_date-after rule flow looks comings events noted fates are).settled own i has (λ channel is.
    (let later = overtaken channel is in
    let last = kept-latest rule looks flow segments comings index_at numbered order within safely events noted fates are later.0 channel later.1 later.2 in
    (last.0, last.1, omega (arith, later.3, last.2)))))
