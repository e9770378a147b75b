use Rattle.flow_core.proofs.Nearness.{numbered_of_cut}
use Rattle.loss_rule.proofs.Taking.{falls-taken}
use Rattle.loss_rule.proofs.AllKept.{come-near, kept-as, kept-came, kept-verdicts}
use Rattle.loss_rule.proofs.laws.all_that_comes_is_kept.Goals as goal

pub returns-clause-near : goal.returns-clause-near
returns-clause-near c = λ check frames chunks fill segments rule flow comings index_at looks narrow cut order fall safely.
    let numbered = numbered_of_cut check frames chunks flow.first fill segments cut in
    come-near rule looks flow segments comings index_at numbered order (falls-taken rule looks flow narrow segments comings index_at numbered order fall) safely

pub returns-clause-kept : goal.returns-clause-kept
returns-clause-kept c = λ check frames chunks fill segments rule flow comings index_at events noted fates p channel segment looks narrow cut order fall safely are.
    let numbered = numbered_of_cut check frames chunks flow.first fill segments cut in
    kept-as rule looks flow segments comings index_at numbered order (falls-taken rule looks flow narrow segments comings index_at numbered order fall) safely
    events noted fates are p channel segment

pub returns-clause-came : goal.returns-clause-came
returns-clause-came c = λ check frames chunks fill segments rule flow comings index_at events noted fates i looks narrow cut order fall safely are.
    let numbered = numbered_of_cut check frames chunks flow.first fill segments cut in
    kept-came rule looks flow segments comings index_at numbered order (falls-taken rule looks flow narrow segments comings index_at numbered order fall) safely
    events noted fates are i

pub returns-clause-verdicts : goal.returns-clause-verdicts
returns-clause-verdicts c = λ check frames chunks fill segments rule flow comings index_at events answers noted fates k verdict looks narrow cut order fall safely are is.
    let numbered = numbered_of_cut check frames chunks flow.first fill segments cut in
    kept-verdicts rule looks flow segments comings index_at numbered order (falls-taken rule looks flow narrow segments comings index_at numbered order fall) safely
    events noted fates are answers is k verdict
