use Rattle.flow_core.proofs.Nearness.{numbered_of_cut}
use Rattle.loss_rule.proofs.Fitting.{fit-within}
use Rattle.loss_rule.proofs.Taking.{within-taken}
use Rattle.loss_rule.proofs.AllKept.{come-near}
use Rattle.loss_rule.proofs.NoSlide.{within-falls}
use Rattle.loss_rule.proofs.laws.segments_that_fit_the_window_fall_into_it.Goals as goal

pub returns-clause-fall : goal.returns-clause-fall
returns-clause-fall c = λ check frames chunks fill segments rule flow comings index_at looks narrow cut order fit safely.
    let numbered = numbered_of_cut check frames chunks flow.first fill segments cut in
    within-falls rule looks flow segments comings index_at numbered order (fit-within rule looks flow narrow segments comings index_at numbered order fit) safely

pub returns-clause-near : goal.returns-clause-near
returns-clause-near c = λ check frames chunks fill segments rule flow comings index_at looks narrow cut order fit safely.
    let numbered = numbered_of_cut check frames chunks flow.first fill segments cut in
    come-near rule looks flow segments comings index_at numbered order
    (within-taken rule looks flow segments comings index_at numbered order (fit-within rule looks flow narrow segments comings index_at numbered order fit)) safely
