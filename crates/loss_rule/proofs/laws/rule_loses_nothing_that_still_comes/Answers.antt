use Rattle.std.proofs.Common.{◌∷◌, ◌++◌, refl}
use Rattle.flow_core.proofs.Nearness.{numbered_of_cut}
use Rattle.loss_rule.specs.Rule.{on_channel}
use Rattle.loss_rule.proofs.SafeLoss.{skips-safe, verdicts-safe}
use Rattle.loss_rule.proofs.Taking.{falls-taken}
use Rattle.loss_rule.proofs.AllKept.{none-lost}
use Rattle.loss_rule.proofs.laws.rule_loses_nothing_that_still_comes.Goals as goal

pub returns-clause-lost : goal.returns-clause-lost
returns-clause-lost c = λ check frames chunks fill segments flow before behind index_at channel other q x segment another events skips answers lasts noted fates after
    cut order near are expected notes skips_are leads comes from.
    skips-safe flow segments (before ++ on_channel channel segment ∷ behind) index_at (numbered_of_cut check frames chunks flow.first fill segments cut) order near
    before behind channel other q x segment another events skips answers lasts noted fates after refl are expected notes skips_are leads from comes

pub returns-clause-verdicts : goal.returns-clause-verdicts
returns-clause-verdicts c = λ check frames chunks fill segments flow comings index_at events answers noted fates k verdict cut order near safely are is.
    verdicts-safe flow segments comings index_at (numbered_of_cut check frames chunks flow.first fill segments cut) order near safely events answers noted fates are is k verdict

pub returns-clause-falls : goal.returns-clause-falls
returns-clause-falls c = λ check frames chunks fill segments rule flow comings before behind index_at channel other q x segment another events skips answers lasts noted
    fates after looks narrow cut order fall safely e are expected notes skips_are leads is from.
    let numbered = numbered_of_cut check frames chunks flow.first fill segments cut in
    none-lost rule looks flow segments comings index_at numbered order (falls-taken rule looks flow narrow segments comings index_at numbered order fall) safely
    before behind channel other q x segment another events skips answers lasts noted fates after e are expected notes skips_are leads is from
