use Rattle.flow_core.proofs.Nearness.{numbered_of_cut}
use Rattle.loss_rule.proofs.NearComings.{near-events}
use Rattle.loss_rule.proofs.laws.near_comings_make_near_events.Goals as goal

pub returns : goal.returns
returns c = λ check frames chunks fill segments rule flow comings index_at events noted fates positive narrow cut order near decisions.
    near-events rule flow positive narrow segments comings index_at (numbered_of_cut check frames chunks flow.first fill segments cut) order near decisions events noted fates
