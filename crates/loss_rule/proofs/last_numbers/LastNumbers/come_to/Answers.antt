use Rattle.std.proofs.Common.{ap, ◌∙◌, map}
use Rattle.loss_rule.specs.Numbers.{distances_of, distance_from}
use Rattle.loss_rule.proofs.Distances.{items-further}
use Rattle.loss_rule.proofs.last_numbers.LastNumbers.come_to.Goals as goal

pub returns-then-by-at-clause-distances : goal.returns-then-by-at-clause-distances
returns-then-by-at-clause-distances c =
    items-further c.args.self.now.reached.at c.offset-by.result c.args.self.now.channels.items
    ∙ ap (λ by. map (distance_from by) (distances_of c.args.self.now)) c.offset-by.ensures

pub returns-else-by-at-clause-distances : goal.returns-else-by-at-clause-distances
returns-else-by-at-clause-distances c =
    c.count_anew.ensures.distances ∙ ap (λ by. map (distance_from by) (distances_of c.args.self.now)) c.offset-by.ensures
