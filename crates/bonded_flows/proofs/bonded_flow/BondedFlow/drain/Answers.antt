-- What is next is joined, and then what was come past no longer lies ahead.
use Rattle.std.proofs.Common.{◌≡◌, map, subst, ◌∙◌}
use Rattle.reorder.specs.Number.{offset}
use Rattle.loss_rule.specs.Numbers.{distances_of, expected_of, distance_from}
use Rattle.bonded_flows.proofs.Joined.{some-running, gives-some, gives-all}
use Rattle.bonded_flows.proofs.bonded_flow.BondedFlow.drain.Goals as goal

pub join_all-requires : goal.join_all-requires
join_all-requires g c = some-running (g.C.HeaderCheck.accepts c.args.check.now) c.args.self.now c.requires

pub returns-in_err-join_all-clause-gives : goal.returns-in_err-join_all-clause-gives
returns-in_err-join_all-clause-gives g c =
    gives-some g.O.Consumer.after (g.C.HeaderCheck.accepts c.args.check.now) c.args.self.now c.join_all.new.flow c.args.out.now c.join_all.new.out c.join_all.ensures.joins

pub returns-clause-gives : goal.returns-clause-gives
returns-clause-gives g c =
    let self = c.args.self.now in
    let number = c.expected.ensures.number in
    gives-all g.O.Consumer.after (g.C.HeaderCheck.accepts c.args.check.now) self c.join_all.new.flow c.args.out.now c.join_all.new.out c.join_all.ensures.joins
    c.come_to.new.self c.in_ok-join_all.ensures.drained c.come_to.ensures.carried (c.come_to.ensures.expected ∙ number)
    (subst (λ n. distances_of c.come_to.new.self ≡ map (distance_from (offset (expected_of self.lasts) n)) (distances_of self.lasts)) number c.come_to.ensures.distances)

pub returns-clause-up_to_date : goal.returns-clause-up_to_date
returns-clause-up_to_date g c = record { drained = c.in_ok-join_all.ensures.drained; expects = c.come_to.ensures.expected ∙ c.expected.ensures.number }
