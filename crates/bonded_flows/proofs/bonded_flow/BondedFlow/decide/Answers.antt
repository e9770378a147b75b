-- The decision is taken, and then what is next is joined.
use Rattle.std.proofs.Common.{[], ◌∷◌, ◌∙◌}
use Rattle.loss_rule.specs.Rule.{handed_in}
use Rattle.bonded_flows.proofs.GoneOn.{still-under_way}
use Rattle.bonded_flows.proofs.DecisionsTaken.{some-decided, decision-told, decision-takes}
use Rattle.bonded_flows.specs.ByRule.{decision_event}
use Rattle.bonded_flows.proofs.bonded_flow.BondedFlow.decide.Goals as goal

pub drain-requires : goal.drain-requires
drain-requires g c =
    some-decided (g.C.HeaderCheck.accepts c.args.check.now) c.args.self.now c.take_decision-lost.new.self (decision_event c.args.decision) c.take_decision-lost.result
    c.requires.settled c.take_decision-lost.ensures.takes c.requires.under_way

pub returns-in_err-drain-clause-takes : goal.returns-in_err-drain-clause-takes
returns-in_err-drain-clause-takes g c =
    decision-takes (g.C.HeaderCheck.accepts c.args.check.now) c.args.self.now c.take_decision-lost.new.self (decision_event c.args.decision) c.take_decision-lost.result
    c.requires.settled c.take_decision-lost.ensures.takes g.O.Consumer.after c.drain.new.self c.args.out.now c.drain.new.out c.take_decision-lost.ensures.index
    c.drain.ensures.gives (c.drain.ensures.pending ∙ c.take_decision-lost.ensures.pending ∙ c.requires.settled.nothing_left)

pub returns-clause-takes : goal.returns-clause-takes
returns-clause-takes g c =
    decision-takes (g.C.HeaderCheck.accepts c.args.check.now) c.args.self.now c.take_decision-lost.new.self (decision_event c.args.decision) c.take_decision-lost.result
    c.requires.settled c.take_decision-lost.ensures.takes g.O.Consumer.after c.drain.new.self c.args.out.now c.drain.new.out c.take_decision-lost.ensures.index
    c.drain.ensures.gives (c.drain.ensures.pending ∙ c.take_decision-lost.ensures.pending ∙ c.requires.settled.nothing_left)

pub returns-clause-told : goal.returns-clause-told
returns-clause-told g c =
    decision-told (g.C.HeaderCheck.accepts c.args.check.now) c.args.self.now c.take_decision-lost.new.self (decision_event c.args.decision) c.take_decision-lost.result
    c.requires.settled c.take_decision-lost.ensures.takes

pub returns-in_err-drain-clause-under_way : goal.returns-in_err-drain-clause-under_way
returns-in_err-drain-clause-under_way g c =
    still-under_way g.O.Consumer.after (g.C.HeaderCheck.accepts c.args.check.now) c.args.self.now c.drain.new.self c.args.out.now c.drain.new.out
    (handed_in (decision_event c.args.decision) ∷ []) (returns-in_err-drain-clause-takes g c) c.requires.under_way

pub returns-clause-under_way : goal.returns-clause-under_way
returns-clause-under_way g c =
    still-under_way g.O.Consumer.after (g.C.HeaderCheck.accepts c.args.check.now) c.args.self.now c.drain.new.self c.args.out.now c.drain.new.out
    (handed_in (decision_event c.args.decision) ∷ []) (returns-clause-takes g c) c.requires.under_way
