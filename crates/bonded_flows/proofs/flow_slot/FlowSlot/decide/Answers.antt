use Rattle.std.proofs.Common.{not, ap, sym, ◌∙◌}
use Rattle.bonded_flows.proofs.SlotTurns.{is-none, unbegun-takes, unbegun-told}
use Rattle.bonded_flows.proofs.flow_slot.FlowSlot.decide.Goals as goal

pub returns-then-not-is_skip-clause-takes : goal.returns-then-not-is_skip-clause-takes
returns-then-not-is_skip-clause-takes g c =
    unbegun-takes (g.C.HeaderCheck.accepts c.args.check.now) c.args.self.now (is-none c.args.self.now.flow (c.is_none.ensures ∙ ap not c.if-is_none.true)) c.args.decision
    (sym c.is_skip.ensures ∙ c.if-not-is_skip.true) g.O.Consumer.after c.args.out.now

pub returns-then-not-is_skip-clause-told : goal.returns-then-not-is_skip-clause-told
returns-then-not-is_skip-clause-told g c =
    unbegun-told (g.C.HeaderCheck.accepts c.args.check.now) c.args.self.now (is-none c.args.self.now.flow (c.is_none.ensures ∙ ap not c.if-is_none.true)) c.args.decision
    (sym c.is_skip.ensures ∙ c.if-not-is_skip.true)
