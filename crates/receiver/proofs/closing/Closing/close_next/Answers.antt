-- The next flow is closed, or gave some of what it had left to give.
use Rattle.std.proofs.Common.{[], ◌∷◌, ◌++◌, length, refl, ap, subst, ◌∙◌, arith}
use Rattle.bonded_flows.specs.Table.{BeginsAnewAt, TakesMore}
use Rattle.receiver.proofs.ClosedFlows.{closes-next, closes-some, closes-same, same-flow_count, still-closing}
use Rattle.receiver.proofs.closing.Closing.close_next.Goals as goal

pub returns-in_err-reserve-clause-closes : goal.returns-in_err-reserve-clause-closes
returns-in_err-reserve-clause-closes g c =
    closes-same g.C.HeaderCheck.accepts g.O.Consumer.after c.args.self.now _ c.args.out.now refl refl c.reserve.ensures.items

pub returns-in_err-counts-clause-closes : goal.returns-in_err-counts-clause-closes
returns-in_err-counts-clause-closes g c =
    closes-some g.C.HeaderCheck.accepts g.O.Consumer.after c.args.self.now _ c.args.out.now c.restart.new.out refl c.reserve.ensures.items
    (subst (λ k. TakesMore g.O.Consumer.after g.C.HeaderCheck.accepts c.args.self.now.flows c.args.out.now k [] c.restart.new.self c.restart.new.out) (let same = ap length c.reserve.ensures.items in omega (arith, c.len.ensures))
    c.in_err-counts.ensures.not_taken)

pub returns-in_err-counts-clause-flows : goal.returns-in_err-counts-clause-flows
returns-in_err-counts-clause-flows g c =
    same-flow_count g.C.HeaderCheck.accepts g.O.Consumer.after c.args.self.now _ c.args.out.now c.restart.new.out c.requires.closing (returns-in_err-counts-clause-closes g c)

pub returns-in_err-counts-clause-closing : goal.returns-in_err-counts-clause-closing
returns-in_err-counts-clause-closing g c =
    still-closing g.C.HeaderCheck.accepts g.O.Consumer.after c.args.self.now _ c.args.out.now c.restart.new.out c.requires.closing (returns-in_err-counts-clause-closes g c)

pub returns-clause-closes : goal.returns-clause-closes
returns-clause-closes g c =
    closes-next g.C.HeaderCheck.accepts g.O.Consumer.after c.args.self.now _ c.args.out.now c.restart.new.out c.in_ok-counts.counts refl
    (c.push_reserved.ensures.items ∙ ap (λ items. items ++ c.in_ok-counts.counts ∷ []) c.reserve.ensures.items)
    (subst (λ k. BeginsAnewAt g.O.Consumer.after g.C.HeaderCheck.accepts c.args.self.now.flows c.args.out.now k 0 c.in_ok-counts.counts c.restart.new.self c.restart.new.out) (let same = ap length c.reserve.ensures.items in omega (arith, c.len.ensures))
    c.in_ok-counts.ensures.begins_anew) c.requires.more

pub returns-clause-flows : goal.returns-clause-flows
returns-clause-flows g c =
    same-flow_count g.C.HeaderCheck.accepts g.O.Consumer.after c.args.self.now _ c.args.out.now c.restart.new.out c.requires.closing (returns-clause-closes g c)

pub returns-clause-closing : goal.returns-clause-closing
returns-clause-closing g c =
    still-closing g.C.HeaderCheck.accepts g.O.Consumer.after c.args.self.now _ c.args.out.now c.restart.new.out c.requires.closing (returns-clause-closes g c)
