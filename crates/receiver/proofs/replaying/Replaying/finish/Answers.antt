-- What was given is the outcome of the entries.
use Rattle.std.proofs.Common.{ℕ, List, map, sym, subst}
use Rattle.bonded_flows.proofs.SlotTurns.{on-ok}
use Rattle.receiver.specs.AdmittedOrder.{IsAdmittedOrder}
use Rattle.receiver.specs.Entries.{tag_of, incoming_in}
use Rattle.receiver.specs.Ruled.{IsOutcomeBy}
use Rattle.receiver.proofs.ReplayedEntries.{sent-all, entries-admitted, entries-replayed, on-both}
use Rattle.receiver.proofs.replaying.Replaying.finish.Goals as goal

pub returns-clause-order : goal.returns-clause-order
returns-clause-order g c =
    on-ok c.finish.result
    (λ outcome same rule check entries was.
    subst (λ (order : List ℕ). IsAdmittedOrder c.args.setup.now (incoming_in entries) (map tag_of entries) order) (sym same)
    (entries-admitted g.C.HeaderCheck.accepts rule check c.args.setup.now c.args.self entries was))
    c.finish.ensures.order

pub returns-clause-outcome : goal.returns-clause-outcome
returns-clause-outcome g c =
    on-both c.finish.result
    (λ outcome gives same rule check entries was.
    subst (λ (order : List ℕ). IsOutcomeBy rule check c.args.setup.now (incoming_in entries) order outcome) (sym same)
    (entries-replayed g.C.HeaderCheck.accepts rule check c.args.setup.now c.args.self entries was outcome
    (gives rule check was.handed was.plays (sent-all was.handed was.recorded)) same))
    c.finish.ensures.gives c.finish.ensures.order
