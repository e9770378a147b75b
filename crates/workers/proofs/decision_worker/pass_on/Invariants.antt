-- The decisions that were given so far are posted, if they name a flow.
use Rattle.std.proofs.Common.{◌≡◌, ◌++◌, List}
use Rattle.mailbox.specs.Ports.{address, posted}
use Rattle.flow_records.specs.declared.decision.Decision.{Decision}
use Rattle.workers.specs.Given.{BecameBy}
use Rattle.workers.specs.Inside.Carried.{carried}
use Rattle.workers.proofs.DecisionsPassed.{passed}
use Rattle.workers.proofs.decision_worker.pass_on.Given as goal

abbrev pub invariant-loop : goal.invariant-loop
invariant-loop g l = (decisions : List Decision)
    × BecameBy g.D.LiveDecisions.gave l.fn.work.decisions decisions l.work.decisions
    × (l.work.flow_count ≡ l.fn.work.flow_count)
    × (l.work.sender ≡ l.fn.work.sender)
    × (address l.work.arrivals ≡ address l.fn.work.arrivals)
    × (carried (posted l.work.arrivals)
    ≡ carried (posted l.fn.work.arrivals) ++ passed l.fn.work.sender l.fn.work.flow_count decisions)
