-- A close is begun and gone on with.
use Rattle.bonded_flows.proofs.SlotTurns.{on-ok}
use Rattle.bonded_flows.proofs.TableTurns.{on-err}
use Rattle.receiver.proofs.ClosedFlows.{closes-whole, begins-whole}
use Rattle.receiver.proofs.receiver.Receiver.close.Goals as goal

pub returns-clause-closes : goal.returns-clause-closes
returns-clause-closes g c =
    on-ok c.go_on.result
    (λ closed all. closes-whole g.C.HeaderCheck.accepts g.O.Consumer.after c.args.self c.begin.result c.begin.ensures.lanes c.begin.ensures.flows c.begin.ensures.none c.args.out.now c.go_on.new.out closed all)
    c.go_on.ensures.closes

pub returns-clause-begun : goal.returns-clause-begun
returns-clause-begun g c =
    on-err c.go_on.result
    (λ closing more. begins-whole g.C.HeaderCheck.accepts g.O.Consumer.after c.args.self c.begin.result c.begin.ensures.lanes c.begin.ensures.flows c.begin.ensures.none c.args.out.now c.go_on.new.out closing more)
    c.go_on.ensures.goes_on
