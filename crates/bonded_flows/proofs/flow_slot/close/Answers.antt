-- A flow of which the close has begun is closed.
use Rattle.std.proofs.Common.{[]}
use Rattle.bonded_flows.proofs.GoneOn.{still-under_way}
use Rattle.bonded_flows.proofs.FlowTurns.{takes-then, closes-then, on-any_err}
use Rattle.bonded_flows.proofs.SlotTurns.{on-ok}
use Rattle.bonded_flows.proofs.flow_slot.close.Goals as goal

pub close-requires-clause-under_way : goal.close-requires-clause-under_way
close-requires-clause-under_way g c =
    still-under_way g.O.Consumer.after (g.C.HeaderCheck.accepts c.args.check.now) c.args.flow.now c.begin_close.new.flow c.args.out.now c.begin_close.new.out _ c.begin_close.ensures.takes c.requires

pub returns-clause-closes : goal.returns-clause-closes
returns-clause-closes g c =
    on-ok c.close.result
    (λ counts closes. closes-then g.O.Consumer.after (g.C.HeaderCheck.accepts c.args.check.now) c.args.flow.now c.begin_close.new.flow c.args.out.now c.begin_close.new.out c.requires
    c.begin_close.ensures.takes c.close.new.out counts closes)
    c.close.ensures.closes

pub returns-clause-takes : goal.returns-clause-takes
returns-clause-takes g c =
    on-any_err c.close.result
    (takes-then g.O.Consumer.after (g.C.HeaderCheck.accepts c.args.check.now) c.args.flow.now c.begin_close.new.flow c.args.out.now c.begin_close.new.out c.requires
    c.begin_close.ensures.takes c.close.new.self c.close.new.out [] c.close.ensures.takes)
