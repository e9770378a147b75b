use Rattle.std.proofs.Common.{◌≡◌, true}
use Rattle.bonded_flows.proofs.FlowTurns.{takes-still}
use Rattle.bonded_flows.proofs.flow_slot.begin_close.Goals as goal

pub begin_close-requires : goal.begin_close-requires
begin_close-requires g c =
    c.in_ok-go_on.ensures.settled (λ closing. let yes : c.is_being_closed.result ≡ true = c.is_being_closed.ensures.1 closing in let no = c.if-is_being_closed.false in absurd cc)

pub returns-clause-takes : goal.returns-clause-takes
returns-clause-takes g c =
    takes-still _ (g.C.HeaderCheck.accepts c.args.check.now) c.args.flow.now c.go_on.new.self c.begin_close.new.self c.args.out.now c.go_on.new.out c.go_on.ensures.takes
    (λ setup comings given. c.begin_close.ensures.has_come (g.C.HeaderCheck.accepts c.args.check.now) setup comings given)
