-- Both have taken their inputs, and are closed.
use Rattle.std.proofs.Common.{map}
use Rattle.uses.proofs.InputByInput.{inputs-received}
use Rattle.uses.proofs.two_receivers.receive_in_turn.Goals as goal

pub returns-clause-first : goal.returns-clause-first
returns-clause-first g c =
    inputs-received g.O.Consumer.after g.C.HeaderCheck.accepts c.args.first c.take_in_turn.new.first c.take_in_turn.new.first c.args.first_out.now c.take_in_turn.new.first_out c.close_one.new.out (map (λ turn. turn.0) c.args.turns.items)
    c.in_ok-take_in_turn.ensures.first c.in_ok-closed.closed c.in_ok-closed.ensures

pub returns-clause-second : goal.returns-clause-second
returns-clause-second g c =
    inputs-received g.O.Consumer.after g.C.HeaderCheck.accepts c.args.second c.take_in_turn.new.second c.take_in_turn.new.second c.args.second_out.now c.take_in_turn.new.second_out c.close_one-2.new.out (map (λ turn. turn.1) c.args.turns.items)
    c.in_ok-take_in_turn.ensures.second c.in_ok-close_one.field-0 c.in_ok-close_one.ensures
