-- The inputs are taken, and then all is closed.
use Rattle.std.proofs.lemmas.Result.{IfOk-weaker}
use Rattle.uses.proofs.InputByInput.{inputs-received}
use Rattle.uses.proofs.one_at_a_time.receive_all.Goals as goal

pub returns : goal.returns
returns g c =
    IfOk-weaker c.close_one.result _ _
    (λ closed closes.
    inputs-received g.O.Consumer.after g.C.HeaderCheck.accepts c.args.receiver c.take_all.new.receiver c.take_all.new.receiver c.args.out.now c.take_all.new.out c.close_one.new.out c.args.inputs.items c.in_ok-take_all.ensures.takes
    closed closes)
    c.close_one.ensures
