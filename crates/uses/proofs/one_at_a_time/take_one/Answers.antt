-- The input is taken as the receiver takes it.
use Rattle.uses.proofs.InputByInput.{inputs-one}
use Rattle.uses.proofs.one_at_a_time.take_one.Goals as goal

pub returns-in-Ok-clause-takes : goal.returns-in-Ok-clause-takes
returns-in-Ok-clause-takes g c =
    inputs-one g.O.Consumer.after g.C.HeaderCheck.accepts c.args.receiver.now c.take.new.self c.args.out.now c.take.new.out c.args.channel c.args.input c.in-Ok.field-0 c.in-Ok.ensures.replies
