use Rattle.captured_flows.proofs.Replied.{takes-replied}
use Rattle.captured_flows.proofs.taken_inputs.take_unadmitted.Goals as goal

pub returns-else-admits_nothing-clause-fails : goal.returns-else-admits_nothing-clause-fails
returns-else-admits_nothing-clause-fails g c =
    takes-replied g.C.HeaderCheck.accepts g.O.Consumer.after c.args.receiver.now c.take.new.self c.args.out.now c.take.new.out c.args.channel c.args.input c.in_ok-reply.reply c.in_ok-reply.ensures.replies
