-- What its flow gives a receiver gives.
use Rattle.std.proofs.Common.{[], refl}
use Rattle.receiver.proofs.InputsTaken.{takes-flows, still-receiving}
use Rattle.receiver.proofs.receiver.Receiver.go_on.Goals as goal

pub returns-clause-takes : goal.returns-clause-takes
returns-clause-takes g c =
    takes-flows g.C.HeaderCheck.accepts g.O.Consumer.after c.args.self.now _ c.args.out.now c.go_on.new.out [] [] refl (λ channel. refl) (λ made count. refl) c.args.flow c.go_on.ensures.takes

pub returns-clause-receiving : goal.returns-clause-receiving
returns-clause-receiving g c =
    still-receiving g.C.HeaderCheck.accepts g.O.Consumer.after c.args.self.now _ c.args.out.now c.go_on.new.out [] c.requires.receiving (returns-clause-takes g c)
