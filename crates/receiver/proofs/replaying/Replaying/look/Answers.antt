-- What is answered is answered after what was handed in.
use Rattle.std.proofs.Common.{subst}
use Rattle.receiver.specs.Receiving.{WouldCome}
use Rattle.receiver.proofs.ReplayedEntries.{bound-for}
use Rattle.receiver.proofs.replaying.Replaying.look.Goals as goal

pub returns : goal.returns
returns g c rule check setup entries was =
    let would = subst (λ on. WouldCome g.C.HeaderCheck.accepts c.args.self.now.playing.receiver on c.args.input.now c.look.result) c.from.ensures c.look.ensures in
    bound-for g.C.HeaderCheck.accepts rule check setup c.args.self.now entries was c.args.channel c.args.input.now c.look.result c.requires.channel would
