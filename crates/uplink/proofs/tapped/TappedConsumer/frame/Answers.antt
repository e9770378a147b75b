-- What is given is collected.
use Rattle.uplink.proofs.tapped.TappedConsumer.frame.Goals as goal

pub returns : goal.returns
returns g c = λ start given before. c.frame.ensures start.collected given before
