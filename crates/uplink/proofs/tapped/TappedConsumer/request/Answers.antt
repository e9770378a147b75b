-- What is given is collected.
use Rattle.uplink.proofs.tapped.TappedConsumer.request.Goals as goal

pub returns : goal.returns
returns g c = λ start given before. c.request.ensures start.collected given before
