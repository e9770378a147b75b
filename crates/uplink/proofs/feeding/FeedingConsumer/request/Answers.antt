-- A request is offered to no feeder.
use Rattle.std.proofs.Common.{◌∷◌, []}
use Rattle.consumer.specs.declared.given.Given.TheVariants.{Asked}
use Rattle.uplink.proofs.FramesOffered.{offered-on, request-offered}
use Rattle.uplink.proofs.feeding.FeedingConsumer.request.Goals as goal

pub returns : goal.returns
returns c = λ start given before.
    let feeding = c.args.self.now in
    offered-on start feeding feeding given (Asked c.args._request ∷ []) before (request-offered feeding c.args._request)
