use Rattle.capture.specs.SeenBurst.{burst_parts}
use Rattle.capture.specs.SeenCapture.{capture_parts}
use Rattle.capture_engines.specs.Telling.{shown}
use Rattle.capture_engines.proofs.Records.{holds_burst}
use Rattle.capture_engines.proofs.map_reading.MapReading.take_burst.Goals as goal

pub returns-in_ok-take-in-Ok-clause-shown : goal.returns-in_ok-take-in-Ok-clause-shown
returns-in_ok-take-in-Ok-clause-shown c =
    shown (burst_parts c.in-Ok.burst)
    (holds_burst (capture_parts c.args.given.now) c.deref.result.now c.in-Ok.burst c.requires c.deref.ensures.value c.in-Ok.ensures.found)
    c.in_ok-take-in-Ok.ensures.taken
