use Rattle.std.proofs.lemmas.Result.{on_ok_weaker}
use Rattle.capture.specs.SeenCapture.{capture_parts}
use Rattle.registrations.specs.Part.{part_seen}
use Rattle.capture_engines.proofs.Records.{holds_part, holds_no_part, message_taken, no_message}
use Rattle.capture_engines.proofs.map_reading.MapReading.take_message.Goals as goal

pub returns-in-Ok-clause-taken : goal.returns-in-Ok-clause-taken
returns-in-Ok-clause-taken c =
    let one = capture_parts c.args.given.now in
    let holds = holds_part one c.deref.result.now c.in-Ok.part c.requires c.deref.ensures.value c.in-Ok.ensures.found in
    on_ok_weaker c.take_part.result (message_taken c.args.self.now c.take_part.new.self one (part_seen c.in-Ok.part) holds) c.take_part.ensures.taken

pub returns-in-Err-clause-taken : goal.returns-in-Err-clause-taken
returns-in-Err-clause-taken c =
    let one = capture_parts c.args.given.now in
    no_message c.args.self.now one (holds_no_part one c.deref.result.now c.in-Err.field-0 c.deref.ensures.value c.in-Err.ensures.spelled)
