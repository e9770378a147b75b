use Rattle.std.proofs.Common.{None, Some, refl}
use Rattle.std.proofs.lemmas.Result.{on_ok_weaker}
use Rattle.registrations.specs.Joining.{whole_seen}
use Rattle.capture_engines.specs.Inside.Reading.{part_joined, part_refused}
use Rattle.capture_engines.proofs.map_reading.MapReading.take_part.Goals as goal

pub returns-in_ok-take-in-Ok-Some-clause-taken : goal.returns-in_ok-take-in-Ok-Some-clause-taken
returns-in_ok-take-in-Ok-Some-clause-taken c =
    part_joined (Some (whole_seen c.in-Ok-Some.message))
    (record { joins = rw c.in-Ok-Some.field-0-is at c.in-Ok-Some.ensures.taken; others = c.in-Ok-Some.ensures.others })
    c.in_ok-take-in-Ok-Some.ensures.taken

pub returns-in-Ok-None-clause-taken : goal.returns-in-Ok-None-clause-taken
returns-in-Ok-None-clause-taken c =
    part_joined None (record { joins = rw c.in-Ok-None.field-0-is at c.in-Ok-None.ensures.taken; others = c.in-Ok-None.ensures.others }) refl

pub returns-in-Err-clause-taken : goal.returns-in-Err-clause-taken
returns-in-Err-clause-taken c =
    on_ok_weaker c.after_refusal.result (λ other. part_refused c.in-Err.fault other c.in-Err.ensures.refused c.in-Err.ensures.others refl) c.after_refusal.ensures.other
