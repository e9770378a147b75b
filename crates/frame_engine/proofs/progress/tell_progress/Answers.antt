use Rattle.std.proofs.Common.{inl, refl}
use Rattle.frame_engine.proofs.Told.{tells}
use Rattle.frame_engine.proofs.progress.tell_progress.Goals as goal

pub returns-then-not-is_due : goal.returns-then-not-is_due
returns-then-not-is_due g c = λ start told came. inl (c.is_due.ensures start told came)

pub returns : goal.returns
returns g c =
    let counts = c.counts_so_far-counts.result in
    tells g.P.TakeProgress.after c.args.reading.now c.args.tally.now.summary.flows.items c.args.bytes
    (record { bytes = c.args.bytes; records = c.args.reading.now.joining.records; frames = counts.frames; lost = counts.lost })
    c.args.told.now c.is_due.new.self c.take.new.self c.is_due.ensures
    (record { bytes_are = refl; records_are = refl; counts = counts; are_counted = c.counts_so_far-counts.ensures; frames_are = refl; lost_are = refl }) c.take.ensures
