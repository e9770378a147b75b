use Rattle.std.proofs.Common.{[], ◌∷◌}
use Rattle.capture.specs.SeenCapture.{capture_parts}
use Rattle.frame_engine.proofs.Reading.{joins-record}
use Rattle.frame_engine.proofs.Beside.{record-beside, none-beside}
use Rattle.frame_engine.proofs.frame_reading.FrameReading.take_some.Goals as goal

pub returns-in_ok-take_record-in-Some-clause-taken : goal.returns-in_ok-take_record-in-Some-clause-taken
returns-in_ok-take_record-in-Some-clause-taken c =
    joins-record c.args.self.now (record { reader = c.take.new.self; joining = c.take_record.new.self }) c.args.piece.now c.in-Ok.field-0.rest.now
    (capture_parts c.in-Some.given ∷ []) (rw c.in-Some.is at c.in-Ok.ensures.taken) c.in_ok-take_record-in-Some.ensures.taken

pub returns-in_ok-take_record-in-Some-clause-compared : goal.returns-in_ok-take_record-in-Some-clause-compared
returns-in_ok-take_record-in-Some-clause-compared c =
    record-beside c.args.self.now (record { reader = c.take.new.self; joining = c.take_record.new.self }) c.args.piece.now c.in-Ok.field-0.rest.now
    (capture_parts c.in-Some.given ∷ []) c.args.comparing.now c.take_record.new.comparing (rw c.in-Some.is at c.in-Ok.ensures.taken)
    c.in_ok-take_record-in-Some.ensures.compared

pub returns-in-None-clause-compared : goal.returns-in-None-clause-compared
returns-in-None-clause-compared c =
    record-beside c.args.self.now (record { reader = c.take.new.self; joining = c.args.self.now.joining }) c.args.piece.now c.in-Ok.field-0.rest.now [] c.args.comparing.now
    c.args.comparing.now (rw c.in-None.is at c.in-Ok.ensures.taken)
    (λ settings capture_map records written has. none-beside settings capture_map records written c.args.self.now.joining c.args.comparing.now has)
