-- Nothing was read, and nothing was compared yet.
use Rattle.std.proofs.Common.{[]}
use Rattle.frame_engine.proofs.frame_reading.FrameReading.new.Goals as goal

pub returns-clause-begun_beside : goal.returns-clause-begun_beside
returns-clause-begun_beside c = λ comparing none.
    let has = c.in_ok-new.ensures.begun_beside comparing none in
    record { read = record { records = []; captured = c.new.ensures; joined = has.joined }; compares = has.compares }
