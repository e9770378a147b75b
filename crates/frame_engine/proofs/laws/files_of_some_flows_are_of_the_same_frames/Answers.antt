-- The whole file is of all that came.
use Rattle.std.proofs.Common.{◌++◌, map}
use Rattle.captured_flows.specs.Steps.{gave}
use Rattle.captured_flows.proofs.Followed.{follow-plays, follow-closed}
use Rattle.frame_engine.specs.Joined.{made, check}
use Rattle.frame_engine.proofs.WholeFile.{whole-comes, whole-ends, whole-file-of}
use Rattle.frame_engine.proofs.laws.files_of_some_flows_are_of_the_same_frames.Goals as goal

pub returns-clause-whole : goal.returns-clause-whole
returns-clause-whole c = λ settings capture_map input text joined.
    let frames = joined.joined.frames in
    let steps = frames.steps ++ map gave frames.rest in
    let follow = follow-closed (check settings capture_map) (made settings capture_map) frames.handed frames.steps frames.rest frames.closed frames.comes.plays frames.received in
    let file = whole-file-of settings capture_map steps text frames.file follow in (
      file.0,
      file.1,
      record {
        reader = joined.reader;
        records = joined.records;
        captured = joined.captured;
        whole = joined.whole;
        joined = record {
          bursts = joined.joined.bursts;
          are = joined.joined.are;
          frames = record {
            handed = frames.handed;
            steps = frames.steps;
            comes = whole-ends settings capture_map joined.joined.bursts frames.handed frames.steps frames.comes;
            rest = frames.rest;
            closed = frames.closed;
            received = frames.received;
            file = file.2;
          };
        };
      },
      file.3,
      file.4,
    )

pub returns-clause-so_far : goal.returns-clause-so_far
returns-clause-so_far c = λ settings capture_map records text joined.
    let frames = joined.frames in
    let follow = follow-plays (check settings capture_map) (made settings capture_map) frames.comes.plays in
    let file = whole-file-of settings capture_map frames.steps text frames.file follow in (
      file.0,
      file.1,
      record {
        bursts = joined.bursts;
        are = joined.are;
        frames = record {
          handed = frames.handed;
          flows = frames.flows;
          steps = frames.steps;
          comes = whole-comes settings capture_map joined.bursts frames.handed frames.flows frames.steps frames.comes;
          file = file.2;
        };
      },
      file.3,
      file.4,
    )

pub returns-clause-at_end : goal.returns-clause-at_end
returns-clause-at_end c = λ settings capture_map records text joined.
    let frames = joined.frames in
    let follow = follow-plays (check settings capture_map) (made settings capture_map) frames.comes.plays in
    let file = whole-file-of settings capture_map frames.steps text frames.file follow in (
      file.0,
      file.1,
      record {
        bursts = joined.bursts;
        are = joined.are;
        frames = record {
          handed = frames.handed;
          steps = frames.steps;
          comes = whole-ends settings capture_map joined.bursts frames.handed frames.steps frames.comes;
          file = file.2;
        };
      },
      file.3,
      file.4,
    )
