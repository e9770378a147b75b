-- Of each flow no frame is only one side's.
use Rattle.frame_engine.proofs.EqualEnds.{none-lonely}
use Rattle.frame_engine.proofs.laws.files_that_compare_equal_have_the_analysers_frames.Goals as goal

pub returns : goal.returns
returns c = λ settings capture_map old new input text compared finishes equal.
    let has = compared.compares in
    record {
      joined = compared.joined;
      same = λ k within chosen.
          let alone = none-lonely capture_map has.arrivals old new k has.compared finishes equal in
          c.frames_that_compare_equal_are_the_analysers.ensures settings.selected capture_map compared.joined.records compared.joined.joined.frames.file.timed has.arrivals _ k has.are
          within chosen alone.0 alone.1;
    }
