-- The frames of both sides are the same.
use Rattle.std.proofs.Common.{List, ℕ, subst, ◌∙◌}
use Rattle.frame_engine.specs.Compared.{AreTheAnalysers}
use Rattle.frame_engine.proofs.EqualFrames.{both-sides}
use Rattle.frame_engine.proofs.laws.frames_that_compare_equal_are_the_analysers.Goals as goal

pub returns : goal.returns
returns c = λ selected capture_map records timed arrivals flows k are within chosen no_analyser no_here.
    let both = both-sides selected k chosen capture_map records timed arrivals are in
    let same = c.nothing_lonely_means_equal.ensures flows k arrivals within no_analyser no_here in
    subst (λ (frames : List (List ℕ)). AreTheAnalysers capture_map k records frames) (same ∙ both.0) both.1
