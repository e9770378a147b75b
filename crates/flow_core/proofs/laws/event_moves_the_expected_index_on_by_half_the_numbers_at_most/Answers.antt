use Rattle.std.proofs.Common.{subst}
use Rattle.flow_core.specs.Fates.{Fates, IsExpected}
use Rattle.flow_core.specs.Events.{Changes}
use Rattle.flow_core.proofs.Outcome.{expected-unique, sound-after, onward-changes}
use Rattle.flow_core.proofs.laws.event_moves_the_expected_index_on_by_half_the_numbers_at_most.Goals as goal

pub returns : goal.returns
returns c = λ first width x y events event answers more fates after narrow is expected (x', answer, rest, between, expects, changes, (none, ends), are) expected_after.
    let same = expected-unique fates x' x expects expected in
    onward-changes first width x y event answer fates between narrow (sound-after first width events answers fates x is expected)
    (subst (λ k. Changes first width k event answer fates between) same changes)
    (subst (λ (f : Fates). IsExpected f y) ends expected_after)
