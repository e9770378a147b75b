-- The record at the index.
use Rattle.std.proofs.Common.{refl}
use Rattle.std.proofs.lemmas.Option.{slice_get-get_or}
use Rattle.lane.proofs.grant.SidFlow.of.Goals as goal

pub returns-clause-clusters : goal.returns-clause-clusters
returns-clause-clusters c = (_, slice_get-get_or c.args.records.now c.args.index _ c.requires.exists, refl)
