use Rattle.receiver.proofs.HeldSegments.{holds-once, holds-unjoined}
use Rattle.receiver.proofs.laws.held_segments_were_kept_and_are_not_joined.Goals as goal

pub returns-clause-unjoined : goal.returns-clause-unjoined
returns-clause-unjoined c = holds-unjoined

pub returns-clause-one : goal.returns-clause-one
returns-clause-one c = holds-once
