use Rattle.std.proofs.Common.{◌≡◌, drop}
use Rattle.burst_fates.specs.declared.missing_reason.MissingReason.TheVariants.{AllKept}
use Rattle.burst_fates.specs.Fates.{first_reason}
use Rattle.burst_fates.proofs.burst_fates.BurstFates.reason.Given as goal

-- all bursts before were kept
abbrev pub invariant-loop-id : goal.invariant-loop-id
invariant-loop-id l = first_reason AllKept l.self.told.items (drop l.id-index l.ids) ≡ first_reason AllKept l.self.told.items l.ids
