use Rattle.std.proofs.Common.{◌≡◌, ◌≤◌, false, drop, length}
use Rattle.burst_fates.specs.Fates.{last_of, was_kept}
use Rattle.burst_fates.proofs.burst_fates.BurstFates.fate_of.Given as goal

-- the burst wasn't kept by what was looked at, and this is what was told last there
abbrev pub invariant-loop-left : goal.invariant-loop-left
invariant-loop-left l = record {
  kept : was_kept l.id (drop l.left l.self.told.items) ≡ false;
  last : l.last ≡ last_of l.id (drop l.left l.self.told.items);
  within : l.left ≤ length l.self.told.items;
}

abbrev pub decreases-loop-left : goal.decreases-loop-left
decreases-loop-left l = l.left
