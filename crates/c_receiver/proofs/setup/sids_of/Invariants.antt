use Rattle.std.proofs.Common.{◌≡◌, map, take}
use Rattle.c_receiver.specs.Made.{row_of}
use Rattle.c_receiver.proofs.setup.sids_of.Given as goal

abbrev pub invariant-loop-row : goal.invariant-loop-row
invariant-loop-row l = l.sids.items ≡ map row_of (take l.row-index l.rows)
