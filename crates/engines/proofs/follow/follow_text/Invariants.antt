-- So far a front of the input was followed.
use Rattle.std.proofs.Common.{◌≡◌, ◌≤◌, true, [], vec_len}
use Rattle.engines.specs.Device.{inner_of, given_of, is_read_behind_flushes}
use Rattle.engines.proofs.FollowedDevices.{FollowsSoFar}
use Rattle.engines.proofs.FollowedReads.{FollowsShown}
use Rattle.engines.proofs.follow.follow_text.Given as goal

abbrev pub invariant-loop : goal.invariant-loop
invariant-loop g l = record {
  far : FollowsSoFar g.R.Read.remaining g.W.Write.contents l.fn.rule l.fn.width l.fn.settings l.fn.reader l.reader l.fn.writer l.writer l.follower;
  shown : (start : _) → g.R.ReadBehind.after start [] (inner_of l.fn.reader)
      → FollowsShown g.R.ReadBehind.after l.fn.rule l.fn.width l.fn.settings start (g.R.Read.remaining (inner_of l.fn.reader)) (g.W.Write.contents (inner_of l.fn.writer))
      (g.R.Read.remaining (inner_of l.reader)) (g.W.Write.contents (inner_of l.writer)) (inner_of l.reader) l.follower;
  behind : is_read_behind_flushes l.reader ≡ true;
  counted : l.counter ≤ given_of l.reader;
  room : vec_len l.piece ≡ 262144;
}
