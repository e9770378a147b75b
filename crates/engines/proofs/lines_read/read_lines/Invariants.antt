use Rattle.std.proofs.Common.{◌≡◌, ◌+◌, ◌-◌, ◌≤◌, vec_len}
use Rattle.std.specs.Io.KnownBytes.{IsAtEnd}
use Rattle.engines.specs.Inside.Transfer.{IsCounted}
use Rattle.engines.proofs.ReadLines.{HasReadSoFar}
use Rattle.engines.proofs.lines_read.read_lines.Given as goal

abbrev pub invariant-loop-count : goal.invariant-loop-count
invariant-loop-count g l = record {
  so_far : HasReadSoFar g.R.Read.remaining l.fn.reader l.reader g.T.TakeLine.format g.T.TakeLine.stands_for l.fn.taker l.input.taker l.input.reader l.room.items l.given l.count;
  counted : IsCounted l.reader (l.given + l.count);
  within : l.count ≤ vec_len l.room;
  at_end : l.count ≡ 0 → IsAtEnd (g.R.Read.remaining l.reader.inner);
  room : vec_len l.room ≡ 262144;
}

abbrev pub decreases-loop-count : goal.decreases-loop-count
decreases-loop-count g l = 268435456 - l.given
