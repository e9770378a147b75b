use Rattle.std.proofs.Common.{◌≡◌, length}
use Rattle.engines.specs.Transfer.{AppendsBefore}
use Rattle.engines.proofs.transfer.write_bytes.Given as goal

abbrev pub invariant-loop-rest : goal.invariant-loop-rest
invariant-loop-rest g l = record {
  went : AppendsBefore (g.W.Write.contents l.fn.writer.inner) (g.W.Write.contents l.writer.inner) l.bytes l.rest;
  sound : l.writer.failed ≡ l.fn.writer.failed;
}

abbrev pub decreases-loop-rest : goal.decreases-loop-rest
decreases-loop-rest g l = length l.rest
