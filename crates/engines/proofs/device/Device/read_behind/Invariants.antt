use Rattle.std.proofs.Common.{◌≡◌, []}
use Rattle.std.specs.Io.KnownBytes.{Keeps}
use Rattle.engines.specs.Device.{inner_of}
use Rattle.engines.specs.FlushedReads.{MakesReads}
use Rattle.engines.proofs.device.Device.read_behind.Given as goal

abbrev pub invariant-loop : goal.invariant-loop
invariant-loop g l = record {
  kept : Keeps (g.R.Read.remaining l.fn.self.inner) (g.R.Read.remaining l.self.inner);
  failed : l.self.failed ≡ l.fn.self.failed;
  given : l.self.given ≡ l.fn.self.given;
  flushed : l.self.flushed ≡ l.fn.self.flushed;
  behind : l.self.behind_flushes ≡ l.fn.self.behind_flushes;
  shown : MakesReads g.R.ReadBehind.after (g.W.Write.contents (inner_of l.fn.writer)) l.fn.self.inner l.self.inner [];
}
