use Rattle.std.proofs.Common.{◌≡◌, false}
use Rattle.std.specs.Io.KnownBytes.{Keeps}
use Rattle.engines.proofs.device.DeviceWrite.write.Given as goal

abbrev pub invariant-loop : goal.invariant-loop
invariant-loop g l = record {
  kept : Keeps (g.W.Write.contents l.fn.self.inner) (g.W.Write.contents l.self.inner);
  failed : l.self.failed ≡ l.fn.self.failed;
  given : l.self.given ≡ l.fn.self.given;
  flushed : l.self.flushed ≡ false;
  behind : l.self.behind_flushes ≡ l.fn.self.behind_flushes;
}
