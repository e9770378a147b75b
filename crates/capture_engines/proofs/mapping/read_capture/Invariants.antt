use Rattle.std.proofs.Common.{◌≡◌, ◌≤◌, vec_len}
use Rattle.engines.specs.Device.{given_of}
use Rattle.capture_engines.proofs.ReadCapture.{ReadsSoFar}
use Rattle.capture_engines.proofs.mapping.read_capture.Given as goal

abbrev pub invariant-loop : goal.invariant-loop
invariant-loop g l = record {
  far : ReadsSoFar g.R.Read.remaining l.fn.reader l.reader l.reading;
  counted : l.counter ≤ given_of l.reader;
  room : vec_len l.piece ≡ 262144;
}
