-- So far a front of the input was joined, with whatever settings and map.
use Rattle.std.proofs.Common.{◌≡◌, ◌≤◌, true, [], vec_len}
use Rattle.capture_map.specs.declared.map.CaptureMap.{CaptureMap}
use Rattle.engines.specs.Device.{inner_of, given_of, is_flushed, is_read_behind_flushes}
use Rattle.frame_engine.specs.declared.settings.CaptureSettings.{CaptureSettings}
use Rattle.frame_engine.specs.Begun.{IsBegun, IsBegunBeside, ComparesNothing, CanJoin}
use Rattle.frame_engine.proofs.Devices.{JoinsSoFar}
use Rattle.frame_engine.proofs.Beside.{ComparesSoFar}
use Rattle.frame_engine.proofs.Told.{TellsSoFar}
use Rattle.frame_engine.proofs.Shown.{JoinsShown}
use Rattle.frame_engine.proofs.capturing.join_capture.Given as goal

abbrev pub invariant-loop : goal.invariant-loop
invariant-loop g l = record {
  far : (settings : CaptureSettings) (capture_map : CaptureMap) → IsBegun settings capture_map l.fn.reading
      → JoinsSoFar g.R.Read.remaining g.W.Write.contents settings capture_map l.fn.reader l.reader l.fn.writer l.writer l.reading;
  beside : (settings : CaptureSettings) (capture_map : CaptureMap) → IsBegunBeside settings capture_map l.fn.reading → ComparesNothing capture_map l.fn.comparing
      → ComparesSoFar g.R.Read.remaining g.W.Write.contents settings capture_map l.fn.reader l.reader l.fn.writer l.writer l.reading l.comparing;
  shown : (settings : CaptureSettings) (capture_map : CaptureMap) → IsBegun settings capture_map l.fn.reading → (start : _) → g.R.ReadBehind.after start [] (inner_of l.fn.reader)
      → JoinsShown g.R.ReadBehind.after settings capture_map start (g.R.Read.remaining (inner_of l.fn.reader)) (g.W.Write.contents (inner_of l.fn.writer))
      (g.R.Read.remaining (inner_of l.reader)) (g.W.Write.contents (inner_of l.writer)) (inner_of l.reader) l.reading;
  ready : CanJoin l.reading;
  empty : l.reading.joining.file.bytes.items ≡ [];
  flushed : is_flushed l.writer ≡ true;
  behind : is_read_behind_flushes l.reader ≡ true;
  told : (settings : CaptureSettings) (capture_map : CaptureMap) → IsBegun settings capture_map l.fn.reading → (start : _) → g.P.TakeProgress.after start [] l.fn.told
      → TellsSoFar g.R.Read.remaining g.P.TakeProgress.after settings capture_map l.fn.reader start l.reader l.reading l.told;
  counted : l.counter ≤ given_of l.reader;
  room : vec_len l.piece ≡ 262144;
}
