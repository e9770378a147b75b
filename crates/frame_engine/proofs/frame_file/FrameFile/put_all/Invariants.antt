-- What is written of the first steps is there.
use Rattle.std.proofs.Common.{◌≡◌, ◌++◌, take, length}
use Rattle.frame_engine.specs.Written.{written_in}
use Rattle.frame_engine.proofs.frame_file.FrameFile.put_all.Given as goal

abbrev pub invariant-loop-step : goal.invariant-loop-step
invariant-loop-step l = record {
  bytes : l.self.bytes.items ≡ l.fn.self.bytes.items ++ written_in l.fn.self.link l.fn.self.channels.items (take l.step-index l.steps);
  link : l.self.link ≡ l.fn.self.link;
  channels : l.self.channels ≡ l.fn.self.channels;
  kept : l.kept ≡ length l.fn.self.bytes.items;
}
