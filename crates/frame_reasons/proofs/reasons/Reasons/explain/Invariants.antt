use Rattle.std.proofs.Common.{◌≡◌, ◌++◌, take, drop, length}
use Rattle.frame_reasons.specs.Told.{reasons_of}
use Rattle.frame_reasons.proofs.reasons.Reasons.explain.Given as goal

-- the frames before have their reasons
abbrev pub invariant-loop-place : goal.invariant-loop-place
invariant-loop-place l = record {
  fates : l.self.fates ≡ l.fn.self.fates;
  listed : l.self.listed.items ≡ l.fn.self.listed.items ++ reasons_of l.fn.self.fates.told.items (drop (length l.fn.self.listed.items) (take l.place l.frames));
  many : length l.self.listed.items ≡ l.place;
}
