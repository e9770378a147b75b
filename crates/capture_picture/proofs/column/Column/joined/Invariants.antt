use Rattle.std.proofs.Common.{◌≡◌, ℕ, ◌<◌, ◌≤◌, length, get_or, None}
use Rattle.capture_picture.specs.Spans.{both_spans}
use Rattle.capture_picture.proofs.column.Column.joined.Given as goal

-- the spans below the channel are those of both, and the others are as they were
abbrev pub invariant-loop-channel : goal.invariant-loop-channel
invariant-loop-channel l =
    (length l.spans ≡ 16)
    × ((k : ℕ) → k < l.channel → get_or l.spans k None ≡ both_spans (get_or l.self.spans k None) (get_or l.other.spans k None))
    × ((k : ℕ) → l.channel ≤ k → get_or l.spans k None ≡ get_or l.self.spans k None)
    × (length l.self.spans ≡ 16)
