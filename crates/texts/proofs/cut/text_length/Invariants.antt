use Rattle.std.proofs.Common.{◌≡◌, ◌^◌, ◌-◌, take, length, min}
use Rattle.std.specs.Prelude.{sum_by}
use Rattle.texts.proofs.cut.text_length.Given as goal

abbrev pub invariant-loop-frame : goal.invariant-loop-frame
invariant-loop-frame l = l.stream ≡ min (sum_by length (take l.frame-index l.frame-items)) (2 ^ 64 - 1)

abbrev pub invariant-loop-piece : goal.invariant-loop-piece
invariant-loop-piece l = record {
  data_is : l.«data» ≡ min (sum_by (λ piece. piece.bytes) (take l.piece-index l.piece-items)) (2 ^ 64 - 1);
  fill_is : l.fill ≡ min (sum_by (λ piece. piece.fill) (take l.piece-index l.piece-items)) (2 ^ 64 - 1);
}
