use Rattle.std.proofs.Common.{◌≡◌, ℕ, ◌<◌}
use Rattle.docsis_wire.specs.Stream.{place_of}
use Rattle.docsis_wire.specs.Inside.Cursor.{place_at, IsPlaced}
use Rattle.docsis_wire.specs.Pieces.{chunks_of, IsUnlawful}
use Rattle.docsis_wire.proofs.pieces.check_pieces.Given as goal

abbrev pub invariant-loop-k : goal.invariant-loop-k
invariant-loop-k l = record {
  placed : IsPlaced l.frames l.at;
  place : place_at l.frames l.at ≡ place_of (chunks_of l.frames l.pieces) l.k;
  lawful : (i : ℕ) → i < l.k → ¬ IsUnlawful l.frames l.pieces i;
}
