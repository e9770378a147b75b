-- What a cutter keeps.
use Rattle.std.specs.Prelude.{◌≡◌, ℕ, ◌<◌, ◌≤◌, List, length}
use Rattle.std.specs.List.{AllByRecursion}
use Rattle.docsis_wire.specs.declared.cursor.Cursor.{Cursor}
use Rattle.docsis_wire.specs.declared.pieces.Piece.{Piece}
use Rattle.docsis_wire.specs.Limits.{sequence_modulus}
use Rattle.docsis_wire.specs.Frame.{IsGenericFrame}
use Rattle.docsis_wire.specs.Stream.{place_of}
use Rattle.docsis_wire.specs.Pieces.{chunks_of, IsUnlawful}
use Rattle.docsis_wire.specs.Inside.Cursor.{place_at, IsPlaced}

-- Nothing is at fault, and the cursor stands after the chunk of the last segment that was made.
pub record IsUnderWay (frames : List (List ℕ)) (pieces : List Piece) (first made : ℕ) (at : Cursor) : Type 0 where
  pub each : AllByRecursion IsGenericFrame frames
  pub lawful : (k : ℕ) → ¬ IsUnlawful frames pieces k
  pub first_in_range : first < sequence_modulus
  pub within : made ≤ length pieces
  pub placed : IsPlaced frames at
  pub place : place_at frames at ≡ place_of (chunks_of frames pieces) made
