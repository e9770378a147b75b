-- What a segment that is given part by part keeps.
use Rattle.std.specs.Prelude.{ℕ, List, ◌++◌, replicate}
use Rattle.std.specs.List.{AllByRecursion}
use Rattle.docsis_wire.specs.declared.cursor.Cursor.{Cursor}
use Rattle.docsis_wire.specs.declared.pieces.FillByte.{FillByte}
use Rattle.docsis_wire.specs.Frame.{IsGenericFrame}
use Rattle.docsis_wire.specs.Inside.Cursor.{IsPlaced, chunk_at}
use Rattle.docsis_wire.specs.Pieces.{fill_byte}

-- what was not given yet: the next bytes of the frames, and fill
abbrev pub payload_left : List (List ℕ) → Cursor → ℕ → ℕ → FillByte → List ℕ
payload_left frames at bytes filling fill = chunk_at frames at bytes ++ replicate filling (fill_byte fill)

-- the cursor stands in frames
pub record IsWithin (frames : List (List ℕ)) (at : Cursor) : Type 0 where
  pub placed : IsPlaced frames at
  pub each : AllByRecursion IsGenericFrame frames
