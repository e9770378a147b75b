-- What a box owns that was made or not.
use Rattle.std.specs.Prelude.{Option, Some, None}
use mir.Syntax.{Ty}
use base.Fml.{Fml, ftrue, ffalse}
use denote.RattleType.{RattleType}
use denote.RawPtr.{Ptr, block_ptr, null_ptr}
use Rattle.std.specs.Box.Ownership.{box_owns}

-- the pointer is NULL
abbrev pub is_null : Ptr → Fml
is_null (block_ptr b o) = ffalse
is_null null_ptr = ftrue

-- a value of this type in a block of its own, with the right to free it; or none, and NULL
abbrev pub given_at : (Ty → Ptr → Fml) → (R : RattleType) → Ptr → Option R.Denot → Fml
given_at holds R p None = is_null p
given_at holds R p (Some x) = box_owns holds R p x
