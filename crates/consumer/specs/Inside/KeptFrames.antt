-- Frames that are kept, of which short ones stand end to end.
use Rattle.std.specs.Prelude.{◌≡◌, ℕ, ◌≤◌, Vec, List, [], ◌∷◌, slice_range, length, map}
use Rattle.std.proofs.Common.{suc, ap, refl, ◌∙◌}
use Rattle.std.specs.declared.alloc.Global.{Global}
use Rattle.consumer.specs.declared.frame_list.Kept.{Kept}
use Rattle.consumer.specs.declared.frame_list.Kept.TheVariants.{Short, Long}

-- the bytes of a frame, where the short ones have these bytes
abbrev pub kept_bytes : List ℕ → Kept → List ℕ
kept_bytes short (Short start end) = slice_range short start end
kept_bytes short (Long frame) = frame

-- it has a place among these bytes, if it is short
abbrev pub HasPlace : List ℕ → Kept → Type 0
HasPlace short (Short start end) = (start ≤ end) × (end ≤ length short)
HasPlace short (Long frame) = Unit {0}

-- there are as many frames as lists of their bytes
pub as_many : (short : List ℕ) (frames : List Kept) → length frames ≡ length (map (kept_bytes short) frames)
as_many short [] = refl
as_many short (frame ∷ frames) = ap suc (as_many short frames)

-- a list of frames as a `Vec` of their bytes
abbrev pub frames_kept : List ℕ → Vec Kept Global → Vec (List ℕ) Global
frames_kept short frames = record {
  ptr = frames.ptr;
  len = frames.len;
  cap = frames.cap;
  alloc = frames.alloc;
  items = map (kept_bytes short) frames.items;
  ok = (frames.ok.0 ∙ as_many short frames.items, frames.ok.1);
  small = frames.small;
}
