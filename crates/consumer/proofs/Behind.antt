-- Frames that are kept stay as they are when short ones come behind them.
use Rattle.std.proofs.Common.{◌≡◌, ℕ, ◌-◌, List, [], ◌∷◌, ◌++◌, length, map, take, drop, All, ap, sym, refl, ◌∙◌, arith, ◌+◌}
use Rattle.std.proofs.lemmas.List.{take-append-le, drop-append-le, drop_at, take_all, length-drop, map-append}
use Rattle.std.proofs.lemmas.List.Elements.{All-head, All-tail}
use Rattle.consumer.specs.declared.frame_list.Kept.{Kept}
use Rattle.consumer.specs.declared.frame_list.Kept.TheVariants.{Short, Long}
use Rattle.consumer.specs.Inside.KeptFrames.{kept_bytes, HasPlace}

-- a frame has its bytes
one-stays : (short more : List ℕ) (frame : Kept) → HasPlace short frame → kept_bytes (short ++ more) frame ≡ kept_bytes short frame
one-stays short more (Short start end) place =
    let long = length-drop start short in
    ap (take (end - start)) (drop-append-le start short more (omega arith))
    ∙ take-append-le (end - start) (drop start short) more (omega arith)
one-stays short more (Long frame) place = refl

-- all have theirs
pub frames-stay : (short more : List ℕ) (frames : List Kept) → All (HasPlace short) frames → map (kept_bytes (short ++ more)) frames ≡ map (kept_bytes short) frames
frames-stay short more [] places = refl
frames-stay short more (frame ∷ frames) places =
    rw (one-stays short more frame (All-head (HasPlace short) frame frames places), frames-stay short more frames (All-tail (HasPlace short) frame frames places)) refl

-- a short frame has the bytes that came behind the others
last-has : (short more : List ℕ) (start end : ℕ) → start ≡ length short → end ≡ length short + length more → kept_bytes (short ++ more) (Short start end) ≡ more
last-has short more start end from to =
    ap (take (end - start)) (drop_at short more start (sym from)) ∙ take_all (end - start) more (omega arith)

-- and stands behind them
pub short-kept : (short more : List ℕ) (frames : List Kept) (start end : ℕ) → All (HasPlace short) frames → start ≡ length short → end ≡ length short + length more
    → map (kept_bytes (short ++ more)) (frames ++ Short start end ∷ []) ≡ map (kept_bytes short) frames ++ more ∷ []
short-kept short more frames start end places from to =
    map-append (kept_bytes (short ++ more)) frames (Short start end ∷ [])
    ∙ rw (frames-stay short more frames places, last-has short more start end from to) refl
