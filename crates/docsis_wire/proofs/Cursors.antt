-- A cursor moves over the frames' stream.
use Rattle.std.proofs.Common.{◌≡◌, ℕ, zero, suc, ◌+◌, ◌-◌, ◌<◌, ◌≤◌, inl, inr, Some, List, [], length, ◌++◌, get_or, take, drop, slice_get, refl, sym, ap, ◌∙◌, arith}
use Rattle.std.specs.List.{concat, AllByRecursion}
use Rattle.std.proofs.lemmas.Bool.{cases_lt}
use Rattle.std.proofs.lemmas.List.{drop-drop, drop_all, take_all, take_at, take_rest, length-drop}
use Rattle.std.proofs.lemmas.Option.{slice_get_read, slice_get_cases}
use Rattle.docsis_wire.specs.declared.cursor.Cursor.{Cursor}
use Rattle.docsis_wire.specs.Frame.{IsGenericFrame}
use Rattle.docsis_wire.specs.Stream.{place_of}
use Rattle.docsis_wire.specs.Inside.Cursor.{place_at, IsPlaced, chunk_at}
use Rattle.docsis_wire.proofs.FrameHeads.{length-frame}
use Rattle.docsis_wire.proofs.StreamPlaces.{place_of-next}
use Rattle.docsis_wire.proofs.Stretches.{AllByRecursion-at, behind_place, front_of-append, take-split, place_of-le_all}

-- the frame that was read at an index, by its bytes
pub frame_found : (frames : List (List ℕ)) (k : ℕ) (frame bytes : List ℕ) → k < length frames → frame ≡ get_or frames k frame → bytes ≡ frame → slice_get frames k ≡ Some bytes
frame_found frames k frame bytes within read same = slice_get_read frames (length frames) k frame refl within read ∙ ap Some (sym same)

-- a frame has bytes
pub some_bytes : (frames : List (List ℕ)) (k : ℕ) (frame : List ℕ) → AllByRecursion IsGenericFrame frames → slice_get frames k ≡ Some frame → 0 < length frame
some_bytes frames k frame each e = let h = AllByRecursion-at IsGenericFrame frames k frame each e in omega (arith, length-frame frame h)

-- a frame's rest stands at the cursor
rest_of-frame : (frames : List (List ℕ)) (at : Cursor) (frame : List ℕ) → slice_get frames at.frame ≡ Some frame → at.offset ≤ length frame
    → drop (place_at frames at) (concat frames) ≡ take (length frame - at.offset) (drop at.offset frame) ++ concat (drop (suc at.frame) frames)
rest_of-frame frames at frame e within =
    behind_place frames at.frame at.offset frame e within ∙ ap (λ t. t ++ concat (drop (suc at.frame) frames)) (sym (take_rest frame at.offset))

-- what of a frame's rest is taken is the front of what stands at the cursor
pub part_of-frame : (frames : List (List ℕ)) (at : Cursor) (frame : List ℕ) (most : ℕ) → slice_get frames at.frame ≡ Some frame → at.offset ≤ length frame
    → take most (take (length frame - at.offset) (drop at.offset frame)) ≡ chunk_at frames at (length (take most (take (length frame - at.offset) (drop at.offset frame))))
part_of-frame frames at frame most e within =
    front_of-append (drop (place_at frames at) (concat frames)) (take (length frame - at.offset) (drop at.offset frame)) (concat (drop (suc at.frame) frames)) most (rest_of-frame frames at frame e within)

-- a frame's whole rest is the front of what stands at the cursor
pub rest_of-chunk : (frames : List (List ℕ)) (at : Cursor) (frame : List ℕ) → slice_get frames at.frame ≡ Some frame → at.offset ≤ length frame
    → take (length frame - at.offset) (drop at.offset frame) ≡ chunk_at frames at (length (take (length frame - at.offset) (drop at.offset frame)))
rest_of-chunk frames at frame e within =
    let rest = take (length frame - at.offset) (drop at.offset frame) in
    sym (ap (take (length rest)) (rest_of-frame frames at frame e within) ∙ take_at rest (concat (drop (suc at.frame) frames)) (length rest) refl)

-- a frame's rest has the frame's other bytes
pub length-rest : (frame : List ℕ) (n : ℕ) → length (take (length frame - n) (drop n frame)) ≡ length frame - n
length-rest frame n = ap length (take_rest frame n) ∙ length-drop n frame

-- a cursor stands within the stream
pub place_at-le : (frames : List (List ℕ)) (at : Cursor) → IsPlaced frames at → place_at frames at ≤ length (concat frames)
place_at-le frames at placed =
    elim (slice_get_cases frames at.frame).1 [
      | inl h ↦ omega (arith, placed.before h.0 h.2, place_of-next frames at.frame h.0 h.2, place_of-le_all frames (at.frame + 1))
      | inr h ↦ omega (arith, placed.at_end (omega (arith, placed.within, h.0)), place_of-le_all frames at.frame)
    ]

-- a chunk is its front and what comes after that
chunk_at-split : (frames : List (List ℕ)) (at to : Cursor) (n left : ℕ) → n ≤ left → place_at frames to ≡ place_at frames at + n
    → chunk_at frames at left ≡ chunk_at frames at n ++ chunk_at frames to (left - n)
chunk_at-split frames at to n left within moved =
    let rest : List ℕ = drop (place_at frames at) (concat frames) in
    let whole : n + (left - n) ≡ left = omega arith in
    ap (λ m. take m rest) (sym whole) ∙ take-split rest n (left - n)
    ∙ ap (λ t. take n rest ++ take (left - n) t) (drop-drop n (place_at frames at) (concat frames) ∙ ap (λ p. drop p (concat frames)) (sym moved))

-- the part that comes next is taken off what has to come
pub chunk_at-after : (frames : List (List ℕ)) (at to : Cursor) (bytes : ℕ) (part : List ℕ) → length part ≤ bytes → place_at frames to ≡ place_at frames at + length part
    → part ≡ chunk_at frames at (length part) → chunk_at frames at bytes ≡ part ++ chunk_at frames to (bytes - length part)
chunk_at-after frames at to bytes part within moved part_is =
    chunk_at-split frames at to (length part) bytes within moved ∙ ap (λ t. t ++ chunk_at frames to (bytes - length part)) (sym part_is)

-- behind the last frame nothing comes
chunk_at-end : (frames : List (List ℕ)) (at : Cursor) (bytes : ℕ) → IsPlaced frames at → length frames ≤ at.frame → chunk_at frames at bytes ≡ []
chunk_at-end frames at bytes placed past =
    let last : at.frame ≡ length frames = omega (arith, placed.within, past) in
    let end : length (concat frames) ≤ place_at frames at =
    omega (arith, placed.at_end last, ap (λ k. place_of frames k) last, ap (λ t. length (concat t)) (take_all (length frames) frames (omega arith))) in
    ap (take bytes) (drop_all (place_at frames at) (concat frames) end) ∙ take_all bytes [] (omega arith)

-- where no part comes nothing is left
pub chunk_at-none : (frames : List (List ℕ)) (at : Cursor) (bytes n : ℕ) → IsPlaced frames at → n ≡ 0 → (0 < bytes → at.frame < length frames → 0 < n)
    → chunk_at frames at bytes ≡ []
chunk_at-none frames at zero n placed none some = refl
chunk_at-none frames at (suc bytes) n placed none some =
    elim (cases_lt at.frame (length frames)) [
      | inl within ↦ absurd (omega (arith, none, some (omega arith) within))
      | inr past ↦ chunk_at-end frames at (suc bytes) placed (omega (arith, past))
    ]
