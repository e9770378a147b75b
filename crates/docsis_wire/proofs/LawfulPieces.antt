-- When a piece makes a lawful segment, seen from the cursors before and after its chunk.
use Rattle.std.proofs.Common.{◌≡◌, ℕ, ◌+◌, ◌<◌, ◌≤◌, inl, inr, true, Option, Some, None, is_some, unwrap_or, List, length, take, drop, slice_get, min, sym, ap, ◌∙◌, subst, ⊎_elim, arith}
use Rattle.std.specs.List.{concat}
use Rattle.std.proofs.lemmas.Bool.{cases_lt}
use Rattle.std.proofs.lemmas.Option.{slice_get_cases, slice_get_within, same_Some}
use Rattle.docsis_wire.specs.declared.cursor.Cursor.{Cursor}
use Rattle.docsis_wire.specs.declared.pieces.Piece.{Piece}
use Rattle.docsis_wire.specs.Stream.{place_of, IsBoundary}
use Rattle.docsis_wire.specs.Cut.{Points}
use Rattle.docsis_wire.specs.Inside.Cursor.{place_at, IsPlaced, chunk_at, CanPoint}
use Rattle.docsis_wire.specs.Pieces.{chunks_of, FillsInsideFrame, PointsTooFar, IsUnlawful}
use Rattle.docsis_wire.proofs.StreamPlaces.{place_of-next, place_of-le}
use Rattle.docsis_wire.proofs.Chunks.{place_of-chunk, chunks_from-at, length-chunks_from}

-- where a frame ends the cursor stands before the next
IsBoundary-at : (frames : List (List ℕ)) (at : Cursor) → IsPlaced frames at → at.offset ≡ 0 → IsBoundary frames (place_at frames at)
IsBoundary-at frames at placed none = (at.frame, placed.within, omega (arith, none))

-- after the first byte of a frame no frame ends until it does
no_boundary_inside : (frames : List (List ℕ)) (at : Cursor) → IsPlaced frames at → 0 < at.offset → ¬ IsBoundary frames (place_at frames at)
no_boundary_inside frames at placed some = λ h.
    elim (slice_get_cases frames at.frame).1 [
      | inl f ↦ elim (cases_lt at.frame h.0) [
        | inl later ↦ omega (arith, h.2, placed.before f.0 f.2, place_of-next frames at.frame f.0 f.2, place_of-le frames (at.frame + 1) h.0 (omega (arith, later)))
        | inr early ↦ omega (arith, h.2, some, place_of-le frames h.0 at.frame early)
      ]
      | inr past ↦ omega (arith, some, placed.at_end (omega (arith, placed.within, past.0)))
    ]

-- The cursor moved over the chunk of piece k.
pub record MovesOver (frames : List (List ℕ)) (pieces : List Piece) (k : ℕ) (piece : Piece) (at to : Cursor) : Type 0 where
  pub piece_is : slice_get pieces k ≡ Some piece
  pub placed : IsPlaced frames to
  pub place : place_at frames at ≡ place_of (chunks_of frames pieces) k
  pub moved : place_at frames to ≡ place_of (chunks_of frames pieces) (k + 1)

-- an advance by the bytes that the piece asks for moves over its chunk
pub MovesOver-from : (frames : List (List ℕ)) (pieces : List Piece) (k : ℕ) (piece : Piece) (at to : Cursor) (bytes : ℕ) → slice_get pieces k ≡ Some piece → bytes ≡ piece.bytes
    → IsPlaced frames to → place_at frames at ≡ place_of (chunks_of frames pieces) k → place_at frames to ≡ min (place_at frames at + bytes) (length (concat frames))
    → MovesOver frames pieces k piece at to
MovesOver-from frames pieces k piece at to bytes piece_is bytes_are placed place moved = record {
  piece_is = piece_is;
  placed = placed;
  place = place;
  moved = omega (arith, place, moved, bytes_are, place_of-chunk (concat frames) pieces k piece piece_is);
}

-- what PFI and the pointer say of the bytes at a cursor
abbrev pub PointsAt : List (List ℕ) → Cursor → ℕ → Option ℕ → Type 0
PointsAt frames at bytes start = Points (is_some start) (unwrap_or start 0) frames (place_at frames at) (chunk_at frames at bytes)

-- the chunk at the cursor is the piece's
pub chunk_is_at : (frames : List (List ℕ)) (pieces : List Piece) (k : ℕ) (piece : Piece) (at : Cursor) (bytes : ℕ) → slice_get pieces k ≡ Some piece → bytes ≡ piece.bytes
    → place_at frames at ≡ place_of (chunks_of frames pieces) k → slice_get (chunks_of frames pieces) k ≡ Some (chunk_at frames at bytes)
chunk_is_at frames pieces k piece at bytes piece_is bytes_are place =
    chunks_from-at (concat frames) pieces k piece piece_is ∙ ap (λ n. Some (take n (drop (place_of (chunks_of frames pieces) k) (concat frames)))) (sym bytes_are)
    ∙ ap (λ n. Some (take bytes (drop n (concat frames)))) (sym place)

-- fill after a cursor inside a frame is unlawful
pub FillsInsideFrame-at : (frames : List (List ℕ)) (pieces : List Piece) (k : ℕ) (piece : Piece) (at to : Cursor) → MovesOver frames pieces k piece at to
    → 0 < piece.fill → 0 < to.offset → FillsInsideFrame frames pieces k
FillsInsideFrame-at frames pieces k piece at to over fills inside = record {
  piece = piece;
  piece_is = over.piece_is;
  fills = fills;
  inside = let P : ℕ → Type 0 = λ n. ¬ IsBoundary frames n in subst P over.moved (no_boundary_inside frames to over.placed inside);
}

-- fill elsewhere is lawful
pub fill_is_lawful : (frames : List (List ℕ)) (pieces : List Piece) (k : ℕ) (piece : Piece) (at to : Cursor) → MovesOver frames pieces k piece at to
    → (0 < piece.fill → to.offset ≡ 0) → ¬ FillsInsideFrame frames pieces k
fill_is_lawful frames pieces k piece at to over ends = λ h.
    let same : piece ≡ h.piece = same_Some piece h.piece (sym over.piece_is ∙ h.piece_is) in
    let fills : 0 < piece.fill = (let P : Piece → Type 0 = λ p. 0 < p.fill in subst P (sym same) h.fills) in
    h.inside (let P : ℕ → Type 0 = IsBoundary frames in subst P over.moved (IsBoundary-at frames to over.placed (ends fills)))

-- a frame that starts too far after the cursor is unlawful
pub PointsTooFar-at : (frames : List (List ℕ)) (pieces : List Piece) (k : ℕ) (piece : Piece) (at to : Cursor) (bytes : ℕ) (start : Option ℕ) → MovesOver frames pieces k piece at to
    → bytes ≡ piece.bytes → PointsAt frames at bytes start → 16383 < unwrap_or start 0 → PointsTooFar frames pieces k
PointsTooFar-at frames pieces k piece at to bytes None over bytes_are points far = absurd (omega (arith, far))
PointsTooFar-at frames pieces k piece at to bytes (Some before) over bytes_are points far = record {
  chunk = chunk_at frames at bytes;
  chunk_is = chunk_is_at frames pieces k piece at bytes over.piece_is bytes_are over.place;
  pointer = before;
  points = let P : ℕ → Type 0 = λ n. Points true before frames n (chunk_at frames at bytes) in subst P over.place points;
  far = far;
}

-- where PFI and the pointer say something of a chunk, they say it once
one_pointer : (frames : List (List ℕ)) (place : ℕ) (chunk : List ℕ) (start : Option ℕ) (pointer : ℕ) → Points (is_some start) (unwrap_or start 0) frames place chunk
    → Points true pointer frames place chunk → start ≡ Some pointer
one_pointer frames place chunk None pointer none points = absurd (none pointer points.0)
one_pointer frames place chunk (Some before) pointer first points = ap Some (omega (arith, first.1 pointer points.0, points.1 before first.0))

-- a frame that starts nearer, or none, is lawful
pointer_is_lawful : (frames : List (List ℕ)) (pieces : List Piece) (k : ℕ) (piece : Piece) (at to : Cursor) (bytes : ℕ) (start : Option ℕ) → MovesOver frames pieces k piece at to
    → bytes ≡ piece.bytes → PointsAt frames at bytes start → unwrap_or start 0 ≤ 16383 → ¬ PointsTooFar frames pieces k
pointer_is_lawful frames pieces k piece at to bytes start over bytes_are points near = λ h.
    let chunk : chunk_at frames at bytes ≡ h.chunk = same_Some (chunk_at frames at bytes) h.chunk (sym (chunk_is_at frames pieces k piece at bytes over.piece_is bytes_are over.place) ∙ h.chunk_is) in
    let P : List ℕ → Type 0 = λ t. Points true h.pointer frames (place_of (chunks_of frames pieces) k) t in
    let Q : ℕ → Type 0 = λ n. Points true h.pointer frames n (chunk_at frames at bytes) in
    let pointer = one_pointer frames (place_at frames at) (chunk_at frames at bytes) start h.pointer points (subst Q (sym over.place) (subst P (sym chunk) h.points)) in
    omega (arith, h.far, near, ap (λ s. unwrap_or s 0) pointer)

-- what held of the pieces before and holds of this one holds of one piece more
pub lawful_further : (frames : List (List ℕ)) (pieces : List Piece) (k : ℕ) (piece : Piece) (at to : Cursor) (bytes : ℕ) (start : Option ℕ) → MovesOver frames pieces k piece at to
    → bytes ≡ piece.bytes → PointsAt frames at bytes start → (0 < piece.fill → to.offset ≡ 0) → unwrap_or start 0 ≤ 16383
    → ((i : ℕ) → i < k → ¬ IsUnlawful frames pieces i) → (i : ℕ) → i < k + 1 → ¬ IsUnlawful frames pieces i
lawful_further frames pieces k piece at to bytes start over bytes_are points ends near before i less =
    elim (cases_lt i k) [
      | inl earlier ↦ before i earlier
      | inr here ↦
          let same : k ≡ i = omega (arith, less, here) in
          let P : ℕ → Type 0 = λ n. ¬ IsUnlawful frames pieces n in
          subst P same (⊎_elim (fill_is_lawful frames pieces k piece at to over ends) (pointer_is_lawful frames pieces k piece at to bytes start over bytes_are points near))
    ]

-- a piece that is not there makes no unlawful segment
pub lawful_past : (frames : List (List ℕ)) (pieces : List Piece) (n : ℕ) → length pieces ≤ n → ((i : ℕ) → i < n → ¬ IsUnlawful frames pieces i) → (i : ℕ) → ¬ IsUnlawful frames pieces i
lawful_past frames pieces n all before i = λ h.
    before i (⊎_elim {C = i < n}
    (λ (f : FillsInsideFrame frames pieces i). omega (arith, all, slice_get_within pieces i f.piece f.piece_is))
    (λ (f : PointsTooFar frames pieces i). omega (arith, all, slice_get_within (chunks_of frames pieces) i f.chunk f.chunk_is, length-chunks_from (concat frames) pieces)) h) h

-- where a piece is lawful, its chunk ends at a boundary if there is fill after it
pub IsBoundary-from_lawful : (frames : List (List ℕ)) (pieces : List Piece) (k : ℕ) (piece : Piece) (at to : Cursor) → MovesOver frames pieces k piece at to → ¬ IsUnlawful frames pieces k
    → 0 < piece.fill → IsBoundary frames (place_of (chunks_of frames pieces) (k + 1))
IsBoundary-from_lawful frames pieces k piece at to over lawful fills =
    elim (cases_lt 0 to.offset) [
      | inl inside ↦ absurd (lawful (inl (FillsInsideFrame-at frames pieces k piece at to over fills inside)))
      | inr ends ↦ let P : ℕ → Type 0 = IsBoundary frames in subst P over.moved (IsBoundary-at frames to over.placed (omega (arith, ends)))
    ]

-- where a piece is lawful, a pointer can say where the first frame starts in its chunk
pub CanPoint-from_lawful : (frames : List (List ℕ)) (pieces : List Piece) (k : ℕ) (piece : Piece) (at : Cursor) (bytes : ℕ) → slice_get pieces k ≡ Some piece → bytes ≡ piece.bytes
    → place_at frames at ≡ place_of (chunks_of frames pieces) k → ¬ IsUnlawful frames pieces k → CanPoint frames at bytes
CanPoint-from_lawful frames pieces k piece at bytes piece_is bytes_are place lawful = λ pointer points.
    elim (cases_lt 16383 pointer) [
      | inl far ↦ absurd (lawful (inr record {
        chunk = chunk_at frames at bytes;
        chunk_is = chunk_is_at frames pieces k piece at bytes piece_is bytes_are place;
        pointer = pointer;
        points = let P : ℕ → Type 0 = λ n. Points true pointer frames n (chunk_at frames at bytes) in subst P place points;
        far = far;
      }))
      | inr near ↦ omega (arith, near)
    ]

-- a pointer that can be said fits its field, and where no frame starts it is 0
pub pointer_fits : (frames : List (List ℕ)) (at : Cursor) (bytes : ℕ) (start : Option ℕ) → PointsAt frames at bytes start → CanPoint frames at bytes → unwrap_or start 0 < 16384
pointer_fits frames at bytes None points can = omega arith
pointer_fits frames at bytes (Some before) points can = can before points
