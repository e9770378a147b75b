-- Pieces that made a lawful cut have no fault.
use Rattle.std.proofs.Common.{◌≡◌, ℕ, Bool, true, false, List, ◌++◌, length, replicate, take, drop, sym, ap, ◌∙◌, subst, ⊎_elim, arith}
use Rattle.std.specs.List.{concat}
use Rattle.std.proofs.lemmas.List.{length-append, length-replicate}
use Rattle.std.proofs.lemmas.Option.{slice_get_within}
use Rattle.docsis_wire.specs.declared.pieces.Piece.{Piece}
use Rattle.docsis_wire.specs.declared.segment.Segment.{Segment}
use Rattle.docsis_wire.specs.Stream.{place_of, IsBoundary}
use Rattle.docsis_wire.specs.Cut.{Points, IsLawfulCut}
use Rattle.docsis_wire.specs.Pieces.{chunks_of, ArePieceSegments, FillsInsideFrame, PointsTooFar, IsCuttable}
use Rattle.docsis_wire.proofs.StreamPlaces.{element_at, place_of-next}
use Rattle.docsis_wire.proofs.Chunks.{chunks_from-at, length-chunks_from}

-- as much fill makes as long a payload
same_fill : (chunk : List ℕ) (n m fill : ℕ) → chunk ++ replicate n fill ≡ chunk ++ replicate m fill → n ≡ m
same_fill chunk n m fill e =
    omega (arith, ap length e, length-append chunk (replicate n fill), length-append chunk (replicate m fill), length-replicate n fill, length-replicate m fill)

-- the pointer to a frame that starts in a chunk is one
same_pointer : (pfi : Bool) (n m place : ℕ) (frames : List (List ℕ)) (chunk : List ℕ) → Points pfi n frames place chunk → Points true m frames place chunk → n ≡ m
same_pointer true n m place frames chunk h g = omega (arith, h.1 m g.0, g.1 n h.0)
same_pointer false n m place frames chunk h g = absurd (h m g.0)

-- no piece has fill inside a frame
no_fill_inside : (check : List ℕ → Bool) (frames : List (List ℕ)) (pieces : List Piece) (first fill : ℕ) (segments : List Segment) → IsLawfulCut check frames first fill (chunks_of frames pieces) segments
    → ArePieceSegments fill frames pieces segments → (k : ℕ) → ¬ FillsInsideFrame frames pieces k
no_fill_inside check frames pieces first fill segments cut named k = λ h.
    let within = slice_get_within pieces k h.piece h.piece_is in
    let place = place_of (chunks_of frames pieces) k in
    let chunk : List ℕ = take h.piece.bytes (drop place (concat frames)) in
    let chunk_is = chunks_from-at (concat frames) pieces k h.piece h.piece_is in
    let segment = element_at segments k (omega (arith, within, cut.same_length, length-chunks_from (concat frames) pieces)) in
    let lawful = cut.cut k chunk segment.0 chunk_is segment.1 in
    let made = named k h.piece chunk segment.0 h.piece_is chunk_is segment.1 in
    let fill_len = same_fill chunk lawful.fill_len h.piece.fill fill (sym lawful.payload ∙ made.payload) in
    let P : ℕ → Type 0 = IsBoundary frames in
    h.inside (subst P (sym (place_of-next (chunks_of frames pieces) k chunk chunk_is)) (lawful.filled (omega (arith, h.fills, fill_len))))

-- no pointer is too far
no_far_pointer : (check : List ℕ → Bool) (frames : List (List ℕ)) (pieces : List Piece) (first fill : ℕ) (segments : List Segment) → IsLawfulCut check frames first fill (chunks_of frames pieces) segments
    → (k : ℕ) → ¬ PointsTooFar frames pieces k
no_far_pointer check frames pieces first fill segments cut k = λ h.
    let within = slice_get_within (chunks_of frames pieces) k h.chunk h.chunk_is in
    let segment = element_at segments k (omega (arith, within, cut.same_length)) in
    let lawful = cut.cut k h.chunk segment.0 h.chunk_is segment.1 in
    let head = segment.0.head in
    let pointer = same_pointer head.pfi head.pointer h.pointer (place_of (chunks_of frames pieces) k) frames h.chunk lawful.points h.points in
    omega (arith, h.far, pointer, head.pointer_in_range)

-- so that frames and pieces can be cut
pub IsCuttable-from_cut : (check : List ℕ → Bool) (frames : List (List ℕ)) (pieces : List Piece) (first fill : ℕ) (segments : List Segment) → IsLawfulCut check frames first fill (chunks_of frames pieces) segments
    → ArePieceSegments fill frames pieces segments → IsCuttable check frames pieces
IsCuttable-from_cut check frames pieces first fill segments cut named = record {
  each = cut.each;
  lawful = λ k. ⊎_elim (no_fill_inside check frames pieces first fill segments cut named k) (no_far_pointer check frames pieces first fill segments cut k);
}
