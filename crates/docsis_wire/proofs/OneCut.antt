-- The pieces determine each segment of the cut.
use Rattle.std.proofs.Common.{◌≡◌, ℕ, ◌<◌, Bool, true, false, List, length, get_or, take, drop, refl, sym, ap, ◌∙◌, arith}
use Rattle.std.specs.List.{concat}
use Rattle.std.proofs.lemmas.List.{same_lists}
use Rattle.std.proofs.lemmas.Option.{slice_get-get_or}
use Rattle.docsis_wire.specs.declared.header.SegmentHeader.{SegmentHeader}
use Rattle.docsis_wire.specs.declared.pieces.Piece.{Piece}
use Rattle.docsis_wire.specs.declared.segment.Segment.{Segment}
use Rattle.docsis_wire.specs.Stream.{place_of}
use Rattle.docsis_wire.specs.Cut.{Points, IsCutSegment, IsLawfulCut}
use Rattle.docsis_wire.specs.Pieces.{chunks_of, IsPieceSegment, ArePieceSegments}
use Rattle.docsis_wire.proofs.HeaderWords.{same_fields}
use Rattle.docsis_wire.proofs.Chunks.{chunks_from-at, length-chunks_from}

-- a chunk has one PFI and, with a pointer of 0 where no frame starts, one pointer
points-once : (p q : Bool) (n m place : ℕ) (frames : List (List ℕ)) (chunk : List ℕ) → Points p n frames place chunk → Points q m frames place chunk
    → (p ≡ false → n ≡ 0) → (q ≡ false → m ≡ 0) → (p ≡ q) × (n ≡ m)
points-once true true n m place frames chunk h g h_none g_none = (refl, omega (arith, h.1 m g.0, g.1 n h.0))
points-once true false n m place frames chunk h g h_none g_none = absurd (g n h.0)
points-once false true n m place frames chunk h g h_none g_none = absurd (h m g.0)
points-once false false n m place frames chunk h g h_none g_none = (refl, h_none refl ∙ sym (g_none refl))

-- segments with the same header and payload are the same
same_segment : (g h : Segment) → g.head ≡ h.head → g.payload ≡ h.payload → g ≡ h
same_segment g h head payload =
    let with_head : SegmentHeader → Segment = λ x. record { head = x; payload = g.payload } in
    let with_payload : List ℕ → Segment = λ y. record { head = h.head; payload = y } in
    ap with_head head ∙ ap with_payload payload

-- a piece makes one segment of its chunk
segment-once : (frames : List (List ℕ)) (first fill k place : ℕ) (piece : Piece) (chunk : List ℕ) (g h : Segment) → IsCutSegment frames first fill k place chunk g
    → IsPieceSegment fill piece chunk g → IsCutSegment frames first fill k place chunk h → IsPieceSegment fill piece chunk h → g ≡ h
segment-once frames first fill k place piece chunk g h g_cut g_named h_cut h_named =
    let points = points-once g.head.pfi h.head.pfi g.head.pointer h.head.pointer place frames chunk g_cut.points h_cut.points g_named.no_pointer h_named.no_pointer in
    same_segment g h
    (same_fields g.head h.head points.0 (g_named.reserved ∙ sym h_named.reserved) points.1 (g_cut.number ∙ sym h_cut.number) (g_named.cluster ∙ sym h_named.cluster)
    (g_named.request ∙ sym h_named.request) (g_named.hcs ∙ sym h_named.hcs))
    (g_named.payload ∙ sym h_named.payload)

-- the pieces make one cut
pub cut-once : (check : List ℕ → Bool) (frames : List (List ℕ)) (pieces : List Piece) (first fill : ℕ) (segments others : List Segment) → IsLawfulCut check frames first fill (chunks_of frames pieces) segments
    → ArePieceSegments fill frames pieces segments → IsLawfulCut check frames first fill (chunks_of frames pieces) others → ArePieceSegments fill frames pieces others → segments ≡ others
cut-once check frames pieces first fill segments others cut named other_cut other_named =
    same_lists segments others (cut.same_length ∙ sym other_cut.same_length) (λ k d within.
    let inside : k < length pieces = omega (arith, within, cut.same_length, length-chunks_from (concat frames) pieces) in
    let piece_is = slice_get-get_or pieces k record { bytes = 0; fill = 0 } inside in
    let piece = get_or pieces k record { bytes = 0; fill = 0 } in
    let place = place_of (chunks_of frames pieces) k in
    let chunk : List ℕ = take piece.bytes (drop place (concat frames)) in
    let chunk_is = chunks_from-at (concat frames) pieces k piece piece_is in
    let segment_is = slice_get-get_or segments k d within in
    let other_is = slice_get-get_or others k d (omega (arith, within, cut.same_length, other_cut.same_length)) in
    segment-once frames first fill k place piece chunk (get_or segments k d) (get_or others k d)
    (cut.cut k chunk (get_or segments k d) chunk_is segment_is) (named k piece chunk (get_or segments k d) piece_is chunk_is segment_is)
    (other_cut.cut k chunk (get_or others k d) chunk_is other_is) (other_named k piece chunk (get_or others k d) piece_is chunk_is other_is))
