-- The chunks that pieces take of a stream: where each stands, and what it has.
use Rattle.std.proofs.Common.{◌≡◌, ℕ, suc, zero, ◌+◌, Some, List, [], ◌∷◌, ◌++◌, length, take, drop, slice_get, min, refl, sym, ap, ◌∙◌, add-one, arith}
use Rattle.std.specs.List.{concat}
use Rattle.std.proofs.lemmas.List.{append-nil, append_assoc, drop-drop, drop_min, length-take, length-drop, take-append-drop}
use Rattle.docsis_wire.specs.declared.pieces.Piece.{Piece}
use Rattle.docsis_wire.specs.Stream.{place_of}
use Rattle.docsis_wire.specs.Pieces.{chunks_from}
use Rattle.docsis_wire.proofs.Stretches.{place_of-cons}

-- there is a chunk for each piece
pub length-chunks_from : (stream : List ℕ) (pieces : List Piece) → length (chunks_from stream pieces) ≡ length pieces
length-chunks_from stream [] = refl
length-chunks_from stream (piece ∷ pieces) = ap suc (length-chunks_from (drop piece.bytes stream) pieces)

-- the chunks end to end are the front of the stream
pub chunks_from-front : (stream : List ℕ) (pieces : List Piece) → (unsent : List ℕ) × (stream ≡ concat (chunks_from stream pieces) ++ unsent)
chunks_from-front stream [] = (stream, refl)
chunks_from-front stream (piece ∷ pieces) =
    let behind = chunks_from-front (drop piece.bytes stream) pieces in
    let chunk : List ℕ = take piece.bytes stream in
    let others : List ℕ = concat (chunks_from (drop piece.bytes stream) pieces) in
    (behind.0, sym (take-append-drop piece.bytes stream) ∙ ap (λ t. chunk ++ t) behind.1 ∙ sym (append_assoc chunk others behind.0))

-- a chunk ends where its piece's bytes end, or where the stream does
place_of-chunk-suc : (stream : List ℕ) (pieces : List Piece) (k : ℕ) (piece : Piece) → slice_get pieces k ≡ Some piece
    → place_of (chunks_from stream pieces) (suc k) ≡ min (place_of (chunks_from stream pieces) k + piece.bytes) (length stream)
place_of-chunk-suc stream [] k piece e = absurd cc
place_of-chunk-suc stream (first ∷ pieces) zero piece e =
    let same : first ≡ piece = cc in
    let bytes : first.bytes ≡ piece.bytes = ap (λ p. p.bytes) same in
    omega (arith, ap length (append-nil (take first.bytes stream)), length-take first.bytes stream, bytes)
place_of-chunk-suc stream (first ∷ pieces) (suc k) piece e =
    let rest : List ℕ = drop first.bytes stream in
    let chunk : List ℕ = take first.bytes stream in
    let others = chunks_from rest pieces in
    omega (arith, place_of-cons chunk others (suc k), place_of-cons chunk others k, place_of-chunk-suc rest pieces k piece e, length-take first.bytes stream, length-drop first.bytes stream)

-- the same, where the next chunk is counted by 1
pub place_of-chunk : (stream : List ℕ) (pieces : List Piece) (k : ℕ) (piece : Piece) → slice_get pieces k ≡ Some piece
    → place_of (chunks_from stream pieces) (k + 1) ≡ min (place_of (chunks_from stream pieces) k + piece.bytes) (length stream)
place_of-chunk stream pieces k piece e = ap (place_of (chunks_from stream pieces)) (add-one k) ∙ place_of-chunk-suc stream pieces k piece e

-- the chunk of a piece is the next bytes of the stream after the chunks before
pub chunks_from-at : (stream : List ℕ) (pieces : List Piece) (k : ℕ) (piece : Piece) → slice_get pieces k ≡ Some piece
    → slice_get (chunks_from stream pieces) k ≡ Some (take piece.bytes (drop (place_of (chunks_from stream pieces) k) stream))
chunks_from-at stream [] k piece e = absurd cc
chunks_from-at stream (first ∷ pieces) zero piece e =
    let same : first ≡ piece = cc in
    ap (λ p. Some (take p.bytes stream)) same
chunks_from-at stream (first ∷ pieces) (suc k) piece e =
    let rest : List ℕ = drop first.bytes stream in
    let chunk : List ℕ = take first.bytes stream in
    let place = place_of (chunks_from rest pieces) k in
    let behind : drop place rest ≡ drop (length chunk + place) stream =
    ap (drop place) (sym (drop_min first.bytes stream) ∙ ap (λ n. drop n stream) (sym (length-take first.bytes stream))) ∙ drop-drop place (length chunk) stream in
    chunks_from-at rest pieces k piece e
    ∙ ap (λ t. Some (take piece.bytes t)) (behind ∙ ap (λ n. drop n stream) (sym (place_of-cons chunk (chunks_from rest pieces) k)))
