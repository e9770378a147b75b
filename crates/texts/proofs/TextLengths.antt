-- How long the lines of a cut's segments are.
use Rattle.std.proofs.Common.{◌≡◌, ℕ, suc, ◌+◌, ◌*◌, ◌-◌, List, [], ◌∷◌, ◌++◌, length, take, drop, min, Some, refl, sym, ap, ◌∙◌, arith, length-append, length-take, length-drop}
use Rattle.std.proofs.lemmas.List.{length-replicate}
use Rattle.std.proofs.lemmas.List.Sums.{sum_by-cons}
use Rattle.std.specs.Prelude.{flat_map, sum_by, replicate, slice_get}
use Rattle.std.specs.List.{concat}
use Rattle.hex.specs.Hex.{encode_with, encode_lower, lower_digits}
use Rattle.docsis_wire.specs.declared.segment.Segment.{Segment}
use Rattle.docsis_wire.specs.declared.pieces.Piece.{Piece}
use Rattle.docsis_wire.specs.declared.pieces.FillByte.{FillByte}
use Rattle.docsis_wire.specs.SegmentBytes.{segment_bytes}
use Rattle.docsis_wire.specs.Pieces.{fill_byte, chunks_from}
use Rattle.texts.specs.Cut.{IsCutInto, segment_line, cut_text_length}

-- a byte has two digits
encode_with-length : (t xs : List ℕ) → length (encode_with t xs) ≡ length xs * 2
unfolding encode_with
encode_with-length t [] = refl
encode_with-length t (x ∷ xs) = omega (arith, encode_with-length t xs)

-- a segment's line has two digits for each of its bytes, and a line feed
segment_line-length : (segment : Segment) → length (segment_line segment) ≡ (8 + length segment.payload) * 2 + 1
segment_line-length segment =
    let digits : length (encode_lower (segment_bytes segment)) ≡ length (segment_bytes segment) * 2 = encode_with-length lower_digits (segment_bytes segment) in
    let bytes : length (segment_bytes segment) ≡ 8 + length segment.payload = omega arith in
    omega (arith, length-append (encode_lower (segment_bytes segment)) (10 ∷ []), digits, bytes)

-- the segments in their places have the chunks and the fill that the pieces name
abbrev AreFilled : List ℕ → List Piece → List Segment → Type 0
AreFilled stream pieces segments = (k : ℕ) (piece : Piece) (chunk : List ℕ) (segment : Segment)
    → slice_get pieces k ≡ Some piece → slice_get (chunks_from stream pieces) k ≡ Some chunk → slice_get segments k ≡ Some segment
    → length segment.payload ≡ length chunk + piece.fill

-- so many bytes of a stream, and then others
taken_in_turn : (bytes more stream : ℕ) → min bytes stream + min more (stream - bytes) ≡ min (bytes + more) stream
taken_in_turn bytes more stream = omega arith

lines_length : (stream : List ℕ) (pieces : List Piece) (segments : List Segment) → length segments ≡ length pieces → AreFilled stream pieces segments
    → length (flat_map segment_line segments)
    ≡ (min (sum_by (λ piece. piece.bytes) pieces) (length stream) + sum_by (λ piece. piece.fill) pieces + length pieces * 8) * 2 + length pieces
lines_length stream [] [] same filled = omega arith
lines_length stream [] (segment ∷ segments) same filled = absurd (omega arith)
lines_length stream (piece ∷ pieces) [] same filled = absurd (omega arith)
lines_length stream (piece ∷ pieces) (segment ∷ segments) same filled =
    let here : length segment.payload ≡ length (take piece.bytes stream) + piece.fill = filled 0 piece (take piece.bytes stream) segment refl refl refl in
    let others : AreFilled (drop piece.bytes stream) pieces segments = λ k p chunk s a b c. filled (suc k) p chunk s a b c in
    let rest = lines_length (drop piece.bytes stream) pieces segments (omega arith) others in
    omega (
      arith,
      here,
      rest,
      sum_by-cons (λ p. p.bytes) piece pieces,
      sum_by-cons (λ p. p.fill) piece pieces,
      segment_line-length segment,
      length-append (segment_line segment) (flat_map segment_line segments),
      length-take piece.bytes stream,
      length-drop piece.bytes stream,
      taken_in_turn piece.bytes (sum_by (λ p. p.bytes) pieces) (length stream),
    )

-- there is a chunk for each piece
chunks_from-length : (stream : List ℕ) (pieces : List Piece) → length (chunks_from stream pieces) ≡ length pieces
chunks_from-length stream [] = refl
chunks_from-length stream (piece ∷ pieces) = ap suc (chunks_from-length (drop piece.bytes stream) pieces)

concat-length : (xss : List (List ℕ)) → length (concat xss) ≡ sum_by length xss
concat-length [] = refl
concat-length (xs ∷ xss) = length-append xs (concat xss) ∙ ap (λ n. length xs + n) (concat-length xss) ∙ sym (sum_by-cons length xs xss)

-- the lines of a cut's segments are as long as their frames and pieces say
pub cut_text-length : (first : ℕ) (fill : FillByte) (frames : List (List ℕ)) (pieces : List Piece) (segments : List Segment)
    → IsCutInto first fill frames pieces segments → length (flat_map segment_line segments) ≡ cut_text_length frames pieces
cut_text-length first fill frames pieces segments cut =
    let named : AreFilled (concat frames) pieces segments = λ k piece chunk segment a b c.
    let payload : segment.payload ≡ chunk ++ replicate piece.fill (fill_byte fill) = (cut.named k piece chunk segment a b c).payload in
    ap length payload ∙ length-append chunk (replicate piece.fill (fill_byte fill)) ∙ ap (λ n. length chunk + n) (length-replicate piece.fill (fill_byte fill)) in
    let same : length segments ≡ length pieces = cut.lawful.same_length ∙ chunks_from-length (concat frames) pieces in
    rw (← concat-length frames) (lines_length (concat frames) pieces segments same named)
