-- The segments that were made so far are those of a lawful cut.
use Rattle.std.proofs.Common.{◌≡◌, Bool, ℕ, suc, zero, ◌+◌, ◌%◌, inl, inr, ◌⊎◌, Some, List, [], ◌∷◌, ◌++◌, length, replicate, slice_get, refl, sym, ap, ◌∙◌, subst, ⊎_elim}
use Rattle.std.specs.List.{concat}
use Rattle.std.proofs.lemmas.Option.{same_Some}
use Rattle.docsis_wire.specs.declared.cursor.Cursor.{Cursor}
use Rattle.docsis_wire.specs.declared.pieces.FillByte.{FillByte}
use Rattle.docsis_wire.specs.declared.pieces.FillByte.TheVariants.{Zero, Ones}
use Rattle.docsis_wire.specs.declared.pieces.Piece.{Piece}
use Rattle.docsis_wire.specs.declared.segment.Segment.{Segment}
use Rattle.docsis_wire.specs.Stream.{place_of, IsBoundary}
use Rattle.docsis_wire.specs.Cut.{Points, IsCutSegment, IsFillByte, IsLawfulCut}
use Rattle.docsis_wire.specs.Inside.Cursor.{place_at, chunk_at}
use Rattle.docsis_wire.specs.Pieces.{fill_byte, chunks_of, IsPieceSegment, ArePieceSegments, IsUnlawful, IsCuttable}
use Rattle.docsis_wire.specs.CutUnderWay.{IsMade, AreMade}
use Rattle.docsis_wire.proofs.StreamPlaces.{place_of-next}
use Rattle.docsis_wire.proofs.Chunks.{length-chunks_from, chunks_from-front}
use Rattle.docsis_wire.proofs.LawfulPieces.{MovesOver, chunk_is_at, IsBoundary-from_lawful}

-- an element of a list and one more is one of the list, or the one more
slice_get-push : {X : Type 0} (xs : List X) (y : X) (k : ℕ) (x : X) → slice_get (xs ++ y ∷ []) k ≡ Some x → (slice_get xs k ≡ Some x) ⊎ ((length xs ≡ k) × (y ≡ x))
slice_get-push [] y zero x e = inr (refl, same_Some y x e)
slice_get-push [] y (suc k) x e = absurd cc
slice_get-push (z ∷ zs) y zero x e = inl e
slice_get-push (z ∷ zs) y (suc k) x e = ⊎_elim (λ h. inl h) (λ h. inr (ap suc h.0, h.1)) (slice_get-push zs y k x e)

-- the segments before and the next piece's are made
pub AreMade-push : (frames : List (List ℕ)) (pieces : List Piece) (first fill : ℕ) (before : List Segment) (made : Segment) (after : List Segment) → AreMade frames pieces first fill before
    → IsMade frames pieces first fill (length before) made → after ≡ before ++ made ∷ [] → AreMade frames pieces first fill after
AreMade-push frames pieces first fill before made after each next e = λ k segment is.
    ⊎_elim (λ h. each k segment h)
    (λ (h : (length before ≡ k) × (made ≡ segment)).
    let P : ℕ → Type 0 = λ n. IsMade frames pieces first fill n segment in
    let Q : Segment → Type 0 = λ s. IsMade frames pieces first fill (length before) s in
    subst P h.0 (subst Q h.1 next))
    (slice_get-push before made k segment (ap (λ t. slice_get t k) (sym e) ∙ is))

-- the header and the payload at the cursor are a segment of the piece
pub IsMade-at : (frames : List (List ℕ)) (pieces : List Piece) (first fill k : ℕ) (piece : Piece) (at to : Cursor) (segment : Segment) → ((i : ℕ) → ¬ IsUnlawful frames pieces i) → MovesOver frames pieces k piece at to
    → segment.payload ≡ chunk_at frames at piece.bytes ++ replicate piece.fill fill
    → Points segment.head.pfi segment.head.pointer frames (place_at frames at) (chunk_at frames at piece.bytes)
    → segment.head.sequence ≡ (first + k) % 8192 → IsPieceSegment fill piece (chunk_at frames at piece.bytes) segment → IsMade frames pieces first fill k segment
IsMade-at frames pieces first fill k piece at to segment lawful over payload points number named =
    let chunk_is = chunk_is_at frames pieces k piece at piece.bytes over.piece_is refl over.place in
    record {
      piece = piece;
      piece_is = over.piece_is;
      chunk = chunk_at frames at piece.bytes;
      chunk_is = chunk_is;
      cut = record {
        fill_len = piece.fill;
        payload = payload;
        filled = λ fills.
            let P : ℕ → Type 0 = IsBoundary frames in
            subst P (place_of-next (chunks_of frames pieces) k (chunk_at frames at piece.bytes) chunk_is) (IsBoundary-from_lawful frames pieces k piece at to over (lawful k) fills);
        points = let P : ℕ → Type 0 = λ n. Points segment.head.pfi segment.head.pointer frames n (chunk_at frames at piece.bytes) in subst P over.place points;
        number = number;
      };
      named = named;
    }

-- a flow's fill byte is 0x00 or 0xFF
IsFillByte-fill_byte : (fill : FillByte) → IsFillByte (fill_byte fill)
IsFillByte-fill_byte Zero = inl refl
IsFillByte-fill_byte Ones = inr refl

-- as many segments as pieces, each made, are a lawful cut
pub IsLawfulCut-from_made : (check : List ℕ → Bool) (frames : List (List ℕ)) (pieces : List Piece) (first : ℕ) (fill : FillByte) (segments : List Segment) → IsCuttable check frames pieces → length segments ≡ length pieces
    → AreMade frames pieces first (fill_byte fill) segments → IsLawfulCut check frames first (fill_byte fill) (chunks_of frames pieces) segments
IsLawfulCut-from_made check frames pieces first fill segments cuttable size made =
    let front = chunks_from-front (concat frames) pieces in
    record {
      each = cuttable.each;
      fill_is = IsFillByte-fill_byte fill;
      unsent = front.0;
      stream = front.1;
      same_length = size ∙ sym (length-chunks_from (concat frames) pieces);
      cut = λ k chunk segment chunk_is segment_is.
          let m = made k segment segment_is in
          let P : List ℕ → Type 0 = λ t. IsCutSegment frames first (fill_byte fill) k (place_of (chunks_of frames pieces) k) t segment in
          subst P (same_Some m.chunk chunk (sym m.chunk_is ∙ chunk_is)) m.cut;
    }

-- and they have just the fill that the pieces name
pub ArePieceSegments-from_made : (frames : List (List ℕ)) (pieces : List Piece) (first fill : ℕ) (segments : List Segment) → AreMade frames pieces first fill segments
    → ArePieceSegments fill frames pieces segments
ArePieceSegments-from_made frames pieces first fill segments made = λ k piece chunk segment piece_is chunk_is segment_is.
    let m = made k segment segment_is in
    let P : List ℕ → Type 0 = λ t. IsPieceSegment fill piece t segment in
    let Q : Piece → Type 0 = λ p. IsPieceSegment fill p m.chunk segment in
    subst P (same_Some m.chunk chunk (sym m.chunk_is ∙ chunk_is)) (subst Q (same_Some m.piece piece (sym m.piece_is ∙ piece_is)) m.named)
