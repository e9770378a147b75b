-- The frames that begin in a chunk: which of them it completes, and what is left of it after them.
use Rattle.std.proofs.Common.{Bool, ◌≡◌, ℕ, ◌+◌, ◌<◌, ◌≤◌, Option, List, [], ◌∷◌, ◌++◌, length, replicate, refl, sym, ap, ◌∙◌, subst, inl, inr, arith, length-append, append_assoc, append-nil}
use Rattle.std.specs.List.{concat, AllByRecursion}
use Rattle.std.proofs.lemmas.Bool.{cases_lt}
use Rattle.std.proofs.lemmas.List.Folds.{concat-append}
use Rattle.docsis_wire.specs.declared.segment.Segment.{Segment}
use Rattle.docsis_wire.specs.Frame.{IsFrame}
use Rattle.docsis_wire.specs.Stream.{place_of, IsBoundary}
use Rattle.docsis_wire.specs.Cut.{IsFillByte}
use Rattle.docsis_wire.specs.Span.{IsKept}
use Rattle.ccf.specs.Walk.{Walks}
use Rattle.ccf.specs.Filter.{FiltersFrom}
use Rattle.ccf.specs.Completed.{IsCompletedBy}
use Rattle.ccf.specs.Unfinished.{IsLeftUnfinished}
use Rattle.docsis_wire.proofs.StreamPlaces.{each_generic, place_of-le, place_of-lt, place_of-behind, place_of-behind_one, none_begins_within}
use Rattle.docsis_wire.proofs.Spans.{IsInSpan-ends}
use Rattle.ccf.proofs.TwoSplits.{Splits, IsWithin, AllByRecursion-front, AllByRecursion-behind}
use Rattle.ccf.proofs.Filters.{FiltersFrom-append, FiltersFrom-none, FiltersFrom-all}
use Rattle.ccf.proofs.Waiting.{length-some, front_waits, fill_left, no_fill, no_fill_left}

-- The frames after these begin in chunk n or later, and the chunk has these bytes of them, which
-- are split at its last frame.
pub record GoesOnward (frames chunks : List (List ℕ)) (n : ℕ) (done rest : List (List ℕ)) (bytes : List ℕ) : Type 0 where
  pub frames_are : frames ≡ done ++ rest
  pub from : place_of chunks n ≤ place_of frames (length done)
  pub to : place_of frames (length done) + length bytes ≡ place_of chunks (n + 1)
  pub splits : Splits rest bytes

-- What a walk of a chunk's bytes and the fill after them gives.
pub record WalksOnward (check : List ℕ → Bool) (frames chunks : List (List ℕ)) (fill : ℕ) (settled : List (Option Segment)) (n : ℕ) (bytes : List ℕ) (whole : List (List ℕ)) : Type 0 where
  pub after : List ℕ
  pub walks : Walks check bytes whole after
  pub left : IsKept settled n → IsLeftUnfinished frames chunks fill settled (n + 1) after

module _ (check : List ℕ → Bool) (frames chunks : List (List ℕ)) (n : ℕ) (done rest : List (List ℕ)) (bytes : List ℕ) (each : AllByRecursion (IsFrame check) frames) (h : GoesOnward frames chunks n done rest bytes) where
  -- the frames, split after the last that is whole
  frames_gone : frames ≡ (done ++ h.splits.whole) ++ h.splits.behind
  frames_gone = h.frames_are ∙ ap (λ t. done ++ t) h.splits.pieces_are ∙ sym (append_assoc done h.splits.whole h.splits.behind)

  -- the same, where a frame goes on after the chunk
  frames_within : (w : IsWithin h.splits.behind h.splits.front) → frames ≡ (done ++ h.splits.whole) ++ (h.splits.front ++ w.back) ∷ w.behind
  frames_within w = frames_gone ∙ ap (λ t. (done ++ h.splits.whole) ++ t) w.pieces_are

  -- what is left of the chunk stands after the frames that are whole
  place_gone : place_of frames (length (done ++ h.splits.whole)) + length h.splits.front ≡ place_of chunks (n + 1)
  place_gone =
      let s = h.splits in
      omega (
        arith,
        place_of-behind frames (done ++ s.whole) s.behind frames_gone,
        place_of-behind frames done rest h.frames_are,
        ap length (concat-append done s.whole),
        length-append (concat done) (concat s.whole),
        ap length s.bytes_are,
        length-append (concat s.whole) s.front,
        h.to,
      )

  -- the frame that goes on after the chunk ends after it
  place_within : (w : IsWithin h.splits.behind h.splits.front) → place_of chunks (n + 1) < place_of frames (length (done ++ h.splits.whole) + 1)
  place_within w =
      let s = h.splits in
      omega (arith, place_gone, place_of-behind_one frames (done ++ s.whole) (s.front ++ w.back) w.behind (frames_within w), length-append s.front w.back, length-some w.back w.some_back)

  -- the frames after end after the chunk
  beyond : (j : ℕ) → length (done ++ h.splits.whole) ≤ j → j < length frames → place_of chunks (n + 1) < place_of frames (j + 1)
  beyond j from some =
      let s = h.splits in
      elim s.ends [
        | inl e ↦ omega (arith, place_gone, ap length e, place_of-le frames (length (done ++ s.whole)) j from, place_of-lt frames j (each_generic check frames each) some)
        | inr w ↦ omega (arith, place_within w, place_of-le frames (length (done ++ s.whole) + 1) (j + 1) (omega arith))
      ]

  -- the frames that are whole are completed by the chunk
  completed : (settled : List (Option Segment)) (j : ℕ) → length done ≤ j → j < length (done ++ h.splits.whole) → IsCompletedBy frames chunks settled n j
  completed settled j from to =
      let s = h.splits in
      let some : j < length frames = omega (arith, ap length frames_gone, length-append (done ++ s.whole) s.behind) in
      let start : place_of chunks n ≤ place_of frames j = omega (arith, h.from, place_of-le frames (length done) j from) in
      record {
        ends = (omega (arith, place_of-lt frames j (each_generic check frames each) some), omega (arith, place_gone, place_of-le frames (j + 1) (length (done ++ s.whole)) (omega arith)));
        kept = λ i below in_span. absurd (omega (arith, IsInSpan-ends frames chunks j i in_span, place_of-le chunks (i + 1) n (omega arith)));
      }

  -- of the frames that begin in the chunk it completes those that are whole
  pub filtered : (settled : List (Option Segment)) → FiltersFrom (IsCompletedBy frames chunks settled n) (length done) rest h.splits.whole
  filtered settled =
      let s = h.splits in
      let P : ℕ → Type 0 = IsCompletedBy frames chunks settled n in
      let all = FiltersFrom-all P (length done) s.whole (λ j from to. completed settled j from (omega (arith, length-append done s.whole))) in
      let none = FiltersFrom-none P (length (done ++ s.whole)) s.behind (λ j from to p. omega (arith, p.ends.1, beyond j from (omega (arith, ap length frames_gone, length-append (done ++ s.whole) s.behind)))) in
      let both = FiltersFrom-append P (length done) (length (done ++ s.whole)) s.whole s.behind s.whole [] (sym (length-append done s.whole)) all none in
      let Q : List (List ℕ) → List (List ℕ) → Type 0 = FiltersFrom P (length done) in
      subst (λ t. Q t s.whole) (sym s.pieces_are) (subst (Q (s.whole ++ s.behind)) (append-nil s.whole) both)

  -- the frames that are whole are frames
  each_whole : AllByRecursion (IsFrame check) h.splits.whole
  each_whole = let s = h.splits in AllByRecursion-front (IsFrame check) s.whole s.behind (subst (AllByRecursion (IsFrame check)) s.pieces_are (AllByRecursion-behind (IsFrame check) done rest (subst (AllByRecursion (IsFrame check)) h.frames_are each)))

  -- the frame that goes on after the chunk is a frame
  frame_within : (w : IsWithin h.splits.behind h.splits.front) → IsFrame check (h.splits.front ++ w.back)
  frame_within w = (AllByRecursion-behind (IsFrame check) (done ++ h.splits.whole) ((h.splits.front ++ w.back) ∷ w.behind) (subst (AllByRecursion (IsFrame check)) (frames_within w) each)).0

  -- where a frame goes on after the chunk, no frame ends with the chunk
  no_boundary : (w : IsWithin h.splits.behind h.splits.front) → IsBoundary frames (place_of chunks (n + 1)) → ⊥
  no_boundary w b = none_begins_within frames (length (done ++ h.splits.whole)) b.0 (place_of chunks (n + 1)) (omega (arith, place_gone, length-some h.splits.front w.some_front)) (place_within w) b.2

  -- a chunk before this one ends before what is left of this one
  earlier_ends : (i : ℕ) → i < n → place_of frames (length (done ++ h.splits.whole)) < place_of chunks (i + 1) → ⊥
  earlier_ends i below begun =
      omega (arith, h.from, place_of-le chunks (i + 1) n (omega arith), place_of-le frames (length done) (length (done ++ h.splits.whole)) (omega (arith, length-append done h.splits.whole)))

  -- the chunk is walked from here on, where it was kept
  pub walks_onward : (settled : List (Option Segment)) (fill fill_len : ℕ) → IsFillByte fill → (0 < fill_len → IsBoundary frames (place_of chunks (n + 1)))
      → WalksOnward check frames chunks fill settled n (bytes ++ replicate fill_len fill) h.splits.whole
  walks_onward settled fill fill_len fill_is filled =
      let s = h.splits in
      elim s.ends [
        | inl e ↦ let g = fill_left check fill fill_len fill_is in record {
          after = g.left;
          walks = record {
            rest = replicate fill_len fill;
            whole = ap (λ t. t ++ replicate fill_len fill) (s.bytes_are ∙ ap (λ t. concat s.whole ++ t) e ∙ append-nil (concat s.whole));
            each = each_whole;
            ends = g.ends;
          };
          left = λ kept. inl record { before = done ++ s.whole; behind = s.behind; frames_are = frames_gone; place = omega (arith, place_gone, ap length e); fill_left = g.is_left };
        }
        | inr w ↦ record {
          after = s.front;
          walks = record {
            rest = s.front;
            whole = ap (λ t. bytes ++ t) (no_fill fill fill_len (λ some. no_boundary w (filled some))) ∙ append-nil bytes ∙ s.bytes_are;
            each = each_whole;
            ends = front_waits check s.front w.back (frame_within w) w.some_back;
          };
          left = λ kept. inr record {
            before = done ++ s.whole;
            front = s.front;
            back = w.back;
            behind = w.behind;
            frames_are = frames_within w;
            place = place_gone;
            some_front = w.some_front;
            some_back = w.some_back;
            front_left = inl (
              λ i below begun. elim (cases_lt i n) [
                | inl earlier ↦ absurd (earlier_ends i earlier begun)
                | inr same ↦ let is : n ≡ i = omega arith in subst (IsKept settled) is kept
              ],
              refl,
            );
          };
        }
      ]

  -- nothing is left of the chunk where it was lost
  pub lost_onward : (settled : List (Option Segment)) (fill : ℕ) → ¬ IsKept settled n → IsLeftUnfinished frames chunks fill settled (n + 1) []
  lost_onward settled fill lost =
      let s = h.splits in
      elim s.ends [
        | inl e ↦ inl record { before = done ++ s.whole; behind = s.behind; frames_are = frames_gone; place = omega (arith, place_gone, ap length e); fill_left = no_fill_left fill }
        | inr w ↦ inr record {
          before = done ++ s.whole;
          front = s.front;
          back = w.back;
          behind = w.behind;
          frames_are = frames_within w;
          place = place_gone;
          some_front = w.some_front;
          some_back = w.some_back;
          front_left = inr (n, omega arith, omega (arith, place_gone, length-some s.front w.some_front), lost, refl);
        }
      ]
