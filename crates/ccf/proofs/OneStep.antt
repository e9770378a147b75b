-- One segment more of a cut: which frames it completes, and what is unfinished after it.
use Rattle.std.proofs.Common.{Bool, ◌≡◌, ◌≢◌, ◌⊎◌, ℕ, ◌+◌, ◌<◌, ◌≤◌, true, false, Option, List, [], ◌∷◌, ◌++◌, length, replicate, take, drop, refl, sym, ap, ◌∙◌, subst, inl, inr, arith, length-append, append_assoc, append-nil, take_at, drop_at}
use Rattle.std.specs.List.{concat, AllByRecursion}
use Rattle.std.proofs.lemmas.Bool.{cases_lt}
use Rattle.std.proofs.lemmas.List.Folds.{concat-append}
use Rattle.docsis_wire.specs.declared.segment.Segment.{Segment}
use Rattle.docsis_wire.specs.Frame.{IsFrame}
use Rattle.docsis_wire.specs.Stream.{place_of, IsBoundary}
use Rattle.docsis_wire.specs.Cut.{IsFillByte, StartsIn, IsCutSegment}
use Rattle.docsis_wire.specs.Span.{IsKept}
use Rattle.ccf.specs.Feed.{Feeds, FeedsAs}
use Rattle.ccf.specs.Filter.{FiltersFrom, FiltersTo}
use Rattle.ccf.specs.Completed.{IsCompletedBy}
use Rattle.ccf.specs.Unfinished.{IsLeftBetween, IsLeftWithin, IsLeftUnfinished, IsFrontLeft}
use Rattle.docsis_wire.proofs.StreamPlaces.{place_of-le, place_of-behind, place_of-behind_one, none_begins_within}
use Rattle.docsis_wire.proofs.Spans.{IsInSpan-ends, IsInSpan-by_places}
use Rattle.ccf.proofs.TwoSplits.{Splits, two_splits, same_behind, split_pieces, AllByRecursion-behind}
use Rattle.ccf.proofs.Filters.{FiltersFrom-append, FiltersFrom-none}
use Rattle.ccf.proofs.Waiting.{length-some, some_by_length, front_waits, no_fill, no_fill_left}
use Rattle.ccf.proofs.Pointers.{Points-at, Points-none, Feeds-as, FeedsAs-goes_on, FeedsAs-completes, FeedsAs-walks, FeedsAs-after_fill, FeedsAs-fill}
use Rattle.ccf.proofs.Onward.{GoesOnward, walks_onward, lost_onward, filtered}

-- What a kept segment of a cut does.
pub record Steps (check : List ℕ → Bool) (frames chunks : List (List ℕ)) (fill : ℕ) (settled : List (Option Segment)) (n : ℕ) (before : List ℕ) (segment : Segment) : Type 0 where
  pub fed : List (List ℕ)
  pub after : List ℕ
  pub feeds : Feeds check before segment fed after
  pub completes : FiltersTo (IsCompletedBy frames chunks settled n) frames fed
  pub left : IsKept settled n → IsLeftUnfinished frames chunks fill settled (n + 1) after

-- bytes are none or some
some_or_none : (bytes : List ℕ) → (bytes ≡ []) ⊎ (0 < length bytes)
some_or_none [] = inl refl
some_or_none (b ∷ bs) = inr (omega arith)

module _ (check : List ℕ → Bool) (frames chunks : List (List ℕ)) (first fill : ℕ) (settled : List (Option Segment)) (n : ℕ) (chunk more : List ℕ)
    (each : AllByRecursion (IsFrame check) frames) (fill_is : IsFillByte fill) (next : place_of chunks (n + 1) ≡ place_of chunks n + length chunk)
    (stream : concat frames ≡ concat (take n chunks) ++ (chunk ++ more)) where
  -- a chunk that begins where a frame ends has the frames after it
  behind_between : (before behind : List (List ℕ)) → frames ≡ before ++ behind → place_of frames (length before) ≡ place_of chunks n → concat behind ≡ chunk ++ more
  behind_between before behind is place =
      same_behind (concat before) (concat behind) (concat (take n chunks)) (chunk ++ more) (sym (concat-append before behind) ∙ ap concat (sym is) ∙ stream)
      (sym (place_of-behind frames before behind is) ∙ place)

  -- a chunk that begins within a frame has the rest of it and the frames after it
  behind_within : (before : List (List ℕ)) (front back : List ℕ) (behind : List (List ℕ)) → frames ≡ before ++ (front ++ back) ∷ behind
      → place_of frames (length before) + length front ≡ place_of chunks n → back ++ concat behind ≡ chunk ++ more
  behind_within before front back behind is place =
      let all : (concat before ++ front) ++ (back ++ concat behind) ≡ concat (take n chunks) ++ (chunk ++ more) =
      append_assoc (concat before) front (back ++ concat behind) ∙ ap (λ t. concat before ++ t) (sym (append_assoc front back (concat behind)))
      ∙ sym (concat-append before ((front ++ back) ∷ behind)) ∙ ap concat (sym is) ∙ stream in
      same_behind (concat before ++ front) (back ++ concat behind) (concat (take n chunks)) (chunk ++ more) all
      (omega (arith, length-append (concat before) front, place_of-behind frames before ((front ++ back) ∷ behind) is, place))

  -- no frame is completed by a chunk within whose bytes none ends
  completes_none : (before : List (List ℕ)) → place_of frames (length before) ≤ place_of chunks n → ((j : ℕ) → length before ≤ j → place_of frames (j + 1) ≤ place_of chunks (n + 1) → place_of chunks n < place_of frames (j + 1) → ⊥)
      → FiltersTo (IsCompletedBy frames chunks settled n) frames []
  completes_none before from none =
      FiltersFrom-none (IsCompletedBy frames chunks settled n) 0 frames (λ j low high p. elim (cases_lt j (length before)) [
        | inl h ↦ omega (arith, p.ends.0, place_of-le frames (j + 1) (length before) (omega arith))
        | inr h ↦ none j h p.ends.1 p.ends.0
      ])

  -- the frames before a chunk are not completed by it
  completes_behind : (before behind fed : List (List ℕ)) → frames ≡ before ++ behind → place_of frames (length before) ≤ place_of chunks n
      → FiltersFrom (IsCompletedBy frames chunks settled n) (length before) behind fed → FiltersTo (IsCompletedBy frames chunks settled n) frames fed
  completes_behind before behind fed is from h =
      let P : ℕ → Type 0 = IsCompletedBy frames chunks settled n in
      let none = FiltersFrom-none P 0 before (λ j low high p. omega (arith, p.ends.0, place_of-le frames (j + 1) (length before) (omega arith))) in
      let all = FiltersFrom-append P 0 (length before) before behind [] fed (omega arith) none h in
      subst (λ t. FiltersTo P t fed) (sym is) all

  -- a chunk with nothing in it, where a frame ends
  step_empty : (before : List ℕ) (segment : Segment) → IsLeftBetween frames chunks fill n before → IsCutSegment frames first fill n (place_of chunks n) chunk segment
      → chunk ≡ [] → Steps check frames chunks fill settled n before segment
  step_empty before segment h cut empty =
      let here : place_of chunks (n + 1) ≡ place_of chunks n = omega (arith, ap length empty) in
      let no_pfi = Points-none segment.head.pfi segment.head.pointer frames (place_of chunks n) chunk cut.points (λ q starts. omega (arith, starts.0, ap length empty)) in
      let g = FeedsAs-fill check fill cut.fill_len segment.head.pointer before fill_is h.fill_left in
      record {
        fed = [];
        after = g.after;
        feeds = Feeds-as check before segment false segment.head.pointer (replicate cut.fill_len fill) [] g.after no_pfi refl (cut.payload ∙ ap (λ t. t ++ replicate cut.fill_len fill) empty) g.feeds;
        completes = completes_none h.before (omega (arith, h.place)) (λ j from ends begins. omega arith);
        left = λ kept. inl record { before = h.before; behind = h.behind; frames_are = h.frames_are; place = h.place ∙ sym here; fill_left = g.is_left };
      }

  -- where bytes begin after these frames, there is a frame after them
  frame_behind : (before behind : List (List ℕ)) (bytes rest : List ℕ) → frames ≡ before ++ behind → concat behind ≡ bytes ++ rest → 0 < length bytes → length before < length frames
  frame_behind before [] bytes rest is e some = absurd (omega (arith, ap length e, length-append bytes rest))
  frame_behind before (b ∷ bs) bytes rest is e some = omega (arith, ap length is, length-append before (b ∷ bs))

  -- a chunk with bytes in it, where a frame ends
  step_between : (before : List ℕ) (segment : Segment) → IsLeftBetween frames chunks fill n before → IsCutSegment frames first fill n (place_of chunks n) chunk segment
      → 0 < length chunk → Steps check frames chunks fill settled n before segment
  step_between before segment h cut some =
      let e = behind_between h.before h.behind h.frames_are h.place in
      let onward : GoesOnward frames chunks n h.before h.behind chunk = record {
        frames_are = h.frames_are;
        from = omega (arith, h.place);
        to = omega (arith, h.place);
        splits = split_pieces h.behind chunk more e;
      } in
      let pfi = Points-at segment.head.pfi segment.head.pointer frames (place_of chunks n) chunk 0 cut.points
      (some, (length h.before, frame_behind h.before h.behind chunk more h.frames_are e some, omega (arith, h.place))) (λ q starts. omega arith) in
      let g = walks_onward check frames chunks n h.before h.behind chunk each onward settled fill cut.fill_len fill_is (subst (λ p. 0 < cut.fill_len → IsBoundary frames p) (sym next) cut.filled) in
      record {
        fed = onward.splits.whole;
        after = g.after;
        feeds = Feeds-as check before segment true 0 (chunk ++ replicate cut.fill_len fill) onward.splits.whole g.after pfi.0 pfi.1 cut.payload
            (FeedsAs-after_fill check fill before (chunk ++ replicate cut.fill_len fill) onward.splits.whole g.after h.fill_left g.walks);
        completes = completes_behind h.before h.behind onward.splits.whole h.frames_are (omega (arith, h.place)) (filtered check frames chunks n h.before h.behind chunk each onward settled);
        left = g.left;
      }

  -- the frame that the chunk goes on with begins before the chunk
  front_before : (before : List ℕ) (h : IsLeftWithin frames chunks settled n before) → place_of frames (length h.before) < place_of chunks n
  front_before before h = omega (arith, h.place, length-some h.front h.some_front)

  -- it ends as far after the chunk's place as it has bytes left
  back_ends : (before : List ℕ) (h : IsLeftWithin frames chunks settled n before) → place_of frames (length h.before + 1) ≡ place_of chunks n + length h.back
  back_ends before h = omega (arith, h.place, place_of-behind_one frames h.before (h.front ++ h.back) h.behind h.frames_are, length-append h.front h.back)

  -- no frame starts before the end of the frame that the chunk goes on with
  no_start : (before : List ℕ) (h : IsLeftWithin frames chunks settled n before) (q : ℕ) → q < length h.back → StartsIn frames (place_of chunks n) chunk q → ⊥
  no_start before h q low starts =
      none_begins_within frames (length h.before) starts.1.0 (place_of chunks n + q) (omega (arith, front_before before h)) (omega (arith, back_ends before h)) starts.1.2

  -- the frames, where all of the chunk belongs to the frame that it goes on with
  longer : (before : List ℕ) (h : IsLeftWithin frames chunks settled n before) (back : List ℕ) → h.back ≡ chunk ++ back → frames ≡ h.before ++ ((h.front ++ chunk) ++ back) ∷ h.behind
  longer before h back e = h.frames_are ∙ ap (λ t. h.before ++ t ∷ h.behind) (ap (λ t. h.front ++ t) e ∙ sym (append_assoc h.front chunk back))

  -- what is unfinished then
  left_longer : (before : List ℕ) (h : IsLeftWithin frames chunks settled n before) (back after : List ℕ) → h.back ≡ chunk ++ back → back ≢ []
      → IsFrontLeft frames chunks settled (n + 1) (length h.before) (h.front ++ chunk) after → IsLeftUnfinished frames chunks fill settled (n + 1) after
  left_longer before h back after e some left =
      inr record {
        before = h.before;
        front = h.front ++ chunk;
        back = back;
        behind = h.behind;
        frames_are = longer before h back e;
        place = omega (arith, h.place, length-append h.front chunk);
        some_front = some_by_length (h.front ++ chunk) (omega (arith, length-append h.front chunk, length-some h.front h.some_front));
        some_back = some;
        front_left = left;
      }

  -- a chunk that ends within the frame that it goes on with
  step_short : (before : List ℕ) (segment : Segment) (h : IsLeftWithin frames chunks settled n before) → IsCutSegment frames first fill n (place_of chunks n) chunk segment
      → (back : List ℕ) → h.back ≡ chunk ++ back → back ≢ [] → Steps check frames chunks fill settled n before segment
  step_short before segment h cut back e some =
      let size : length h.back ≡ length chunk + length back = ap length e ∙ length-append chunk back in
      let longer_back = length-some back some in
      let no_pfi = Points-none segment.head.pfi segment.head.pointer frames (place_of chunks n) chunk cut.points (λ q starts. no_start before h q (omega (arith, starts.0)) starts) in
      let no_end : IsBoundary frames (place_of chunks n + length chunk) → ⊥ =
      λ b. none_begins_within frames (length h.before) b.0 (place_of chunks n + length chunk) (omega (arith, front_before before h)) (omega (arith, back_ends before h)) b.2 in
      let payload : segment.payload ≡ chunk = cut.payload ∙ ap (λ t. chunk ++ t) (no_fill fill cut.fill_len (λ fills. no_end (cut.filled fills))) ∙ append-nil chunk in
      let none = completes_none h.before (omega (arith, front_before before h)) (λ j from ends begins. omega (arith, back_ends before h, place_of-le frames (length h.before + 1) (j + 1) (omega arith))) in
      let is_frame : IsFrame check ((h.front ++ chunk) ++ back) = (AllByRecursion-behind (IsFrame check) h.before (((h.front ++ chunk) ++ back) ∷ h.behind) (subst (AllByRecursion (IsFrame check)) (longer before h back e) each)).0 in
      elim h.front_left [
        | inl alive ↦ record {
          fed = [];
          after = h.front ++ chunk;
          feeds = Feeds-as check before segment false segment.head.pointer chunk [] (h.front ++ chunk) no_pfi refl payload
              (FeedsAs-goes_on check before chunk (h.front ++ chunk) segment.head.pointer [] (h.front ++ chunk) (λ q. h.some_front (sym alive.1 ∙ q)) (ap (λ t. t ++ chunk) alive.1)
              (inr (refl, front_waits check (h.front ++ chunk) back is_frame some)));
          completes = none;
          left = λ kept. left_longer before h back (h.front ++ chunk) e some (inl (
            λ i below begun. elim (cases_lt i n) [
              | inl earlier ↦ alive.0 i earlier begun
              | inr same ↦ let is : n ≡ i = omega arith in subst (IsKept settled) is kept
            ],
            refl,
          ));
        }
        | inr lost ↦ record {
          fed = [];
          after = [];
          feeds = Feeds-as check before segment false segment.head.pointer chunk [] [] no_pfi refl payload
              (subst (λ t. FeedsAs check false t segment.head.pointer chunk [] []) (sym lost.4) (refl, refl));
          completes = none;
          left = λ kept. left_longer before h back [] e some (inr (lost.0, omega (arith, lost.1), lost.2, lost.3, refl));
        }
      ]

  -- the chunk goes on after the frame that it ends
  onward_within : (before : List ℕ) (h : IsLeftWithin frames chunks settled n before) (rest : List ℕ) → chunk ≡ h.back ++ rest → Splits h.behind rest
      → GoesOnward frames chunks n (h.before ++ (h.front ++ h.back) ∷ []) h.behind rest
  onward_within before h rest e splits =
      let behind = ap (place_of frames) (length-append h.before ((h.front ++ h.back) ∷ [])) in
      record {
        frames_are = h.frames_are ∙ sym (append_assoc h.before ((h.front ++ h.back) ∷ []) h.behind);
        from = omega (arith, behind, back_ends before h);
        to = omega (arith, behind, back_ends before h, ap length e, length-append h.back rest);
        splits = splits;
      }

  -- the frame that a chunk ends is completed by it where the span was kept
  completes_alive : (before : List ℕ) (h : IsLeftWithin frames chunks settled n before) (rest : List ℕ) → chunk ≡ h.back ++ rest
      → ((i : ℕ) → i < n → place_of frames (length h.before) < place_of chunks (i + 1) → IsKept settled i) → (fed : List (List ℕ))
      → FiltersFrom (IsCompletedBy frames chunks settled n) (length (h.before ++ (h.front ++ h.back) ∷ [])) h.behind fed
      → FiltersTo (IsCompletedBy frames chunks settled n) frames ((h.front ++ h.back) ∷ fed)
  completes_alive before h rest e alive fed behind =
      let P : ℕ → Type 0 = IsCompletedBy frames chunks settled n in
      let j = length h.before in
      let completed : P j = record {
        ends = (omega (arith, back_ends before h, length-some h.back h.some_back), omega (arith, back_ends before h, ap length e, length-append h.back rest));
        kept = λ i below in_span. alive i below (IsInSpan-ends frames chunks j i in_span);
      } in
      completes_behind h.before ((h.front ++ h.back) ∷ h.behind) ((h.front ++ h.back) ∷ fed) h.frames_are (omega (arith, front_before before h))
      (inl (completed, fed, refl, subst (λ k. FiltersFrom P k h.behind fed) (length-append h.before ((h.front ++ h.back) ∷ [])) behind))

  -- the frame that a chunk ends is not completed by it where a chunk of the span was lost
  completes_lost : (before : List ℕ) (h : IsLeftWithin frames chunks settled n before) (rest : List ℕ) → chunk ≡ h.back ++ rest
      → (i : ℕ) → i < n → place_of frames (length h.before) < place_of chunks (i + 1) → ¬ IsKept settled i → (fed : List (List ℕ))
      → FiltersFrom (IsCompletedBy frames chunks settled n) (length (h.before ++ (h.front ++ h.back) ∷ [])) h.behind fed
      → FiltersTo (IsCompletedBy frames chunks settled n) frames fed
  completes_lost before h rest e i below begun lost fed behind =
      let P : ℕ → Type 0 = IsCompletedBy frames chunks settled n in
      let j = length h.before in
      let in_span = IsInSpan-by_places frames chunks j (n + 1) i (omega (arith, back_ends before h, front_before before h))
      (omega (arith, back_ends before h, ap length e, length-append h.back rest))
      (omega (arith, back_ends before h, length-some h.back h.some_back, place_of-le chunks i n (omega arith))) begun in
      completes_behind h.before ((h.front ++ h.back) ∷ h.behind) fed h.frames_are (omega (arith, front_before before h))
      (inr (λ p. lost (p.kept i below in_span), subst (λ k. FiltersFrom P k h.behind fed) (length-append h.before ((h.front ++ h.back) ∷ [])) behind))

  -- the frame that a chunk ends is a frame
  frame_ended : (before : List ℕ) (h : IsLeftWithin frames chunks settled n before) → IsFrame check (h.front ++ h.back)
  frame_ended before h = (AllByRecursion-behind (IsFrame check) h.before ((h.front ++ h.back) ∷ h.behind) (subst (AllByRecursion (IsFrame check)) h.frames_are each)).0

  -- a chunk that ends with the frame that it goes on with
  step_ending : (before : List ℕ) (segment : Segment) (h : IsLeftWithin frames chunks settled n before) → IsCutSegment frames first fill n (place_of chunks n) chunk segment
      → chunk ≡ h.back ++ [] → Steps check frames chunks fill settled n before segment
  unfolding onward_within
  step_ending before segment h cut e =
      let is : chunk ≡ h.back = e ∙ append-nil h.back in
      let fills = replicate cut.fill_len fill in
      let onward = onward_within before h [] e record { whole = []; front = []; behind = h.behind; pieces_are = refl; bytes_are = refl; ends = inl refl } in
      let no_pfi = Points-none segment.head.pfi segment.head.pointer frames (place_of chunks n) chunk cut.points (λ q starts. no_start before h q (omega (arith, starts.0, ap length is)) starts) in
      let none : FiltersFrom (IsCompletedBy frames chunks settled n) (length (h.before ++ (h.front ++ h.back) ∷ [])) h.behind [] =
      filtered check frames chunks n (h.before ++ (h.front ++ h.back) ∷ []) h.behind [] each onward settled in
      let left : IsLeftUnfinished frames chunks fill settled (n + 1) [] = inl record {
        before = h.before ++ (h.front ++ h.back) ∷ [];
        behind = h.behind;
        frames_are = onward.frames_are;
        place = omega (arith, onward.to);
        fill_left = no_fill_left fill;
      } in
      elim h.front_left [
        | inl alive ↦ record {
          fed = (h.front ++ h.back) ∷ [];
          after = [];
          feeds = Feeds-as check before segment false segment.head.pointer (chunk ++ fills) ((h.front ++ h.back) ∷ []) [] no_pfi refl cut.payload
              (FeedsAs-goes_on check before (chunk ++ fills) ((h.front ++ h.back) ++ fills) segment.head.pointer ((h.front ++ h.back) ∷ []) [] (λ q. h.some_front (sym alive.1 ∙ q))
              (ap (λ t. t ++ (chunk ++ fills)) alive.1 ∙ ap (λ t. h.front ++ (t ++ fills)) is ∙ sym (append_assoc h.front h.back fills))
              (inl record { frame = h.front ++ h.back; skipped = fills; whole = refl; is_frame = frame_ended before h; delivered = refl; nothing_left = refl }));
          completes = completes_alive before h [] e alive.0 [] none;
          left = λ kept. left;
        }
        | inr lost ↦ record {
          fed = [];
          after = [];
          feeds = Feeds-as check before segment false segment.head.pointer (chunk ++ fills) [] [] no_pfi refl cut.payload
              (subst (λ t. FeedsAs check false t segment.head.pointer (chunk ++ fills) [] []) (sym lost.4) (refl, refl));
          completes = completes_lost before h [] e lost.0 lost.1 lost.2 lost.3 [] none;
          left = λ kept. left;
        }
      ]

  -- a chunk that ends the frame that it goes on with, and in which another begins
  step_past : (before : List ℕ) (segment : Segment) (h : IsLeftWithin frames chunks settled n before) → IsCutSegment frames first fill n (place_of chunks n) chunk segment
      → (rest : List ℕ) → chunk ≡ h.back ++ rest → concat h.behind ≡ rest ++ more → 0 < length rest → Steps check frames chunks fill settled n before segment
  step_past before segment h cut rest e behind some =
      let done = h.before ++ (h.front ++ h.back) ∷ [] in
      let fills = replicate cut.fill_len fill in
      let onward = onward_within before h rest e (split_pieces h.behind rest more behind) in
      let size : length chunk ≡ length h.back + length rest = ap length e ∙ length-append h.back rest in
      let start : place_of frames (length done) ≡ place_of chunks n + length h.back = omega (arith, onward.to, size) in
      let pfi = Points-at segment.head.pfi segment.head.pointer frames (place_of chunks n) chunk (length h.back) cut.points
      (omega arith, (length done, frame_behind done h.behind rest more onward.frames_are behind some, start))
      (λ q starts. elim (cases_lt q (length h.back)) [
        | inl low ↦ absurd (no_start before h q low starts)
        | inr high ↦ high
      ]) in
      let g = walks_onward check frames chunks n done h.behind rest each onward settled fill cut.fill_len fill_is (subst (λ p. 0 < cut.fill_len → IsBoundary frames p) (sym next) cut.filled) in
      let behind_completed : FiltersFrom (IsCompletedBy frames chunks settled n) (length done) h.behind onward.splits.whole =
      filtered check frames chunks n done h.behind rest each onward settled in
      let payload : chunk ++ fills ≡ h.back ++ (rest ++ fills) = ap (λ t. t ++ fills) e ∙ append_assoc h.back rest fills in
      let dropped : drop (length h.back) (chunk ++ fills) ≡ rest ++ fills = ap (drop (length h.back)) payload ∙ drop_at h.back (rest ++ fills) (length h.back) refl in
      let taken : take (length h.back) (chunk ++ fills) ≡ h.back = ap (take (length h.back)) payload ∙ take_at h.back (rest ++ fills) (length h.back) refl in
      elim h.front_left [
        | inl alive ↦ record {
          fed = (h.front ++ h.back) ∷ onward.splits.whole;
          after = g.after;
          feeds = Feeds-as check before segment true (length h.back) (chunk ++ fills) ((h.front ++ h.back) ∷ onward.splits.whole) g.after pfi.0 pfi.1 cut.payload
              (FeedsAs-completes check before (chunk ++ fills) (h.front ++ h.back) (rest ++ fills) (length h.back) ((h.front ++ h.back) ∷ onward.splits.whole) g.after (λ q. h.some_front (sym alive.1 ∙ q))
              (ap (λ t. t ++ take (length h.back) (chunk ++ fills)) alive.1 ∙ ap (λ t. h.front ++ t) taken) dropped
              record { done = (h.front ++ h.back) ∷ []; walked = onward.splits.whole; delivered = refl; is_done = inl (frame_ended before h, refl); walks = g.walks });
          completes = completes_alive before h rest e alive.0 onward.splits.whole behind_completed;
          left = g.left;
        }
        | inr lost ↦ record {
          fed = onward.splits.whole;
          after = g.after;
          feeds = Feeds-as check before segment true (length h.back) (chunk ++ fills) onward.splits.whole g.after pfi.0 pfi.1 cut.payload
              (subst (λ t. FeedsAs check true t (length h.back) (chunk ++ fills) onward.splits.whole g.after) (sym lost.4)
              (FeedsAs-walks check (chunk ++ fills) (rest ++ fills) (length h.back) onward.splits.whole g.after dropped g.walks));
          completes = completes_lost before h rest e lost.0 lost.1 lost.2 lost.3 onward.splits.whole behind_completed;
          left = g.left;
        }
      ]

  -- a chunk that begins within a frame
  step_within : (before : List ℕ) (segment : Segment) → IsLeftWithin frames chunks settled n before → IsCutSegment frames first fill n (place_of chunks n) chunk segment
      → Steps check frames chunks fill settled n before segment
  step_within before segment h cut =
      elim (two_splits h.back (concat h.behind) chunk more (behind_within h.before h.front h.back h.behind h.frames_are h.place)) [
        | inl r ↦ elim (some_or_none r.more) [
          | inl none ↦ step_ending before segment h cut (r.front ∙ ap (λ t. h.back ++ t) none)
          | inr some ↦ step_past before segment h cut r.more r.front r.back some
        ]
        | inr r ↦ step_short before segment h cut r.more r.front r.some
      ]

  -- each kept segment of a cut takes one step
  pub step : (before : List ℕ) (segment : Segment) → IsLeftUnfinished frames chunks fill settled n before → IsCutSegment frames first fill n (place_of chunks n) chunk segment
      → Steps check frames chunks fill settled n before segment
  step before segment (inl h) cut =
      elim (some_or_none chunk) [
        | inl none ↦ step_empty before segment h cut none
        | inr some ↦ step_between before segment h cut some
      ]
  step before segment (inr h) cut = step_within before segment h cut

  -- each lost segment leaves nothing unfinished
  pub step_lost : (before : List ℕ) → IsLeftUnfinished frames chunks fill settled n before → ¬ IsKept settled n → IsLeftUnfinished frames chunks fill settled (n + 1) []
  step_lost before (inl h) lost =
      let e = behind_between h.before h.behind h.frames_are h.place in
      lost_onward check frames chunks n h.before h.behind chunk each record {
        frames_are = h.frames_are;
        from = omega (arith, h.place);
        to = omega (arith, h.place);
        splits = split_pieces h.behind chunk more e;
      } settled fill lost
  step_lost before (inr h) lost =
      elim (two_splits h.back (concat h.behind) chunk more (behind_within h.before h.front h.back h.behind h.frames_are h.place)) [
        | inl r ↦ lost_onward check frames chunks n (h.before ++ (h.front ++ h.back) ∷ []) h.behind r.more each (onward_within before h r.more r.front (split_pieces h.behind r.more more r.back)) settled fill lost
        | inr r ↦ left_longer before h r.more [] r.front r.some (inr (n, omega arith, omega (arith, front_before before h), lost, refl))
      ]
