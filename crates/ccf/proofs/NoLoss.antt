-- A settled list in which nothing is lost.
use Rattle.std.proofs.Common.{Bool, ◌≡◌, ℕ, zero, suc, ◌<◌, ◌≤◌, ◌+◌, Option, Some, List, [], ◌∷◌, length, take, map, refl, sym, inl, inr, ap, ◌∙◌, subst, arith, length-take-le}
use Rattle.std.specs.List.{slice_get}
use Rattle.std.proofs.lemmas.Bool.{cases_lt}
use Rattle.std.proofs.lemmas.List.{length-map, take_all}
use Rattle.std.proofs.lemmas.Option.{slice_get_within}
use Rattle.docsis_wire.specs.declared.segment.Segment.{Segment}
use Rattle.docsis_wire.specs.Stream.{EndsIn, place_of}
use Rattle.docsis_wire.specs.Cut.{IsLawfulCut}
use Rattle.docsis_wire.specs.Span.{IsInSpan, IsSettledOf, IsKept, IsWhollyKept}
use Rattle.docsis_wire.proofs.StreamPlaces.{place_of-le}
use Rattle.ccf.specs.Feed.{Feeds}
use Rattle.ccf.specs.Join.{Joins}
use Rattle.ccf.specs.Filter.{FiltersTo}
use Rattle.ccf.specs.Completed.{IsCompletedBy}
use Rattle.ccf.proofs.Filters.{FiltersFrom-same}
use Rattle.ccf.proofs.SettledCuts.{completed_by_feed, frames_of_settled}

-- each item is the segment at its index
segment_at : (segments : List Segment) (n i : ℕ) (segment : Segment) → slice_get (map Some (take n segments)) i ≡ Some (Some segment) → slice_get segments i ≡ Some segment
segment_at segments zero i segment e = absurd cc
segment_at [] (suc n) i segment e = absurd cc
segment_at (s ∷ ss) (suc n) zero segment e = let is : s ≡ segment = cc in ap Some is
segment_at (s ∷ ss) (suc n) (suc i) segment e = segment_at ss n i segment e

-- each item is kept
kept_at : (segments : List Segment) (n i : ℕ) → i < n → n ≤ length segments → IsKept (map Some (take n segments)) i
kept_at segments zero i below within = absurd (omega arith)
kept_at [] (suc n) i below within = absurd (omega arith)
kept_at (s ∷ ss) (suc n) zero below within = (s, refl)
kept_at (s ∷ ss) (suc n) (suc i) below within = kept_at ss n i (omega arith) (omega arith)

-- there are as many items as segments
length-kept : (segments : List Segment) (n : ℕ) → n ≤ length segments → length (map Some (take n segments)) ≡ n
length-kept segments n within = length-map (take n segments) Some ∙ length-take-le n segments within

-- the frames that a segment completes where nothing was lost before it
pub completed_without_loss : (check : List ℕ → Bool) (frames chunks : List (List ℕ)) (first fill n : ℕ) (segments : List Segment) (joined : List (List ℕ)) (before after : List ℕ) (segment : Segment) (fed : List (List ℕ))
    → IsLawfulCut check frames first fill chunks segments → slice_get segments n ≡ Some segment
    → Joins check [] (map Some (take n segments)) joined before → Feeds check before segment fed after
    → FiltersTo (λ j. EndsIn frames chunks j n) frames fed
completed_without_loss check frames chunks first fill n segments joined before after segment fed cut at h feeds =
    let settled : List (Option Segment) = map Some (take n segments) in
    let some = slice_get_within segments n segment at in
    let size : length settled ≡ n = length-kept segments n (omega arith) in
    let is_settled : IsSettledOf segments settled = record { within = omega arith; kept = segment_at segments n } in
    let at_end : slice_get segments (length settled) ≡ Some segment = ap (slice_get segments) size ∙ at in
    let completed = completed_by_feed check frames chunks first fill segments settled joined before after segment fed cut is_settled at_end h feeds in
    subst (λ m. FiltersTo (λ j. EndsIn frames chunks j m) frames fed) size
    (FiltersFrom-same (IsCompletedBy frames chunks settled (length settled)) (λ j. EndsIn frames chunks j (length settled)) 0 frames fed
    (λ j low high p. p.ends)
    (λ j low high p. record { ends = p; kept = λ i below in_span. kept_at segments n i (omega arith) (omega arith) })
    completed)

-- the span of a frame that lies in the first chunks lies in them
within_cut : (frames chunks : List (List ℕ)) (j m i n : ℕ) → m ≤ n → place_of frames (j + 1) ≤ place_of chunks m → IsInSpan frames chunks j i → i < n
within_cut frames chunks j m i n short within in_span =
    elim (cases_lt i n) [
      | inl h ↦ h
      | inr h ↦ absurd (omega (arith, place_of-le chunks m in_span.later (omega (arith, in_span.to)), in_span.shares_later.chunk_from, in_span.shares_later.frame_to))
    ]

-- the frames of a whole cut of which nothing was lost
pub frames_without_loss : (check : List ℕ → Bool) (frames chunks : List (List ℕ)) (first fill : ℕ) (segments : List Segment) (joined : List (List ℕ)) (after : List ℕ)
    → IsLawfulCut check frames first fill chunks segments → Joins check [] (map Some segments) joined after
    → FiltersTo (λ j. place_of frames (j + 1) ≤ place_of chunks (length chunks)) frames joined
frames_without_loss check frames chunks first fill segments joined after cut h =
    let n = length segments in
    let settled : List (Option Segment) = map Some (take n segments) in
    let all : settled ≡ map Some segments = ap (map Some) (take_all n segments (omega arith)) in
    let size : length settled ≡ length chunks = length-kept segments n (omega arith) ∙ cut.same_length in
    let is_settled : IsSettledOf segments settled = record { within = omega (arith, cut.same_length); kept = segment_at segments n } in
    let joins : Joins check [] settled joined after = (let P : List (Option Segment) → Type 0 = λ s. Joins check [] s joined after in subst P (sym all) h) in
    let chosen = frames_of_settled check frames chunks first fill segments settled joined after cut is_settled joins in
    subst (λ m. FiltersTo (λ j. place_of frames (j + 1) ≤ place_of chunks m) frames joined) size
    (FiltersFrom-same (IsWhollyKept frames chunks settled) (λ j. place_of frames (j + 1) ≤ place_of chunks (length settled)) 0 frames joined
    (λ j low high p. p.within)
    (λ j low high p. record { within = p; kept = λ i in_span. kept_at segments n i (within_cut frames chunks j (length settled) i n (omega arith) p in_span) (omega arith) })
    chosen)
