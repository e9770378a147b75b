-- The segments of a cut in turn: what is unfinished after them, and which frames they join to.
use Rattle.std.proofs.Common.{Bool, ◌≡◌, ◌⊎◌, ℕ, suc, ◌+◌, ◌<◌, ◌≤◌, Option, Some, None, List, [], ◌∷◌, ◌++◌, length, take, drop, refl, sym, ap, ◌∙◌, subst, inl, inr, arith, length-append, append_assoc, append-nil}
use Rattle.std.specs.List.{concat, slice_get}
use Rattle.std.proofs.lemmas.Bool.{cases_lt}
use Rattle.std.proofs.lemmas.Option.{slice_get_within}
use Rattle.docsis_wire.specs.declared.segment.Segment.{Segment}
use Rattle.docsis_wire.specs.Stream.{place_of, EndsIn}
use Rattle.docsis_wire.specs.Cut.{IsLawfulCut}
use Rattle.docsis_wire.specs.Span.{IsInSpan, IsSettledOf, IsKept, IsWhollyKept}
use Rattle.ccf.specs.Feed.{Feeds}
use Rattle.ccf.specs.Join.{Joins}
use Rattle.ccf.specs.Filter.{FiltersTo}
use Rattle.ccf.specs.Completed.{IsCompletedBy}
use Rattle.ccf.specs.Unfinished.{IsLeftUnfinished}
use Rattle.ccf.proofs.OneJoining.{Feeds-once}
use Rattle.docsis_wire.proofs.StreamPlaces.{each_generic, place_of-le, place_of-lt, place_of-next, concat-at, slice_get-at, element_at}
use Rattle.docsis_wire.proofs.Spans.{IsInSpan-begins, IsInSpan-by_places}
use Rattle.ccf.proofs.Filters.{FiltersFrom-none, FiltersFrom-same, FiltersFrom-either}
use Rattle.ccf.proofs.Waiting.{no_fill_left}
use Rattle.ccf.proofs.OneStep.{Steps, step, step_lost}

-- Frame j lies wholly in the first n chunks, and each chunk of its span was kept.
pub record IsKeptUpTo (frames chunks : List (List ℕ)) (settled : List (Option Segment)) (n j : ℕ) : Type 0 where
  pub within : place_of frames (j + 1) ≤ place_of chunks n
  pub kept : (i : ℕ) → IsInSpan frames chunks j i → IsKept settled i

-- What the first n items of a settled list leave unfinished, and the frames that they join to.
pub record Settles (frames chunks : List (List ℕ)) (fill : ℕ) (settled : List (Option Segment)) (n : ℕ) (joined : List (List ℕ)) (unfinished : List ℕ) : Type 0 where
  pub left : IsLeftUnfinished frames chunks fill settled n unfinished
  pub filters : FiltersTo (IsKeptUpTo frames chunks settled n) frames joined

module _ (check : List ℕ → Bool) (frames chunks : List (List ℕ)) (first fill : ℕ) (segments : List Segment) (cut : IsLawfulCut check frames first fill chunks segments) where
  -- a kept segment takes one step
  pub cut_step : (settled : List (Option Segment)) (n : ℕ) (before : List ℕ) (segment : Segment) → slice_get segments n ≡ Some segment
      → IsLeftUnfinished frames chunks fill settled n before → Steps check frames chunks fill settled n before segment
  cut_step settled n before segment at left =
      let chunk = element_at chunks n (omega (arith, slice_get_within segments n segment at, cut.same_length)) in
      let stream : concat frames ≡ concat (take n chunks) ++ (chunk.0 ++ (concat (drop (suc n) chunks) ++ cut.unsent)) =
      cut.stream ∙ ap (λ t. t ++ cut.unsent) (concat-at chunks n chunk.0 chunk.1)
      ∙ append_assoc (concat (take n chunks)) (chunk.0 ++ concat (drop (suc n) chunks)) cut.unsent
      ∙ ap (λ t. concat (take n chunks) ++ t) (append_assoc chunk.0 (concat (drop (suc n) chunks)) cut.unsent) in
      step check frames chunks first fill settled n chunk.0 (concat (drop (suc n) chunks) ++ cut.unsent) cut.each cut.fill_is (place_of-next chunks n chunk.0 chunk.1) stream
      before segment left (cut.cut n chunk.0 segment chunk.1 at)

  -- a lost segment leaves nothing unfinished
  cut_lost : (settled : List (Option Segment)) (n : ℕ) (before : List ℕ) → n < length segments → ¬ IsKept settled n
      → IsLeftUnfinished frames chunks fill settled n before → IsLeftUnfinished frames chunks fill settled (n + 1) []
  cut_lost settled n before within lost left =
      let chunk = element_at chunks n (omega (arith, cut.same_length)) in
      let stream : concat frames ≡ concat (take n chunks) ++ (chunk.0 ++ (concat (drop (suc n) chunks) ++ cut.unsent)) =
      cut.stream ∙ ap (λ t. t ++ cut.unsent) (concat-at chunks n chunk.0 chunk.1)
      ∙ append_assoc (concat (take n chunks)) (chunk.0 ++ concat (drop (suc n) chunks)) cut.unsent
      ∙ ap (λ t. concat (take n chunks) ++ t) (append_assoc chunk.0 (concat (drop (suc n) chunks)) cut.unsent) in
      step_lost check frames chunks first fill settled n chunk.0 (concat (drop (suc n) chunks) ++ cut.unsent) cut.each cut.fill_is (place_of-next chunks n chunk.0 chunk.1) stream
      before left lost

  -- before the first segment nothing is unfinished
  pub left_at_start : (settled : List (Option Segment)) → IsLeftUnfinished frames chunks fill settled 0 []
  left_at_start settled = inl record { before = []; behind = frames; frames_are = refl; place = refl; fill_left = no_fill_left fill }

  -- of a frame that ends in chunk n no later chunk is in the span
  span_to_end : (j n i : ℕ) → EndsIn frames chunks j n → IsInSpan frames chunks j i → i ≤ n
  span_to_end j n i ends in_span =
      elim (cases_lt n i) [
        | inl h ↦ absurd (omega (arith, ends.1, IsInSpan-begins frames chunks j i in_span, place_of-le chunks (n + 1) i (omega arith)))
        | inr h ↦ h
      ]

  -- the chunk in which a frame ends is in its span
  last_in_span : (j n : ℕ) → j < length frames → place_of chunks n < place_of frames (j + 1) → place_of frames (j + 1) ≤ place_of chunks (n + 1) → IsInSpan frames chunks j n
  last_in_span j n some later within =
      let longer = place_of-lt frames j (each_generic check frames cut.each) some in
      IsInSpan-by_places frames chunks j (n + 1) n longer within later (omega arith)

  -- the frames up to chunk n and those that a kept chunk n completes are the frames up to the next
  filters_kept : (settled : List (Option Segment)) (n : ℕ) (joined fed : List (List ℕ)) → IsKept settled n
      → FiltersTo (IsKeptUpTo frames chunks settled n) frames joined → FiltersTo (IsCompletedBy frames chunks settled n) frames fed
      → FiltersTo (IsKeptUpTo frames chunks settled (n + 1)) frames (joined ++ fed)
  filters_kept settled n joined fed kept h g =
      let P : ℕ → Type 0 = IsKeptUpTo frames chunks settled n in
      let Q : ℕ → Type 0 = IsCompletedBy frames chunks settled n in
      FiltersFrom-same (λ j. P j ⊎ Q j) (IsKeptUpTo frames chunks settled (n + 1)) 0 frames (joined ++ fed)
      (λ j low high either. elim either [
        | inl p ↦ record { within = omega (arith, p.within, place_of-le chunks n (n + 1) (omega arith)); kept = p.kept }
        | inr q ↦ record {
          within = q.ends.1;
          kept = λ i in_span. elim (cases_lt i n) [
            | inl below ↦ q.kept i below in_span
            | inr above ↦ let is : n ≡ i = omega (arith, span_to_end j n i q.ends in_span) in subst (IsKept settled) is kept
          ];
        }
      ])
      (λ j low high p. elim (cases_lt (place_of chunks n) (place_of frames (j + 1))) [
        | inl later ↦ inr record { ends = (later, p.within); kept = λ i below in_span. p.kept i in_span }
        | inr earlier ↦ inl record { within = earlier; kept = p.kept }
      ])
      (FiltersFrom-either P Q 0 frames joined fed (λ i j order q p. omega (arith, q.ends.0, p.within, place_of-le frames (i + 1) (j + 1) (omega arith))) h g)

  -- a lost chunk n adds no frame
  filters_lost : (settled : List (Option Segment)) (n : ℕ) (joined : List (List ℕ)) → ¬ IsKept settled n
      → FiltersTo (IsKeptUpTo frames chunks settled n) frames joined → FiltersTo (IsKeptUpTo frames chunks settled (n + 1)) frames joined
  filters_lost settled n joined lost h =
      FiltersFrom-same (IsKeptUpTo frames chunks settled n) (IsKeptUpTo frames chunks settled (n + 1)) 0 frames joined
      (λ j low high p. record { within = omega (arith, p.within, place_of-le chunks n (n + 1) (omega arith)); kept = p.kept })
      (λ j low high p. elim (cases_lt (place_of chunks n) (place_of frames (j + 1))) [
        | inl later ↦ absurd (lost (p.kept n (last_in_span j n (omega arith) later p.within)))
        | inr earlier ↦ record { within = earlier; kept = p.kept }
      ]) h

  -- a settled list is gone through item by item
  settles_on : (settled past rest : List (Option Segment)) (so_far joined : List (List ℕ)) (before after : List ℕ) → IsSettledOf segments settled → settled ≡ past ++ rest
      → Settles frames chunks fill settled (length past) so_far before → Joins check before rest joined after
      → Settles frames chunks fill settled (length settled) (so_far ++ joined) after
  settles_on settled past [] so_far joined before after is_settled e s h =
      let P : ℕ → List (List ℕ) → List ℕ → Type 0 = Settles frames chunks fill settled in
      let all : length past ≡ length settled = ap length (sym (e ∙ append-nil past)) in
      let same : so_far ≡ so_far ++ joined = sym (append-nil so_far) ∙ ap (λ t. so_far ++ t) (sym h.0) in
      subst (P (length settled) (so_far ++ joined)) (sym h.1) (subst (λ t. P (length settled) t before) same (subst (λ n. P n so_far before) all s))
  settles_on settled past (None ∷ rest) so_far joined before after is_settled e s h =
      let n = length past in
      let here : slice_get settled n ≡ Some None = ap (λ t. slice_get t n) e ∙ slice_get-at past None rest in
      let lost : IsKept settled n → ⊥ = λ kept. (let other = kept.1 in cc) in
      let more : n + 1 ≡ length (past ++ None ∷ []) = sym (length-append past (None ∷ [])) in
      let some : n < length segments = omega (arith, is_settled.within, ap length e, length-append past (None ∷ rest)) in
      let next : Settles frames chunks fill settled (n + 1) so_far [] = record { left = cut_lost settled n before some lost s.left; filters = filters_lost settled n so_far lost s.filters } in
      settles_on settled (past ++ None ∷ []) rest so_far joined [] after is_settled (e ∙ sym (append_assoc past (None ∷ []) rest))
      (subst (λ k. Settles frames chunks fill settled k so_far []) more next) h
  settles_on settled past (Some segment ∷ rest) so_far joined before after is_settled e s (fed, behind, between, feeds, joins, is) =
      let n = length past in
      let here : slice_get settled n ≡ Some (Some segment) = ap (λ t. slice_get t n) e ∙ slice_get-at past (Some segment) rest in
      let kept : IsKept settled n = (segment, here) in
      let stepped = cut_step settled n before segment (is_settled.kept n segment here) s.left in
      let same = Feeds-once check before segment stepped.fed fed stepped.after between stepped.feeds feeds in
      let more : n + 1 ≡ length (past ++ Some segment ∷ []) = sym (length-append past (Some segment ∷ [])) in
      let next : Settles frames chunks fill settled (n + 1) (so_far ++ fed) between = record {
        left = subst (IsLeftUnfinished frames chunks fill settled (n + 1)) same.1 (stepped.left kept);
        filters = filters_kept settled n so_far fed kept s.filters (subst (FiltersTo (IsCompletedBy frames chunks settled n) frames) same.0 stepped.completes);
      } in
      let rest_settles = settles_on settled (past ++ Some segment ∷ []) rest (so_far ++ fed) behind between after is_settled (e ∙ sym (append_assoc past (Some segment ∷ []) rest))
      (subst (λ k. Settles frames chunks fill settled k (so_far ++ fed) between) more next) joins in
      subst (λ t. Settles frames chunks fill settled (length settled) t after) (append_assoc so_far fed behind ∙ ap (λ t. so_far ++ t) (sym is)) rest_settles

  -- a settled list, from its first item to its last
  settles : (settled : List (Option Segment)) (joined : List (List ℕ)) (after : List ℕ) → IsSettledOf segments settled → Joins check [] settled joined after
      → Settles frames chunks fill settled (length settled) joined after
  settles settled joined after is_settled h =
      settles_on settled [] settled [] joined [] after is_settled refl record {
        left = left_at_start settled;
        filters = FiltersFrom-none (IsKeptUpTo frames chunks settled 0) 0 frames (λ j low high p. omega (arith, p.within, place_of-lt frames j (each_generic check frames cut.each) (omega arith)));
      } h

-- what a settled list leaves unfinished
pub left_of_settled : (check : List ℕ → Bool) (frames chunks : List (List ℕ)) (first fill : ℕ) (segments : List Segment) (settled : List (Option Segment)) (joined : List (List ℕ)) (after : List ℕ)
    → IsLawfulCut check frames first fill chunks segments → IsSettledOf segments settled → Joins check [] settled joined after
    → IsLeftUnfinished frames chunks fill settled (length settled) after
left_of_settled check frames chunks first fill segments settled joined after cut is_settled h = (settles check frames chunks first fill segments cut settled joined after is_settled h).left

-- the frames that a settled list joins to
pub frames_of_settled : (check : List ℕ → Bool) (frames chunks : List (List ℕ)) (first fill : ℕ) (segments : List Segment) (settled : List (Option Segment)) (joined : List (List ℕ)) (after : List ℕ)
    → IsLawfulCut check frames first fill chunks segments → IsSettledOf segments settled → Joins check [] settled joined after
    → FiltersTo (IsWhollyKept frames chunks settled) frames joined
frames_of_settled check frames chunks first fill segments settled joined after cut is_settled h =
    FiltersFrom-same (IsKeptUpTo frames chunks settled (length settled)) (IsWhollyKept frames chunks settled) 0 frames joined
    (λ j low high p. record { within = p.within; kept = p.kept })
    (λ j low high p. record { within = p.within; kept = p.kept })
    (settles check frames chunks first fill segments cut settled joined after is_settled h).filters

-- the frames that the next segment after a settled list completes
pub completed_by_feed : (check : List ℕ → Bool) (frames chunks : List (List ℕ)) (first fill : ℕ) (segments : List Segment) (settled : List (Option Segment)) (joined : List (List ℕ)) (before after : List ℕ)
    (segment : Segment) (fed : List (List ℕ))
    → IsLawfulCut check frames first fill chunks segments → IsSettledOf segments settled → slice_get segments (length settled) ≡ Some segment
    → Joins check [] settled joined before → Feeds check before segment fed after
    → FiltersTo (IsCompletedBy frames chunks settled (length settled)) frames fed
completed_by_feed check frames chunks first fill segments settled joined before after segment fed cut is_settled at h feeds =
    let left = left_of_settled check frames chunks first fill segments settled joined before cut is_settled h in
    let stepped = cut_step check frames chunks first fill segments cut settled (length settled) before segment at left in
    let same = Feeds-once check before segment stepped.fed fed stepped.after after stepped.feeds feeds in
    subst (FiltersTo (IsCompletedBy frames chunks settled (length settled)) frames) same.0 stepped.completes
