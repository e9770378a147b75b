-- Which frames are delivered: the frames that settled segments join to, and how they grow.
use Rattle.std.proofs.Common.{◌≡◌, ℕ, ◌+◌, ◌-◌, ◌<◌, ◌≤◌, inl, inr, Bool, IsSome, Option, Some, List, [], ◌∷◌, ◌++◌, length, slice_get, ap, sym, ◌∙◌, zero-add, arith}
use Rattle.std.specs.List.{AllByRecursion}
use Rattle.std.proofs.lemmas.Bool.{cases_lt}
use Rattle.std.proofs.lemmas.Option.{slice_get_within}
use Rattle.std.specs.FinMap as map
use Rattle.docsis_wire.specs.declared.segment.Segment.{Segment}
use Rattle.docsis_wire.specs.Frame.{IsFrame}
use Rattle.docsis_wire.specs.Stream.{place_of}
use Rattle.docsis_wire.specs.Cut.{IsLawfulCut}
use Rattle.docsis_wire.specs.Span.{IsInSpan, IsSettledOf, IsWhollyKept}
use Rattle.docsis_wire.proofs.StreamPlaces.{each_generic, place_of-le, place_of-lt, piece_at, element_at}
use Rattle.docsis_wire.proofs.Spans.{IsInSpan-begins, IsInSpan-by_places}
use Rattle.ccf.specs.Filter.{FiltersFrom, FiltersTo}
use Rattle.ccf.proofs.Filters.{FiltersFrom-none, FiltersFrom-same, FiltersFrom-once}
use Rattle.flow_core.specs.Fates.{Fates, IsSettledBelow}
use Rattle.flow_core.specs.Delivery.{IsDelivered}
use Rattle.flow_core.proofs.Deciding.{open_or_settled}
use Rattle.flow_core.proofs.Outcome.{open_and_settled}

-- The chunk with the last byte of a frame: it is in the frame's span.
record HasLast (frames chunks : List (List ℕ)) (j : ℕ) : Type 0 where
  chunk : ℕ
  in_span : IsInSpan frames chunks j chunk
  ends : place_of frames (j + 1) ≤ place_of chunks (chunk + 1)

last_chunk : (frames chunks : List (List ℕ)) (j : ℕ) → place_of frames j < place_of frames (j + 1) → place_of frames (j + 1) ≤ place_of chunks (length chunks)
    → HasLast frames chunks j
last_chunk frames chunks j some whole =
    let last : ℕ = place_of frames (j + 1) - 1 in
    let all : place_of chunks (0 + length chunks) ≡ place_of chunks (length chunks) = ap (place_of chunks) (zero-add (length chunks)) in
    let found = piece_at chunks last 0 (length chunks) (omega arith) (omega arith) in
    record {
      chunk = found.0;
      in_span = IsInSpan-by_places frames chunks j (length chunks) found.0 some whole (omega (arith, found.3)) (omega (arith, found.4));
      ends = omega (arith, found.4);
    }

-- an index that is kept in what is settled is kept as that segment
kept_in_settled : (fates : Fates) (n i : ℕ) (settled : List (Option Segment)) (segment : Segment) → IsSettledBelow fates n settled → i < n
    → map.get fates i ≡ Some (Some segment) → slice_get settled i ≡ Some (Some segment)
kept_in_settled fates n i settled segment below within kept =
    let found = element_at settled i (let size = below.size in omega arith) in
    let is = below.each i found.0 found.1 in
    let at = found.1 in
    cc

-- where what is settled below an index is the cut's, a frame is wholly kept exactly if delivered
pub delivered_of_settled : (check : List ℕ → Bool) (frames chunks : List (List ℕ)) (first fill n : ℕ) (segments : List Segment) (fates : Fates)
    (settled : List (Option Segment)) (joined : List (List ℕ))
    → IsLawfulCut check frames first fill chunks segments → IsSettledOf segments settled → IsSettledBelow fates n settled
    → FiltersTo (IsWhollyKept frames chunks settled) frames joined → FiltersTo (IsDelivered frames chunks fates n) frames joined
delivered_of_settled check frames chunks first fill n segments fates settled joined cut of_cut below =
    FiltersFrom-same (IsWhollyKept frames chunks settled) (IsDelivered frames chunks fates n) 0 frames joined
    (λ j low high p. record {
      whole = omega (arith, p.within, place_of-le chunks (length settled) (length chunks) (omega (arith, of_cut.within, cut.same_length)));
      kept = λ i in_span. let kept = p.kept i in_span in (kept.0, below.each i (Some kept.0) kept.1);
      below = λ i in_span. let kept = p.kept i in_span in omega (arith, slice_get_within settled i (Some kept.0) kept.1, below.size);
    })
    (λ j low high p.
    let last = last_chunk frames chunks j (place_of-lt frames j (each_generic check frames cut.each) (omega arith)) p.whole in
    let near : last.chunk + 1 ≤ length settled = omega (arith, p.below last.chunk last.in_span, below.size) in
    record {
      within = omega (arith, last.ends, place_of-le chunks (last.chunk + 1) (length settled) near);
      kept = λ i in_span. let kept = p.kept i in_span in (kept.0, kept_in_settled fates n i settled kept.0 below (p.below i in_span) kept.1);
    })

-- Where a fact implies another, and what has the other one has the first too wherever it stands
-- before one that has, the items of the first are the front of the items of the other.
FiltersFrom-front : {X : Type 0} (P Q : ℕ → Type 0) (k : ℕ) (xs chosen more : List X) → ((j : ℕ) → P j → Q j)
    → ((i j : ℕ) → i < j → j < k + length xs → P j → Q i → P i)
    → FiltersFrom P k xs chosen → FiltersFrom Q k xs more → (rest : List X) × (more ≡ chosen ++ rest)
FiltersFrom-front P Q k [] chosen more to down h g = ([], g ∙ ap (λ t. t ++ []) (sym h))
FiltersFrom-front P Q k (x ∷ xs) chosen more to down (inl h) (inl g) =
    let rest = FiltersFrom-front P Q (k + 1) xs h.1 g.1 to (λ i j less below. down i j less (omega arith)) h.3 g.3 in
    (rest.0, g.2 ∙ ap (λ t. x ∷ t) rest.1 ∙ ap (λ t. t ++ rest.0) (sym h.2))
FiltersFrom-front P Q k (x ∷ xs) chosen more to down (inl h) (inr g) = absurd (g.0 (to k h.0))
FiltersFrom-front P Q k (x ∷ xs) chosen more to down (inr h) (inl g) =
    let none = FiltersFrom-once P (k + 1) xs chosen [] h.1 (FiltersFrom-none P (k + 1) xs (λ j from below p. h.0 (down k j (omega arith) (omega arith) p g.0))) in
    (more, ap (λ t. t ++ more) (sym none))
FiltersFrom-front P Q k (x ∷ xs) chosen more to down (inr h) (inr g) =
    FiltersFrom-front P Q (k + 1) xs chosen more to (λ i j less below. down i j less (omega arith)) h.1 g.1

-- where what is settled stays, the frames that are delivered stay in front
pub delivered_is_front : (check : List ℕ → Bool) (frames chunks : List (List ℕ)) (fates after : Fates) (x y : ℕ) (given grown : List (List ℕ))
    → AllByRecursion (IsFrame check) frames → x ≤ y → ((i : ℕ) → i < x → IsSome (map.get fates i))
    → ((i : ℕ) (fate : Option Segment) → map.get fates i ≡ Some fate → map.get after i ≡ Some fate)
    → FiltersTo (IsDelivered frames chunks fates x) frames given → FiltersTo (IsDelivered frames chunks after y) frames grown
    → (rest : List (List ℕ)) × (grown ≡ given ++ rest)
delivered_is_front check frames chunks fates after x y given grown each onward settled stays =
    FiltersFrom-front (IsDelivered frames chunks fates x) (IsDelivered frames chunks after y) 0 frames given grown
    (λ j p. record {
      whole = p.whole;
      kept = λ i in_span. let kept = p.kept i in_span in (kept.0, stays i (Some kept.0) kept.1);
      below = λ i in_span. omega (arith, p.below i in_span);
    })
    (λ k j less within p q.
    let last = last_chunk frames chunks j (place_of-lt frames j (each_generic check frames each) (omega arith)) p.whole in
    let below : (i : ℕ) → IsInSpan frames chunks k i → i < x = λ i in_span. elim (cases_lt last.chunk i) [
      | inl later ↦ absurd (omega (arith, last.ends, IsInSpan-begins frames chunks k i in_span, place_of-le chunks (last.chunk + 1) i (omega arith), place_of-le frames (k + 1) (j + 1) (omega arith)))
      | inr up_to ↦ omega (arith, p.below last.chunk last.in_span)
    ] in
    record {
      whole = q.whole;
      kept = λ i in_span. elim (open_or_settled fates i) [
        | inl free ↦ absurd (open_and_settled fates i free (settled i (below i in_span)))
        | inr fate ↦ let kept = q.kept i in_span in let is = kept.1 in let was = fate.1 in let still = stays i fate.0 fate.1 in (kept.0, cc)
      ];
      below = below;
    })
