-- The delivery sequence is there, and is one: whether a frame is delivered can be decided.
use Rattle.std.proofs.Common.{◌≡◌, ℕ, ◌+◌, ◌<◌, ◌≤◌, inl, inr, Bool, List, [], ◌∷◌, length, refl, subst, arith}
use Rattle.std.specs.List.{AllByRecursion}
use Rattle.std.proofs.lemmas.Bool.{cases_lt}
use Rattle.docsis_wire.specs.Frame.{IsFrame}
use Rattle.docsis_wire.specs.Stream.{place_of}
use Rattle.docsis_wire.specs.Span.{IsInSpan}
use Rattle.docsis_wire.proofs.StreamPlaces.{each_generic, place_of-le, place_of-lt}
use Rattle.docsis_wire.proofs.Spans.{IsInSpan-begins, IsInSpan-ends, IsInSpan-by_places}
use Rattle.ccf.specs.Filter.{FiltersFrom}
use Rattle.ccf.proofs.Filters.{FiltersFrom-once}
use Rattle.flow_core.specs.Fates.{Fates, IsKept, IsExpected}
use Rattle.flow_core.specs.Delivery.{IsDelivered, IsDeliverySequence}
use Rattle.flow_core.proofs.Deciding.{Decided, both, opposite, below-decided, le-decided, found-below, IsKept-decided}
use Rattle.flow_core.proofs.Outcome.{expected-unique}

-- where it is decided of each index whether a fact holds there are the items at whose index it does
FiltersFrom-some : {X : Type 0} (P : ℕ → Type 0) (k : ℕ) (xs : List X) → ((j : ℕ) → j < k + length xs → Decided (P j))
    → (chosen : List X) × FiltersFrom P k xs chosen
FiltersFrom-some P k [] decide = ([], refl)
FiltersFrom-some P k (x ∷ xs) decide =
    let rest = FiltersFrom-some P (k + 1) xs (λ j within. decide j (omega arith)) in
    elim (decide k (omega arith)) [
      | inl holds ↦ (x ∷ rest.0, inl (holds, rest.0, refl, rest.1))
      | inr not_so ↦ (rest.0, inr (not_so, rest.1))
    ]

-- chunk i begins before the end of frame j, and ends after its first byte
abbrev IsBetween : List (List ℕ) → List (List ℕ) → ℕ → ℕ → Type 0
IsBetween frames chunks j i = (place_of chunks i < place_of frames (j + 1)) × (place_of frames j < place_of chunks (i + 1))

-- the segment of the index was kept, and lies below the expected index x
abbrev IsKeptBelow : Fates → ℕ → ℕ → Type 0
IsKeptBelow fates x i = IsKept fates i × (i < x)

IsKeptBelow-decided : (fates : Fates) (x i : ℕ) → Decided (IsKeptBelow fates x i)
IsKeptBelow-decided fates x i = both (IsKept fates i) (i < x) (IsKept-decided fates i) (below-decided i x)

-- chunk i is such a one, and its segment was not kept or its index does not lie below x
abbrev IsMissing : List (List ℕ) → List (List ℕ) → Fates → ℕ → ℕ → ℕ → Type 0
IsMissing frames chunks fates x j i = IsBetween frames chunks j i × (IsKeptBelow fates x i → ⊥)

IsMissing-decided : (frames chunks : List (List ℕ)) (fates : Fates) (x j i : ℕ) → Decided (IsMissing frames chunks fates x j i)
IsMissing-decided frames chunks fates x j i =
    both (IsBetween frames chunks j i) (IsKeptBelow fates x i → ⊥)
    (both (place_of chunks i < place_of frames (j + 1)) (place_of frames j < place_of chunks (i + 1))
    (below-decided (place_of chunks i) (place_of frames (j + 1))) (below-decided (place_of frames j) (place_of chunks (i + 1))))
    (opposite (IsKeptBelow fates x i) (IsKeptBelow-decided fates x i))

-- a chunk in the span of a frame that lies wholly in the cut is one of the cut
in_span-within : (frames chunks : List (List ℕ)) (j i : ℕ) → place_of frames (j + 1) ≤ place_of chunks (length chunks)
    → IsInSpan frames chunks j i → i < length chunks
in_span-within frames chunks j i whole in_span =
    elim (cases_lt i (length chunks)) [
      | inl below ↦ below
      | inr past ↦ absurd (omega (arith, IsInSpan-begins frames chunks j i in_span, place_of-le chunks (length chunks) i past))
    ]

-- where no index is missing, each of the span was kept and lies below x
span-kept : (frames chunks : List (List ℕ)) (fates : Fates) (x j : ℕ) → place_of frames (j + 1) ≤ place_of chunks (length chunks)
    → ((i : ℕ) → i < length chunks → IsMissing frames chunks fates x j i → ⊥) → (i : ℕ) → IsInSpan frames chunks j i → IsKeptBelow fates x i
span-kept frames chunks fates x j whole none i in_span =
    elim (IsKeptBelow-decided fates x i) [
      | inl kept ↦ kept
      | inr not_so ↦ absurd (none i (in_span-within frames chunks j i whole in_span)
          ((IsInSpan-begins frames chunks j i in_span, IsInSpan-ends frames chunks j i in_span), not_so))
    ]

-- whether a frame is delivered
IsDelivered-decided : (check : List ℕ → Bool) (frames chunks : List (List ℕ)) (fates : Fates) (x j : ℕ)
    → AllByRecursion (IsFrame check) frames → j < length frames → Decided (IsDelivered frames chunks fates x j)
IsDelivered-decided check frames chunks fates x j each within =
    elim (le-decided (place_of frames (j + 1)) (place_of chunks (length chunks))) [
      | inr not_so ↦ inr (λ delivered. not_so delivered.whole)
      | inl whole ↦ elim (found-below (IsMissing frames chunks fates x j) (IsMissing-decided frames chunks fates x j) (length chunks)) [
        | inl found ↦ inr (λ delivered.
            let some = place_of-lt frames j (each_generic check frames each) within in
            let missing = found.2 in
            let in_span = IsInSpan-by_places frames chunks j (length chunks) found.0 some whole missing.0.0 missing.0.1 in
            missing.1 (delivered.kept found.0 in_span, delivered.below found.0 in_span))
        | inr none ↦ inl record {
          whole = whole;
          kept = λ i in_span. (span-kept frames chunks fates x j whole none i in_span).0;
          below = λ i in_span. (span-kept frames chunks fates x j whole none i in_span).1;
        }
      ]
    ]

-- there is a delivery sequence
pub sequence-some : (check : List ℕ → Bool) (frames chunks : List (List ℕ)) (fates : Fates) (x : ℕ)
    → AllByRecursion (IsFrame check) frames → IsExpected fates x → (given : List (List ℕ)) × IsDeliverySequence frames chunks fates given
sequence-some check frames chunks fates x each expected =
    let decide = λ (j : ℕ) (within : j < 0 + length frames). IsDelivered-decided check frames chunks fates x j each (omega arith) in
    let chosen = FiltersFrom-some (IsDelivered frames chunks fates x) 0 frames decide in
    (chosen.0, (x, expected, chosen.1))

-- and only one
pub sequence-once : (frames chunks given others : List (List ℕ)) (fates : Fates) → IsDeliverySequence frames chunks fates given
    → IsDeliverySequence frames chunks fates others → given ≡ others
sequence-once frames chunks given others fates (x, expected, filters) (y, expected', filters') =
    let same = expected-unique fates x y expected expected' in
    FiltersFrom-once (IsDelivered frames chunks fates y) 0 frames given others
    (subst (λ n. FiltersFrom (IsDelivered frames chunks fates n) 0 frames given) same filters) filters'
