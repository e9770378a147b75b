-- The span of a frame, by the places of the chunks.
use Rattle.std.proofs.Common.{◌≡◌, ℕ, ◌+◌, ◌-◌, ◌<◌, ◌≤◌, ◌↔◌, List, length, refl, zero-add, arith}
use Rattle.std.specs.List.{AllByRecursion}
use Rattle.docsis_wire.specs.Frame.{IsGenericFrame}
use Rattle.docsis_wire.specs.Stream.{place_of}
use Rattle.docsis_wire.specs.Span.{IsInSpan}
use Rattle.docsis_wire.proofs.StreamPlaces.{place_of-le, place_of-lt, piece_at}

-- a chunk of the span ends after the frame's first byte
pub IsInSpan-ends : (frames chunks : List (List ℕ)) (j i : ℕ) → IsInSpan frames chunks j i → place_of frames j < place_of chunks (i + 1)
IsInSpan-ends frames chunks j i h =
    let s = h.shares_earlier in
    omega (arith, place_of-le chunks (h.earlier + 1) (i + 1) (omega (arith, h.from)), s.frame_from, s.chunk_to)

-- a chunk of the span begins before the frame's end
pub IsInSpan-begins : (frames chunks : List (List ℕ)) (j i : ℕ) → IsInSpan frames chunks j i → place_of chunks i < place_of frames (j + 1)
IsInSpan-begins frames chunks j i h =
    let s = h.shares_later in
    omega (arith, place_of-le chunks i h.later h.to, s.chunk_from, s.frame_to)

-- a chunk that ends after the first byte of a frame and begins before its end is in its span, where
-- the frame lies in the cut
pub IsInSpan-by_places : (frames chunks : List (List ℕ)) (j n i : ℕ) → place_of frames j < place_of frames (j + 1) → place_of frames (j + 1) ≤ place_of chunks n
    → place_of chunks i < place_of frames (j + 1) → place_of frames j < place_of chunks (i + 1) → IsInSpan frames chunks j i
IsInSpan-by_places frames chunks j n i some within begins ends =
    let first = piece_at chunks (place_of frames j) 0 (i + 1) (omega arith) (let e : place_of chunks (0 + (i + 1)) ≡ place_of chunks (i + 1) = rw (zero-add (i + 1)) refl in omega arith) in
    let last_place = place_of frames (j + 1) - 1 in
    let last = piece_at chunks last_place i n (omega arith) (omega (arith, place_of-le chunks n (i + n) (omega arith))) in
    record {
      earlier = first.0;
      later = last.0;
      from = omega (arith, first.2);
      to = last.1;
      shares_earlier = record { place = place_of frames j; frame_from = omega arith; frame_to = some; chunk_from = first.3; chunk_to = first.4 };
      shares_later = record { place = last_place; frame_from = omega arith; frame_to = omega arith; chunk_from = last.3; chunk_to = last.4 };
    }

pub IsInSpan-iff : (frames chunks : List (List ℕ)) (j n i : ℕ) → AllByRecursion IsGenericFrame frames → j < length frames → place_of frames (j + 1) ≤ place_of chunks n
    → IsInSpan frames chunks j i ↔ ((place_of chunks i < place_of frames (j + 1)) × (place_of frames j < place_of chunks (i + 1)))
IsInSpan-iff frames chunks j n i each some within = (
  λ h. (IsInSpan-begins frames chunks j i h, IsInSpan-ends frames chunks j i h),
  λ h. IsInSpan-by_places frames chunks j n i (place_of-lt frames j each some) within h.0 h.1,
)
