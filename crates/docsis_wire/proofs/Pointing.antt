-- The pointers of a cut's segments.
use Rattle.std.proofs.Common.{◌≡◌, ℕ, ◌<◌, Bool, true, false, Some, List, length, replicate, ap, arith, length-append}
use Rattle.std.specs.List.{slice_get}
use Rattle.std.proofs.lemmas.Option.{slice_get_within}
use Rattle.docsis_wire.specs.declared.segment.Segment.{Segment}
use Rattle.docsis_wire.specs.Ready.{IsReady}
use Rattle.docsis_wire.specs.Stream.{place_of}
use Rattle.docsis_wire.specs.Cut.{Points, IsLawfulCut}
use Rattle.docsis_wire.proofs.StreamPlaces.{element_at}

-- with PFI the pointer names a place within the chunk
Points-within : (pfi : Bool) (pointer : ℕ) (frames : List (List ℕ)) (place : ℕ) (chunk : List ℕ) → Points pfi pointer frames place chunk → pfi ≡ true → pointer < length chunk
Points-within true pointer frames place chunk h e = h.0.0
Points-within false pointer frames place chunk h e = absurd cc

-- each segment of a cut is ready
pub ready_of_cut : (check : List ℕ → Bool) (frames chunks : List (List ℕ)) (first fill i : ℕ) (segments : List Segment) (segment : Segment)
    → IsLawfulCut check frames first fill chunks segments → slice_get segments i ≡ Some segment → IsReady segment
ready_of_cut check frames chunks first fill i segments segment cut at pfi =
    let chunk = element_at chunks i (omega (arith, slice_get_within segments i segment at, cut.same_length)) in
    let c = cut.cut i chunk.0 segment chunk.1 at in
    omega (arith, Points-within segment.head.pfi segment.head.pointer frames (place_of chunks i) chunk.0 c.points pfi, ap length c.payload, length-append chunk.0 (replicate c.fill_len fill))
