-- How many bytes the frames have that are given, and what is unfinished: no more than there were.
use Rattle.std.proofs.Common.{◌≡◌, ℕ, ◌+◌, ◌*◌, ◌≤◌, inl, inr, Bool, true, false, Option, Some, None, List, [], ◌∷◌, ◌++◌, length, take, drop, refl, ap, sym, subst, arith, length-append, sum_by}
use Rattle.std.specs.List.{concat, AllByRecursion}
use Rattle.std.proofs.lemmas.List.{take-append-drop}
use Rattle.std.proofs.lemmas.List.Folds.{concat-append}
use Rattle.std.proofs.lemmas.List.Sums.{sum_by-cons}
use Rattle.docsis_wire.specs.declared.frame.HeadRead.{HeadRead}
use Rattle.docsis_wire.specs.declared.frame.HeadRead.TheVariants.{Short, Fill, Bad, Head}
use Rattle.docsis_wire.specs.declared.segment.Segment.{Segment}
use Rattle.docsis_wire.specs.Frame.{IsFrame}
use Rattle.docsis_wire.specs.Head.{head_of}
use Rattle.docsis_wire.proofs.FrameHeads.{length-frame}
use Rattle.ccf.specs.Walk.{Ends, EndsAs, Walks}
use Rattle.ccf.specs.Feed.{Delivers, GoesOn, IsDoneWith, Completes, FeedsAs, Feeds}
use Rattle.ccf.specs.Join.{Joins}
use Rattle.flow_core.specs.Counts.{payload_bytes}
use Rattle.answers.proofs.Everywhere.{all_append}

-- Each is a frame, and together with what is unfinished they are no more than so many bytes.
pub record FitInto (check : List ℕ → Bool) (frames : List (List ℕ)) (after : List ℕ) (room : ℕ) : Type 0 where
  pub each : AllByRecursion (IsFrame check) frames
  pub fits : length (concat frames) + length after ≤ room

-- what becomes of bytes without a frame in front is no more than they are
ends_as-fits : (check : List ℕ → Bool) (head : HeadRead) (rest after : List ℕ) → EndsAs check head rest after → length after ≤ length rest
ends_as-fits check Short rest after h = omega (arith, ap length h)
ends_as-fits check Fill rest after h = omega (arith, ap length h)
ends_as-fits check (Bad fault) rest after h = omega (arith, ap length h)
ends_as-fits check (Head ehdr total) rest after (inl h) = omega (arith, ap length h.1)
ends_as-fits check (Head ehdr total) rest after (inr h) = omega (arith, ap length h.2)

ends-fits : (check : List ℕ → Bool) (rest after : List ℕ) → Ends check rest after → length after ≤ length rest
ends-fits check rest = ends_as-fits check (head_of rest) rest

walks-fit : (check : List ℕ → Bool) (bytes : List ℕ) (frames : List (List ℕ)) (after : List ℕ) → Walks check bytes frames after → FitInto check frames after (length bytes)
walks-fit check bytes frames after walks = record {
  each = walks.each;
  fits = omega (arith, ap length walks.whole, length-append (concat frames) walks.rest, ends-fits check walks.rest after walks.ends);
}

-- no frames
none_fit : (check : List ℕ → Bool) (frames : List (List ℕ)) (after : List ℕ) (room : ℕ) → frames ≡ [] → length after ≤ room → FitInto check frames after room
none_fit check frames after room none within = record {
  each = subst (AllByRecursion (IsFrame check)) (sym none) tt;
  fits = let size = ap (λ (fs : List (List ℕ)). length (concat fs)) none in omega arith;
}

-- one frame, which is the front of some bytes, and nothing left
one_fits : (check : List ℕ → Bool) (frame : List ℕ) (frames : List (List ℕ)) (after : List ℕ) (room : ℕ) → frames ≡ frame ∷ [] → IsFrame check frame → after ≡ []
    → length frame ≤ room → FitInto check frames after room
one_fits check frame frames after room one is_frame none within = record {
  each = subst (AllByRecursion (IsFrame check)) (sym one) (is_frame, tt);
  fits = let size = ap (λ (fs : List (List ℕ)). length (concat fs)) one in omega (arith, length-append frame [], ap length none);
}

-- some frames and more, of which the bytes of both have room
more_fit : (check : List ℕ → Bool) (front back frames : List (List ℕ)) (between after : List ℕ) (room rest all : ℕ) → frames ≡ front ++ back
    → FitInto check front between room → FitInto check back after rest → room + rest ≤ all + length between → FitInto check frames after all
more_fit check front back frames between after room rest all are h g sizes = record {
  each = subst (AllByRecursion (IsFrame check)) (sym are) (all_append (IsFrame check) front back h.each g.each);
  fits = let size = ap (λ (fs : List (List ℕ)). length (concat fs)) are in
      let both = ap length (concat-append front back) in
      omega (arith, length-append (concat front) (concat back), h.fits, g.fits);
}

delivers-fits : (check : List ℕ → Bool) (bytes : List ℕ) (frames : List (List ℕ)) (after : List ℕ) → Delivers check bytes frames after → FitInto check frames after (length bytes)
delivers-fits check bytes frames after d =
    one_fits check d.frame frames after (length bytes) d.delivered d.is_frame d.nothing_left (omega (arith, ap length d.whole, length-append d.frame d.skipped))

goes_on-fits : (check : List ℕ → Bool) (bytes : List ℕ) (frames : List (List ℕ)) (after : List ℕ) → GoesOn check bytes frames after → FitInto check frames after (length bytes)
goes_on-fits check bytes frames after (inl d) = delivers-fits check bytes frames after d
goes_on-fits check bytes frames after (inr h) = none_fit check frames after (length bytes) h.0 (ends-fits check bytes after h.1)

done-fits : (check : List ℕ → Bool) (bytes : List ℕ) (done : List (List ℕ)) → IsDoneWith check bytes done → FitInto check done [] (length bytes)
done-fits check bytes done (inl h) = one_fits check bytes done [] (length bytes) h.1 h.0 refl (omega arith)
done-fits check bytes done (inr h) = none_fit check done [] (length bytes) h.1 (omega arith)

completes-fit : (check : List ℕ → Bool) (bytes payload : List ℕ) (frames : List (List ℕ)) (after : List ℕ) → Completes check bytes payload frames after
    → FitInto check frames after (length bytes + length payload)
completes-fit check bytes payload frames after c =
    more_fit check c.done c.walked frames [] after (length bytes) (length payload) (length bytes + length payload) c.delivered
    (done-fits check bytes c.done c.is_done) (walks-fit check payload c.walked after c.walks) (omega arith)

-- room that is more
roomier : (check : List ℕ → Bool) (frames : List (List ℕ)) (after : List ℕ) (room more : ℕ) → FitInto check frames after room → room ≤ more → FitInto check frames after more
roomier check frames after room more h within = record { each = h.each; fits = omega (arith, h.fits) }

feeds_as-fit : (check : List ℕ → Bool) (pfi : Bool) (before : List ℕ) (pointer : ℕ) (payload : List ℕ) (frames : List (List ℕ)) (after : List ℕ)
    → FeedsAs check pfi before pointer payload frames after → FitInto check frames after (length before + length payload)
feeds_as-fit check false [] pointer payload frames after h =
    none_fit check frames after (length {A = ℕ} [] + length payload) h.0 (omega (arith, ap length h.1))
feeds_as-fit check false (b ∷ bs) pointer payload frames after h =
    roomier check frames after (length (b ∷ bs ++ payload)) (length (b ∷ bs) + length payload) (goes_on-fits check (b ∷ bs ++ payload) frames after h) (omega (arith, length-append (b ∷ bs) payload))
feeds_as-fit check true [] pointer payload frames after h =
    let parts = ap length (take-append-drop pointer payload) in
    roomier check frames after (length (drop pointer payload)) (length {A = ℕ} [] + length payload) (walks-fit check (drop pointer payload) frames after h)
    (omega (arith, length-append (take pointer payload) (drop pointer payload)))
feeds_as-fit check true (b ∷ bs) pointer payload frames after h =
    let parts = ap length (take-append-drop pointer payload) in
    roomier check frames after (length (b ∷ bs ++ take pointer payload) + length (drop pointer payload)) (length (b ∷ bs) + length payload)
    (completes-fit check (b ∷ bs ++ take pointer payload) (drop pointer payload) frames after h)
    (omega (arith, length-append (b ∷ bs) (take pointer payload), length-append (take pointer payload) (drop pointer payload)))

-- what a segment completes and leaves has no more bytes than what was unfinished and its payload
pub feeds-fit : (check : List ℕ → Bool) (before : List ℕ) (segment : Segment) (frames : List (List ℕ)) (after : List ℕ)
    → Feeds check before segment frames after → FitInto check frames after (length before + length segment.payload)
feeds-fit check before segment = feeds_as-fit check segment.head.pfi before segment.head.pointer segment.payload

-- and what a settled list joins to, than what was unfinished and all payloads
pub joins-fit : (check : List ℕ → Bool) (before : List ℕ) (settled : List (Option Segment)) (frames : List (List ℕ)) (after : List ℕ)
    → Joins check before settled frames after → FitInto check frames after (length before + sum_by payload_bytes settled)
joins-fit check before [] frames after h =
    none_fit check frames after (length before + sum_by payload_bytes []) h.0 (omega (arith, ap length h.1))
joins-fit check before (None ∷ settled) frames after h =
    roomier check frames after (length {A = ℕ} [] + sum_by payload_bytes settled) (length before + sum_by payload_bytes (None ∷ settled)) (joins-fit check [] settled frames after h)
    (omega (arith, sum_by-cons payload_bytes None settled))
joins-fit check before (Some segment ∷ settled) frames after (fed, rest, between, feeds, joins, are) =
    more_fit check fed rest frames between after (length before + length segment.payload) (length between + sum_by payload_bytes settled)
    (length before + sum_by payload_bytes (Some segment ∷ settled)) are (feeds-fit check before segment fed between feeds) (joins-fit check between settled rest after joins)
    (omega (arith, sum_by-cons payload_bytes (Some segment) settled))

-- a frame has six bytes at least
frames_by_six : (check : List ℕ → Bool) (frames : List (List ℕ)) → AllByRecursion (IsFrame check) frames → 6 * length frames ≤ length (concat frames)
frames_by_six check [] each = omega arith
frames_by_six check (f ∷ fs) each =
    omega (arith, frames_by_six check fs each.1, length-append f (concat fs), length-frame f each.0.generic)

-- so there are no more frames than a sixth of the bytes
pub few-frames : (check : List ℕ → Bool) (before : List ℕ) (settled : List (Option Segment)) (frames : List (List ℕ)) (after : List ℕ)
    → Joins check before settled frames after → 6 * length frames ≤ length before + sum_by payload_bytes settled
few-frames check before settled frames after joins =
    let h = joins-fit check before settled frames after joins in
    omega (arith, frames_by_six check frames h.each, h.fits)
