-- What PFI and the pointer of a segment of a cut are, and what a feed with them does.
use Rattle.std.proofs.Common.{◌≡◌, ◌≢◌, ℕ, ◌≤◌, Bool, true, false, List, [], ◌∷◌, ◌++◌, replicate, take, drop, refl, sym, subst, inr, arith, append-nil}
use Rattle.docsis_wire.specs.declared.segment.Segment.{Segment}
use Rattle.docsis_wire.specs.Cut.{IsFillByte, StartsIn, Points}
use Rattle.ccf.specs.Walk.{Walks}
use Rattle.ccf.specs.Feed.{GoesOn, Completes, Feeds, FeedsAs}
use Rattle.ccf.specs.Unfinished.{IsFillLeft}
use Rattle.ccf.proofs.Waiting.{fill_goes_on, fill_left_no_frame}

-- where a frame starts in the chunk, PFI is set and the pointer is the first start
pub Points-at : (pfi : Bool) (pointer : ℕ) (frames : List (List ℕ)) (place : ℕ) (chunk : List ℕ) (p : ℕ) → Points pfi pointer frames place chunk
    → StartsIn frames place chunk p → ((q : ℕ) → StartsIn frames place chunk q → p ≤ q) → (pfi ≡ true) × (pointer ≡ p)
Points-at true pointer frames place chunk p h starts first = (refl, omega (arith, h.1 p starts, first pointer h.0))
Points-at false pointer frames place chunk p h starts first = absurd (h p starts)

-- where no frame starts in the chunk, PFI is not set
pub Points-none : (pfi : Bool) (pointer : ℕ) (frames : List (List ℕ)) (place : ℕ) (chunk : List ℕ) → Points pfi pointer frames place chunk
    → ((q : ℕ) → StartsIn frames place chunk q → ⊥) → pfi ≡ false
Points-none true pointer frames place chunk h none = absurd (none pointer h.0)
Points-none false pointer frames place chunk h none = refl

-- a feed, by what the segment's parts are
pub Feeds-as : (check : List ℕ → Bool) (before : List ℕ) (segment : Segment) (pfi : Bool) (pointer : ℕ) (payload : List ℕ) (frames : List (List ℕ)) (after : List ℕ)
    → segment.head.pfi ≡ pfi → segment.head.pointer ≡ pointer → segment.payload ≡ payload → FeedsAs check pfi before pointer payload frames after → Feeds check before segment frames after
Feeds-as check before segment pfi pointer payload frames after e e' e'' h =
    let P : Bool → ℕ → List ℕ → Type 0 = λ b p bytes. FeedsAs check b before p bytes frames after in
    subst (λ b. P b segment.head.pointer segment.payload) (sym e) (subst (λ p. P pfi p segment.payload) (sym e') (subst (λ bytes. P pfi pointer bytes) (sym e'') h))

-- what was unfinished goes on where no frame starts
pub FeedsAs-goes_on : (check : List ℕ → Bool) (before payload bytes : List ℕ) (pointer : ℕ) (frames : List (List ℕ)) (after : List ℕ) → before ≢ [] → before ++ payload ≡ bytes
    → GoesOn check bytes frames after → FeedsAs check false before pointer payload frames after
FeedsAs-goes_on check [] payload bytes pointer frames after some is h = absurd (some refl)
FeedsAs-goes_on check (b ∷ bs) payload bytes pointer frames after some is h = let P : List ℕ → Type 0 = λ t. GoesOn check t frames after in subst P (sym is) h

-- what was unfinished is done with where a frame starts
pub FeedsAs-completes : (check : List ℕ → Bool) (before payload bytes rest : List ℕ) (pointer : ℕ) (frames : List (List ℕ)) (after : List ℕ) → before ≢ []
    → before ++ take pointer payload ≡ bytes → drop pointer payload ≡ rest → Completes check bytes rest frames after → FeedsAs check true before pointer payload frames after
FeedsAs-completes check [] payload bytes rest pointer frames after some is rest_is h = absurd (some refl)
FeedsAs-completes check (b ∷ bs) payload bytes rest pointer frames after some is rest_is h =
    let P : List ℕ → List ℕ → Type 0 = λ s t. Completes check s t frames after in
    subst (λ s. P s (drop pointer payload)) (sym is) (subst (P bytes) (sym rest_is) h)

-- with nothing unfinished a segment is walked from its pointer on
pub FeedsAs-walks : (check : List ℕ → Bool) (payload rest : List ℕ) (pointer : ℕ) (frames : List (List ℕ)) (after : List ℕ) → drop pointer payload ≡ rest
    → Walks check rest frames after → FeedsAs check true [] pointer payload frames after
FeedsAs-walks check payload rest pointer frames after is h = let P : List ℕ → Type 0 = λ t. Walks check t frames after in subst P (sym is) h

-- where fill was left and a frame starts at once, the segment is walked
pub FeedsAs-after_fill : (check : List ℕ → Bool) (fill : ℕ) (before payload : List ℕ) (frames : List (List ℕ)) (after : List ℕ) → IsFillLeft fill before
    → Walks check payload frames after → FeedsAs check true before 0 payload frames after
FeedsAs-after_fill check fill [] payload frames after h walks = walks
FeedsAs-after_fill check fill (b ∷ bs) payload frames after h walks =
    FeedsAs-completes check (b ∷ bs) payload (b ∷ bs) payload 0 frames after (λ e. cc) (append-nil (b ∷ bs)) refl record {
      done = [];
      walked = frames;
      delivered = refl;
      is_done = inr (fill_left_no_frame check fill (b ∷ bs) h, refl);
      walks = walks;
    }

-- What a segment of nothing but fill leaves of fill.
pub record FeedsFill (check : List ℕ → Bool) (fill : ℕ) (before : List ℕ) (pointer : ℕ) (payload : List ℕ) : Type 0 where
  pub after : List ℕ
  pub feeds : FeedsAs check false before pointer payload [] after
  pub is_left : IsFillLeft fill after

-- fill and more fill
pub FeedsAs-fill : (check : List ℕ → Bool) (fill n pointer : ℕ) (before : List ℕ) → IsFillByte fill → IsFillLeft fill before → FeedsFill check fill before pointer (replicate n fill)
FeedsAs-fill check fill n pointer [] fill_is h = record { after = []; feeds = (refl, refl); is_left = h }
FeedsAs-fill check fill n pointer (b ∷ bs) fill_is h =
    let g = fill_goes_on check fill n (b ∷ bs) fill_is h in
    record { after = g.left; feeds = inr (refl, g.ends); is_left = g.is_left }
