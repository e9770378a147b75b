-- Each segment completes some frames, and each settled list joins to some.
use Rattle.std.proofs.Common.{ℕ, ◌<◌, inl, inr, Bool, true, false, Option, Some, None, List, [], ◌∷◌, ◌++◌, take, drop, refl}
use Rattle.std.proofs.lemmas.List.Elements.{All-append, All-take, All-drop}
use Rattle.docsis_wire.specs.declared.segment.Segment.{Segment}
use Rattle.ccf.specs.Feed.{GoesOn, IsDoneWith, FeedsAs}
use Rattle.ccf.specs.Join.{Joins}
use Rattle.answers.specs.Bytes.{AreBytes, CarryBytes}
use Rattle.answers.proofs.SomeWalk.{no_bytes, front_or_end, frame_or_not, some_walk}

-- The frames that a segment completes and what it leaves unfinished, which is of bytes.
pub record SomeFeed (check : List ℕ → Bool) (pfi : Bool) (before : List ℕ) (pointer : ℕ) (payload : List ℕ) : Type 0 where
  pub frames : List (List ℕ)
  pub after : List ℕ
  pub feeds : FeedsAs check pfi before pointer payload frames after
  pub after_bytes : AreBytes after

-- The same where what is unfinished goes on.
record SomeGoingOn (check : List ℕ → Bool) (bytes : List ℕ) : Type 0 where
  frames : List (List ℕ)
  after : List ℕ
  goes_on : GoesOn check bytes frames after
  after_bytes : AreBytes after

some_going_on : (check : List ℕ → Bool) (bytes : List ℕ) → AreBytes bytes → SomeGoingOn check bytes
some_going_on check bytes are = elim (front_or_end check bytes are) [
  | inl front ↦ record {
    frames = front.frame ∷ [];
    after = [];
    goes_on = inl record { frame = front.frame; skipped = front.behind; whole = front.split; is_frame = front.is_frame; delivered = refl; nothing_left = refl };
    after_bytes = no_bytes;
  }
  | inr end ↦ record { frames = []; after = end.after; goes_on = inr (refl, end.ends); after_bytes = end.after_bytes }
]

some_done : (check : List ℕ → Bool) (bytes : List ℕ) → AreBytes bytes → (done : List (List ℕ)) × IsDoneWith check bytes done
some_done check bytes are = elim (frame_or_not check bytes are) [
  | inl is ↦ (bytes ∷ [], inl (is, refl))
  | inr not_so ↦ ([], inr (not_so, refl))
]

some_feed-as : (check : List ℕ → Bool) (pfi : Bool) (before : List ℕ) (pointer : ℕ) (payload : List ℕ) → AreBytes before → AreBytes payload
    → SomeFeed check pfi before pointer payload
some_feed-as check false [] pointer payload before_bytes payload_bytes = record { frames = []; after = []; feeds = (refl, refl); after_bytes = no_bytes }
some_feed-as check false (b ∷ bs) pointer payload before_bytes payload_bytes =
    let found = some_going_on check (b ∷ bs ++ payload) (All-append (λ byte. byte < 256) (b ∷ bs) payload before_bytes payload_bytes) in
    record { frames = found.frames; after = found.after; feeds = found.goes_on; after_bytes = found.after_bytes }
some_feed-as check true [] pointer payload before_bytes payload_bytes =
    let found = some_walk check (drop pointer payload) (All-drop (λ byte. byte < 256) pointer payload payload_bytes) in
    record { frames = found.frames; after = found.after; feeds = found.walks; after_bytes = found.after_bytes }
some_feed-as check true (b ∷ bs) pointer payload before_bytes payload_bytes =
    let front = take pointer payload in
    let done = some_done check (b ∷ bs ++ front)
    (All-append (λ byte. byte < 256) (b ∷ bs) front before_bytes (All-take (λ byte. byte < 256) pointer payload payload_bytes)) in
    let found = some_walk check (drop pointer payload) (All-drop (λ byte. byte < 256) pointer payload payload_bytes) in
    record {
      frames = done.0 ++ found.frames;
      after = found.after;
      feeds = record { done = done.0; walked = found.frames; delivered = refl; is_done = done.1; walks = found.walks };
      after_bytes = found.after_bytes;
    }

-- a segment completes some frames
pub some_feed : (check : List ℕ → Bool) (before : List ℕ) (segment : Segment) → AreBytes before → AreBytes segment.payload
    → SomeFeed check segment.head.pfi before segment.head.pointer segment.payload
some_feed check before segment = some_feed-as check segment.head.pfi before segment.head.pointer segment.payload

-- a settled list joins to some frames
pub some_joining : (check : List ℕ → Bool) (before : List ℕ) (settled : List (Option Segment)) → AreBytes before → CarryBytes settled
    → (frames : List (List ℕ)) × (after : List ℕ) × Joins check before settled frames after
some_joining check before [] before_bytes are = ([], before, (refl, refl))
some_joining check before (None ∷ settled) before_bytes are = some_joining check [] settled no_bytes are.1
some_joining check before (Some segment ∷ settled) before_bytes are =
    let fed = some_feed check before segment before_bytes are.0 in
    let rest = some_joining check fed.after settled fed.after_bytes are.1 in
    (fed.frames ++ rest.0, rest.1, (fed.frames, rest.0, fed.after, fed.feeds, rest.2, refl))
