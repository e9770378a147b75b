-- Bytes split into frames and a rest, one frame more.
use Rattle.std.proofs.Common.{Bool, ◌≡◌, ℕ, ◌==◌, false, true, List, [], ◌∷◌, ◌++◌, length, take, drop, refl, sym, ap, subst, ◌∙◌, inl, inr, ◌⊎◌}
use Rattle.std.specs.List.{concat, AllByRecursion}
use Rattle.std.proofs.lemmas.Bool.{false≢true, eq-eqb}
use Rattle.std.proofs.lemmas.List.{append-nil, append_assoc, take-append-drop}
use Rattle.std.proofs.lemmas.List.Folds.{concat-append}
use Rattle.docsis_wire.specs.Frame.{IsFrame}
use Rattle.ccf.specs.Walk.{Ends, Walks}
use Rattle.docsis_wire.specs.declared.segment.Segment.{Segment}
use Rattle.ccf.specs.Feed.{GoesOn, Completes, FeedsAs, Feeds, IsOneFrame}

-- what holds of each of some and of one more holds of each of all
pub AllByRecursion-push : {X : Type 0} (P : X → Type 0) (xs : List X) (y : X) → AllByRecursion P xs → P y → AllByRecursion P (xs ++ y ∷ [])
AllByRecursion-push P [] y all here = (here, tt)
AllByRecursion-push P (x ∷ xs) y all here = (all.0, AllByRecursion-push P xs y all.1 here)

-- the bytes of some frames and one more
pub concat-push : (frames : List (List ℕ)) (frame : List ℕ) → concat (frames ++ frame ∷ []) ≡ concat frames ++ frame
concat-push frames frame = concat-append frames (frame ∷ []) ∙ ap (λ t. concat frames ++ t) (append-nil frame)

-- a rest that is split at its front splits the whole one frame further on
pub split_further : (bytes : List ℕ) (frames : List (List ℕ)) (rest frame behind : List ℕ) → bytes ≡ concat frames ++ rest → rest ≡ frame ++ behind → bytes ≡ concat (frames ++ frame ∷ []) ++ behind
split_further bytes frames rest frame behind whole split =
    whole ∙ ap (λ t. concat frames ++ t) split ∙ sym (append_assoc (concat frames) frame behind) ∙ ap (λ t. t ++ behind) (sym (concat-push frames frame))

-- a walk that goes one frame further has one frame more, and the rest after it
pub walk_further : (check : List ℕ → Bool) (bytes : List ℕ) (frames after : List (List ℕ)) (rest frame front behind : List ℕ) (n : ℕ)
    → bytes ≡ concat frames ++ rest → AllByRecursion (IsFrame check) frames → IsFrame check (take n rest)
    → front ≡ take n rest → behind ≡ drop n rest → frame ≡ front → after ≡ frames ++ frame ∷ []
    → (bytes ≡ concat after ++ behind) × AllByRecursion (IsFrame check) after
walk_further check bytes frames after rest frame front behind n whole each is_frame front_is behind_is frame_is after_is =
    let taken : frame ≡ take n rest = frame_is ∙ front_is in
    let split : rest ≡ frame ++ behind = sym (take-append-drop n rest) ∙ ap (λ t. t ++ drop n rest) (sym taken) ∙ ap (λ t. frame ++ t) (sym behind_is) in (
      split_further bytes frames rest frame behind whole split ∙ ap (λ t. concat t ++ behind) (sym after_is),
      let P : List (List ℕ) → Type 0 = AllByRecursion (IsFrame check) in
          subst P (sym after_is) (AllByRecursion-push (IsFrame check) frames frame each (subst (IsFrame check) (sym taken) is_frame)),
    )

-- bytes of which a test says that they are some
pub not_empty : (bytes : List ℕ) (n : ℕ) → n ≡ length bytes → (n == 0) ≡ false → bytes ≡ [] → ⊥
not_empty [] n size test e = false≢true (sym test ∙ eq-eqb n 0 size)
not_empty (b ∷ bs) n size test e = cc

-- the case of a feed where no MAC header begins and something is unfinished
pub FeedsAs-go_on : (check : List ℕ → Bool) (before payload bytes : List ℕ) (frames : List (List ℕ)) (after : List ℕ) → (before ≡ [] → ⊥)
    → bytes ≡ before ++ payload → GoesOn check bytes frames after → FeedsAs check false before 0 payload frames after
FeedsAs-go_on check [] payload bytes frames after some is goes_on = absurd (some refl)
FeedsAs-go_on check (b ∷ bs) payload bytes frames after some is goes_on = let P : List ℕ → Type 0 = λ t. GoesOn check t frames after in subst P is goes_on

-- the frame at the front of what was unfinished, and of what was appended, is delivered
pub GoesOn-delivers : (check : List ℕ → Bool) (bytes left frame : List ℕ) (n : ℕ) (frames none : List (List ℕ)) (after : List ℕ) → IsFrame check (take n bytes)
    → frame ≡ take n bytes → none ≡ [] → frames ≡ none ++ frame ∷ [] → after ≡ [] → GoesOn check (bytes ++ left) frames after
GoesOn-delivers check bytes left frame n frames none after is_frame taken is_none frames_are nothing =
    inl record {
      frame = frame;
      skipped = drop n bytes ++ left;
      whole = ap (λ t. t ++ left) (sym (take-append-drop n bytes)) ∙ append_assoc (take n bytes) (drop n bytes) left ∙ ap (λ t. t ++ (drop n bytes ++ left)) (sym taken);
      is_frame = subst (IsFrame check) (sym taken) is_frame;
      delivered = frames_are ∙ ap (λ t. t ++ frame ∷ []) is_none;
      nothing_left = nothing;
    }

-- the case of a feed where a MAC header begins and something is unfinished
pub FeedsAs-complete : (check : List ℕ → Bool) (before payload bytes rest : List ℕ) (pointer : ℕ) (frames : List (List ℕ)) (after : List ℕ) → (before ≡ [] → ⊥)
    → bytes ≡ before ++ take pointer payload → rest ≡ drop pointer payload → Completes check bytes rest frames after → FeedsAs check true before pointer payload frames after
FeedsAs-complete check [] payload bytes rest pointer frames after some is rest_is completes = absurd (some refl)
FeedsAs-complete check (b ∷ bs) payload bytes rest pointer frames after some is rest_is completes =
    let P : List ℕ → List ℕ → Type 0 = λ s t. Completes check s t frames after in subst (P (b ∷ bs ++ take pointer payload)) rest_is (let Q : List ℕ → Type 0 = λ s. P s rest in subst Q is completes)

-- what was unfinished is put in front of the walked frames if it is a frame
pub Completes-either : (check : List ℕ → Bool) (bytes behind : List ℕ) (walked frames : List (List ℕ)) (after : List ℕ)
    → (IsFrame check bytes × (frames ≡ bytes ∷ walked)) ⊎ ((IsFrame check bytes → ⊥) × (frames ≡ walked)) → Walks check behind walked after → Completes check bytes behind frames after
Completes-either check bytes behind walked frames after (inl h) walks = record { done = bytes ∷ []; walked = walked; delivered = h.1; is_done = inl (h.0, refl); walks = walks }
Completes-either check bytes behind walked frames after (inr h) walks = record { done = []; walked = walked; delivered = h.1; is_done = inr (h.0, refl); walks = walks }

-- a segment that is one whole frame, where nothing is unfinished
pub one_frame-Feeds : (check : List ℕ → Bool) (before : List ℕ) (segment : Segment) → IsOneFrame check before segment → Feeds check before segment (segment.payload ∷ []) []
one_frame-Feeds check before segment one =
    let walks : Walks check segment.payload (segment.payload ∷ []) [] = record {
      rest = [];
      whole = sym (append-nil (concat (segment.payload ∷ [])) ∙ append-nil segment.payload);
      each = (one.is_frame, tt);
      ends = refl;
    } in
    rw (one.nothing_unfinished, one.begins, one.first) walks

-- a segment in which only such bytes begin that are dropped, where nothing is unfinished
pub dropped-Feeds : (check : List ℕ → Bool) (before : List ℕ) (segment : Segment) → before ≡ [] → segment.head.pfi ≡ true → segment.head.pointer ≡ 0
    → Ends check segment.payload [] → Feeds check before segment [] []
dropped-Feeds check before segment none begins first ends =
    let walks : Walks check segment.payload [] [] = record { rest = segment.payload; whole = refl; each = tt; ends = ends } in
    rw (none, begins, first) walks
