-- The definitions determine their answers.
use Rattle.std.proofs.Common.{◌≡◌, ℕ, Option, Some, None, Bool, true, false, List, [], ◌∷◌, ◌++◌, ◌+◌, length, take, drop, refl, sym, ap, ◌∙◌, inl, inr, subst, arith}
use Rattle.std.specs.List.{concat, AllByRecursion}
use Rattle.std.proofs.lemmas.Bool.{false≢true}
use Rattle.std.proofs.lemmas.List.{take-append-le, append_assoc, length-append, take_at, drop_at}
use Rattle.docsis_wire.specs.declared.frame.HeadRead.{HeadRead}
use Rattle.docsis_wire.specs.declared.frame.HeadRead.TheVariants.{Short, Fill, Bad, Head}
use Rattle.docsis_wire.specs.declared.segment.Segment.{Segment}
use Rattle.docsis_wire.specs.Frame.{IsFrame, header_front}
use Rattle.docsis_wire.specs.Head.{head_of}
use Rattle.docsis_wire.proofs.FrameHeads.{head_of-frame, header_announced}
use Rattle.ccf.specs.Walk.{FailsCheck, PassesSoFar, Ends, EndsAs, Walks}
use Rattle.ccf.specs.Feed.{GoesOn, IsDoneWith, Completes, Feeds, FeedsAs}
use Rattle.ccf.specs.Join.{Joins}

-- two frames at the front of the same bytes are one, since their heads give their length
pub same_front : (check : List ℕ → Bool) (frame other behind rest : List ℕ) → IsFrame check frame → IsFrame check other → frame ++ behind ≡ other ++ rest → (frame ≡ other) × (behind ≡ rest)
same_front check frame other behind rest f g e =
    let head = head_of-frame check frame behind f in
    let head' = head_of-frame check other rest g in
    let heads : Head head.0 (length frame) ≡ Head head'.0 (length other) = sym head.1 ∙ ap head_of e ∙ head'.1 in
    let lengths : length frame ≡ length other = cc in (
      sym (take_at frame behind (length other) lengths) ∙ ap (take (length other)) e ∙ take_at other rest (length other) refl,
      sym (drop_at frame behind (length other) lengths) ∙ ap (drop (length other)) e ∙ drop_at other rest (length other) refl,
    )

-- a header cannot both fail the check and pass it
fails_and_passes : (check : List ℕ → Bool) (ehdr : ℕ) (rest : List ℕ) → FailsCheck check ehdr rest → PassesSoFar check ehdr rest → ⊥
fails_and_passes check ehdr rest fails passes = false≢true (sym fails.1 ∙ passes fails.0)

-- what waits or is dropped does not begin with a whole frame
not_ended : (check : List ℕ → Bool) (head : HeadRead) (ehdr : ℕ) (frame behind rest after : List ℕ) → head ≡ Head ehdr (length frame) → PassesSoFar check ehdr rest → rest ≡ frame ++ behind
    → EndsAs check head rest after → ⊥
not_ended check Short ehdr frame behind rest after is passes split h = cc
not_ended check Fill ehdr frame behind rest after is passes split h = cc
not_ended check (Bad fault) ehdr frame behind rest after is passes split h = cc
not_ended check (Head ehdr' total) ehdr frame behind rest after is passes split (inl h) =
    let same : ehdr' ≡ ehdr = cc in
    fails_and_passes check ehdr rest (subst (λ n. FailsCheck check n rest) same h.0) passes
not_ended check (Head ehdr' total) ehdr frame behind rest after is passes split (inr h) =
    let announced : total ≡ length frame = cc in
    omega (arith, h.1, ap length split, length-append frame behind)

pub no_frame_in_front : (check : List ℕ → Bool) (rest after frame behind : List ℕ) → Ends check rest after → IsFrame check frame → rest ≡ frame ++ behind → ⊥
no_frame_in_front check rest after frame behind ends is_frame split =
    let head = head_of-frame check frame behind is_frame in
    let within = header_announced (frame ++ behind) head.0 (length frame) head.1 in
    let passes : PassesSoFar check head.0 rest =
    λ enough. ap (λ t. check (header_front head.0 t)) split ∙ ap check (take-append-le (6 + head.0) frame behind within) ∙ head.2 in
    not_ended check (head_of rest) head.0 frame behind rest after (ap head_of split ∙ head.1) passes split ends

-- what is left unfinished is given by the head and the check
EndsAs-once : (check : List ℕ → Bool) (head : HeadRead) (rest after other : List ℕ) → EndsAs check head rest after → EndsAs check head rest other → after ≡ other
EndsAs-once check Short rest after other h g = h ∙ sym g
EndsAs-once check Fill rest after other h g = h ∙ sym g
EndsAs-once check (Bad fault) rest after other h g = h ∙ sym g
EndsAs-once check (Head ehdr total) rest after other (inl h) (inl g) = h.1 ∙ sym g.1
EndsAs-once check (Head ehdr total) rest after other (inl h) (inr g) = absurd (fails_and_passes check ehdr rest h.0 g.0)
EndsAs-once check (Head ehdr total) rest after other (inr h) (inl g) = absurd (fails_and_passes check ehdr rest g.0 h.0)
EndsAs-once check (Head ehdr total) rest after other (inr h) (inr g) = h.2 ∙ sym g.2

pub Ends-once : (check : List ℕ → Bool) (rest after other : List ℕ) → Ends check rest after → Ends check rest other → after ≡ other
Ends-once check rest = EndsAs-once check (head_of rest) rest

-- the same bytes split into the same frames and the same rest
same_split : (check : List ℕ → Bool) (frames others : List (List ℕ)) (rest other after after' : List ℕ) → AllByRecursion (IsFrame check) frames → AllByRecursion (IsFrame check) others → Ends check rest after → Ends check other after' → concat frames ++ rest ≡ concat others ++ other → (frames ≡ others) × (rest ≡ other)
same_split check [] [] rest other after after' each each' ends ends' e = (refl, e)
same_split check [] (g ∷ gs) rest other after after' each each' ends ends' e =
    absurd (no_frame_in_front check rest after g (concat gs ++ other) ends each'.0 (e ∙ append_assoc g (concat gs) other))
same_split check (f ∷ fs) [] rest other after after' each each' ends ends' e =
    absurd (no_frame_in_front check other after' f (concat fs ++ rest) ends' each.0 (sym e ∙ append_assoc f (concat fs) rest))
same_split check (f ∷ fs) (g ∷ gs) rest other after after' each each' ends ends' e =
    let front = same_front check f g (concat fs ++ rest) (concat gs ++ other) each.0 each'.0 (sym (append_assoc f (concat fs) rest) ∙ e ∙ append_assoc g (concat gs) other) in
    let behind = same_split check fs gs rest other after after' each.1 each'.1 ends ends' front.1 in
    (ap (λ x. x ∷ fs) front.0 ∙ ap (λ xs. g ∷ xs) behind.0, behind.1)

pub Walks-once : (check : List ℕ → Bool) (bytes : List ℕ) (frames others : List (List ℕ)) (after rest : List ℕ) → Walks check bytes frames after → Walks check bytes others rest → (frames ≡ others) × (after ≡ rest)
Walks-once check bytes frames others after rest h g =
    let split = same_split check frames others h.rest g.rest after rest h.each g.each h.ends g.ends (sym h.whole ∙ g.whole) in
    (split.0, Ends-once check g.rest after rest (let P : List ℕ → Type 0 = λ r. Ends check r after in subst P split.1 h.ends) g.ends)

pub GoesOn-once : (check : List ℕ → Bool) (bytes : List ℕ) (frames others : List (List ℕ)) (after rest : List ℕ) → GoesOn check bytes frames after → GoesOn check bytes others rest → (frames ≡ others) × (after ≡ rest)
GoesOn-once check bytes frames others after rest (inl h) (inl g) =
    let front = same_front check h.frame g.frame h.skipped g.skipped h.is_frame g.is_frame (sym h.whole ∙ g.whole) in
    (h.delivered ∙ ap (λ x. x ∷ []) front.0 ∙ sym g.delivered, h.nothing_left ∙ sym g.nothing_left)
GoesOn-once check bytes frames others after rest (inl h) (inr g) = absurd (no_frame_in_front check bytes rest h.frame h.skipped g.1 h.is_frame h.whole)
GoesOn-once check bytes frames others after rest (inr h) (inl g) = absurd (no_frame_in_front check bytes after g.frame g.skipped h.1 g.is_frame g.whole)
GoesOn-once check bytes frames others after rest (inr h) (inr g) = (h.0 ∙ sym g.0, Ends-once check bytes after rest h.1 g.1)

pub IsDoneWith-once : (check : List ℕ → Bool) (bytes : List ℕ) (frames others : List (List ℕ)) → IsDoneWith check bytes frames → IsDoneWith check bytes others → frames ≡ others
IsDoneWith-once check bytes frames others (inl h) (inl g) = h.1 ∙ sym g.1
IsDoneWith-once check bytes frames others (inl h) (inr g) = absurd (g.0 h.0)
IsDoneWith-once check bytes frames others (inr h) (inl g) = absurd (h.0 g.0)
IsDoneWith-once check bytes frames others (inr h) (inr g) = h.1 ∙ sym g.1

Completes-once : (check : List ℕ → Bool) (bytes payload : List ℕ) (frames others : List (List ℕ)) (after rest : List ℕ) → Completes check bytes payload frames after → Completes check bytes payload others rest → (frames ≡ others) × (after ≡ rest)
Completes-once check bytes payload frames others after rest h g =
    let done = IsDoneWith-once check bytes h.done g.done h.is_done g.is_done in
    let walked = Walks-once check payload h.walked g.walked after rest h.walks g.walks in
    (h.delivered ∙ ap (λ t. t ++ h.walked) done ∙ ap (λ t. g.done ++ t) walked.0 ∙ sym g.delivered, walked.1)

FeedsAs-once : (check : List ℕ → Bool) (pfi : Bool) (before : List ℕ) (pointer : ℕ) (payload : List ℕ) (frames others : List (List ℕ)) (after rest : List ℕ) → FeedsAs check pfi before pointer payload frames after → FeedsAs check pfi before pointer payload others rest → (frames ≡ others) × (after ≡ rest)
FeedsAs-once check false [] pointer payload frames others after rest h g = (h.0 ∙ sym g.0, h.1 ∙ sym g.1)
FeedsAs-once check false (b ∷ bs) pointer payload frames others after rest h g = GoesOn-once check (b ∷ bs ++ payload) frames others after rest h g
FeedsAs-once check true [] pointer payload frames others after rest h g = Walks-once check (drop pointer payload) frames others after rest h g
FeedsAs-once check true (b ∷ bs) pointer payload frames others after rest h g = Completes-once check (b ∷ bs ++ take pointer payload) (drop pointer payload) frames others after rest h g

pub Feeds-once : (check : List ℕ → Bool) (before : List ℕ) (segment : Segment) (frames others : List (List ℕ)) (after rest : List ℕ) → Feeds check before segment frames after → Feeds check before segment others rest → (frames ≡ others) × (after ≡ rest)
Feeds-once check before segment = FeedsAs-once check segment.head.pfi before segment.head.pointer segment.payload

pub Joins-once : (check : List ℕ → Bool) (before : List ℕ) (settled : List (Option Segment)) (frames others : List (List ℕ)) (after rest : List ℕ) → Joins check before settled frames after → Joins check before settled others rest → (frames ≡ others) × (after ≡ rest)
Joins-once check before [] frames others after rest h g = (h.0 ∙ sym g.0, h.1 ∙ sym g.1)
Joins-once check before (None ∷ settled) frames others after rest h g = Joins-once check [] settled frames others after rest h g
Joins-once check before (Some segment ∷ settled) frames others after rest (fed, more, between, feeds, joins, is) (fed', more', between', feeds', joins', is') =
    let here = Feeds-once check before segment fed fed' between between' feeds feeds' in
    let next = Joins-once check between' settled more more' after rest (let P : List ℕ → Type 0 = λ b. Joins check b settled more after in subst P here.1 joins) joins' in
    (is ∙ ap (λ t. t ++ more) here.0 ∙ ap (λ t. fed' ++ t) next.0 ∙ sym is', next.1)

-- what two settled lists join to, one after the other
pub Joins-append : (check : List ℕ → Bool) (settled later : List (Option Segment)) (before between after : List ℕ) (frames more : List (List ℕ))
    → Joins check before settled frames between → Joins check between later more after → Joins check before (settled ++ later) (frames ++ more) after
Joins-append check [] later before between after frames more h g =
    let P : List ℕ → Type 0 = λ b. Joins check b later more after in
    let Q : List (List ℕ) → Type 0 = λ t. Joins check before later (t ++ more) after in
    subst Q (sym h.0) (subst P h.1 g)
Joins-append check (None ∷ settled) later before between after frames more h g = Joins-append check settled later [] between after frames more h g
Joins-append check (Some segment ∷ settled) later before between after frames more (fed, rest, middle, feeds, joins, is) g =
    (fed, rest ++ more, middle, feeds, Joins-append check settled later middle between after rest more joins g, ap (λ t. t ++ more) is ∙ append_assoc fed rest more)
