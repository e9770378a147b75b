-- Sides that stay in step: no frame is given up.
use Rattle.std.proofs.Common.{◌≡◌, ℕ, ◌+◌, ◌-◌, ◌<◌, ◌≤◌, ◌⊎◌, inl, inr, suc, true, IsTrue, Option, Some, None, List, [], ◌∷◌, ◌++◌, length, map, take, refl, ap, ◌∙◌, sym, subst, arith}
use Rattle.std.specs.Prelude.{slice_get}
use Rattle.std.specs.Str.{bytes_eq}
use Rattle.std.specs.List.{All, position_or_len}
use Rattle.std.proofs.lemmas.List.{map-append, append_assoc, append-nil, append_cancel_left, length-append, length-map}
use Rattle.std.proofs.lemmas.List.Sums.{position_or_len_is}
use Rattle.std.proofs.lemmas.List.Elements.{All-nil, All-append, All-cons, All-drop, All-head, All-tail}
use Rattle.std.proofs.lemmas.Slice.Eq.{bytes_eq-Decides}
use Rattle.std.proofs.lemmas.Bool.{cases_eq, lt-ltb}
use Rattle.frame_comparison.specs.declared.side.Side.{Side}
use Rattle.frame_comparison.specs.declared.side.Side.TheVariants.{Analyser, Here}
use Rattle.frame_comparison.specs.Frames.{CameFrame, SettledFrame, SideFrames, FlowFrames, is_short, given_up, frames_in_both, frames_given_up}
use Rattle.frame_comparison.specs.Compared.{Comparison, are_equal, place_of_equal, own_moved, other_moved, moved, flow_after, with_frame, nothing_came, empty_flow, longest_wait, ended, all_given_up, side_after, finished}
use Rattle.frame_comparison.specs.Aligned.{Arrival, AreAligned, with_all, given_of, flow_of, all_frames, bytes_of}
use Rattle.frame_comparison.specs.InStep.{IsAhead, StayInStep, AreShort, NoneAlone}
use Rattle.frame_comparison.proofs.Settled.{frames_given_up-append, given_up-all, given_up-settled}
use Rattle.frame_comparison.proofs.Aligned.{aligned-analyser, aligned-here, frames, none-alone}
use Rattle.frame_comparison.proofs.Arrivals.{arrival, frame-same, frame-other, frame-length, given-own, given-not, given-other, given-cons, nothing-length, nothing-flow, nothing_aligned, all-length, finished-flow}

-- no longer than a MAC frame can be, and so those that wait then
IsShort : CameFrame → Type 0
IsShort frame = IsTrue (is_short frame)

own-short : (found : Option ℕ) (frame : CameFrame) (waiting : List CameFrame) → IsShort frame → All IsShort waiting → All IsShort (own_moved found frame waiting).waiting
own-short (Some place) frame waiting short all = All-nil IsShort
own-short None frame waiting short all =
    All-drop IsShort (length (waiting ++ frame ∷ []) - longest_wait) (waiting ++ frame ∷ [])
    (All-append IsShort waiting (frame ∷ []) all (All-cons IsShort frame [] short (All-nil IsShort)))

other-short : (found : Option ℕ) (waiting : List CameFrame) → All IsShort waiting → All IsShort (other_moved found waiting).waiting
other-short (Some place) waiting all = All-drop IsShort (place + 1) waiting all
other-short None waiting all = all

-- the first that waits is the equal
first-place : (frame one : CameFrame) (rest : List CameFrame) → IsShort frame → IsShort one → one.bytes ≡ frame.bytes → place_of_equal frame (one ∷ rest) ≡ Some 0
unfolding IsShort
first-place frame one rest short first same =
    let bytes : bytes_eq one.bytes frame.bytes ≡ true = (bytes_eq-Decides one.bytes frame.bytes).1 same in
    let passes : are_equal one frame ≡ true = rw (first, short, bytes) refl in
    let at : position_or_len (λ (x : CameFrame). are_equal x frame) (one ∷ rest) ≡ 0 =
    position_or_len_is (λ (x : CameFrame). are_equal x frame) (one ∷ rest) 0 one (omega arith) (λ k lower. absurd (omega arith)) (λ _. passes)
    in
    let some = lt-ltb 0 (length (one ∷ rest)) (omega arith) in
    rw (at, some) refl

-- what a frame moves of two sides of which none gave a frame up: those that wait of its own side,
-- and of the other
record Moves (frame : CameFrame) (own other : List CameFrame) : Type 0 where
  own_none : frames_given_up (own_moved (place_of_equal frame other) frame own).settled ≡ []
  other_none : frames_given_up (other_moved (place_of_equal frame other) other).settled ≡ []
  idle : ((own_moved (place_of_equal frame other) frame own).waiting ≡ []) ⊎ ((other_moved (place_of_equal frame other) other).waiting ≡ [])

Ahead : List (List ℕ) → List (List ℕ) → Type 0
Ahead one other = IsAhead one other ⊎ IsAhead other one

-- its own side is ahead, and few of it wait
few-own : (both : List (List ℕ)) (bytes : List ℕ) (own : List CameFrame) → Ahead ((both ++ bytes_of own) ++ bytes ∷ []) both → length own + 1 ≤ longest_wait
unfolding Ahead
few-own both bytes own (inl ahead) =
    let lengths = ap length ahead.is in
    let all = length-append ((both ++ bytes_of own) ++ bytes ∷ []) ahead.more in
    let last = length-append (both ++ bytes_of own) (bytes ∷ []) in
    let front = length-append both (bytes_of own) in
    absurd (omega arith)
few-own both bytes own (inr ahead) =
    let lengths = ap length ahead.is in
    let all = length-append both ahead.more in
    let last = length-append (both ++ bytes_of own) (bytes ∷ []) in
    let front = length-append both (bytes_of own) in
    let same = length-map own (λ (one : CameFrame). one.bytes) in
    let few = ahead.few in
    omega arith

-- its own side is behind, and so the frame is the first that waits of the other
same-first : (both : List (List ℕ)) (bytes first : List ℕ) (rest : List (List ℕ)) → Ahead (both ++ bytes ∷ []) (both ++ first ∷ rest) → first ≡ bytes
unfolding Ahead
same-first both bytes first rest (inl ahead) =
    let tail : first ∷ rest ≡ bytes ∷ ahead.more = append_cancel_left both (first ∷ rest) (bytes ∷ ahead.more) (ahead.is ∙ append_assoc both (bytes ∷ []) ahead.more) in cc
same-first both bytes first rest (inr ahead) =
    let tail : bytes ∷ [] ≡ first ∷ (rest ++ ahead.more) =
    append_cancel_left both (bytes ∷ []) (first ∷ (rest ++ ahead.more)) (ahead.is ∙ append_assoc both (first ∷ rest) ahead.more)
    in cc

moves-waiting : (frame : CameFrame) (own : List CameFrame) (both : List (List ℕ)) → Ahead ((both ++ bytes_of own) ++ frame.bytes ∷ []) both → Moves frame own []
moves-waiting frame own both ahead =
    let few = few-own both frame.bytes own ahead in
    let all : List CameFrame = own ++ frame ∷ [] in
    let long = length-append own (frame ∷ []) in
    let none : length all - longest_wait ≡ 0 = omega arith in
    record {
      own_none = given_up-all (take (length all - longest_wait) all) ∙ ap (λ (count : ℕ). take count all) none;
      other_none = refl;
      idle = inr refl;
    }

moves-equal : (frame : CameFrame) (own : List CameFrame) (first : CameFrame) (rest : List CameFrame) (both : List (List ℕ)) → own ≡ []
    → IsShort frame → IsShort first → Ahead (both ++ frame.bytes ∷ []) (both ++ bytes_of (first ∷ rest)) → Moves frame own (first ∷ rest)
moves-equal frame own first rest both none short its_short ahead =
    let same : first.bytes ≡ frame.bytes = same-first both frame.bytes first.bytes (bytes_of rest) ahead in
    let place : place_of_equal frame (first ∷ rest) ≡ Some 0 = first-place frame first rest short its_short same in
    record {
      own_none = ap (λ (found : Option ℕ). frames_given_up (own_moved found frame own).settled) place ∙ (given_up-settled own (frame ∷ []) ∙ none);
      other_none = ap (λ (found : Option ℕ). frames_given_up (other_moved found (first ∷ rest)).settled) place ∙ given_up-settled [] (first ∷ []);
      idle = inl (ap (λ (found : Option ℕ). (own_moved found frame own).waiting) place);
    }

-- whichever is ahead
moves : (frame : CameFrame) (own other : List CameFrame) (both : List (List ℕ)) → (own ≡ []) ⊎ (other ≡ []) → IsShort frame → All IsShort other
    → Ahead ((both ++ bytes_of own) ++ frame.bytes ∷ []) (both ++ bytes_of other) → Moves frame own other
moves frame own [] both idle short all ahead = moves-waiting frame own both (subst (λ (other : List (List ℕ)). Ahead ((both ++ bytes_of own) ++ frame.bytes ∷ []) other) (append-nil both) ahead)
moves frame own (first ∷ rest) both (inl none) short all ahead =
    let shorter : both ++ bytes_of own ≡ both = ap (λ (some : List CameFrame). both ++ bytes_of some) none ∙ append-nil both in
    moves-equal frame own first rest both none short (All-head IsShort first rest all)
    (subst (λ (one : List (List ℕ)). Ahead (one ++ frame.bytes ∷ []) (both ++ bytes_of (first ∷ rest))) shorter ahead)
moves frame own (first ∷ rest) both (inr none) short all ahead = absurd (cc)

-- what a side gave, where it gave up none
side-bytes : (side : SideFrames) (gave : List CameFrame) → all_frames side ≡ gave → frames_given_up side.settled ≡ []
    → bytes_of gave ≡ bytes_of (frames_in_both side.settled) ++ bytes_of side.waiting
unfolding frames
side-bytes side gave all none =
    ap bytes_of (sym all)
    ∙ (map-append (λ (one : CameFrame). one.bytes) (frames side.settled) side.waiting
    ∙ ap (λ (some : List CameFrame). bytes_of some ++ bytes_of side.waiting) (sym (none-alone side.settled none)))

-- a flow whose sides are in step
record InStep (analyser here : List CameFrame) (flow : FlowFrames) : Type 0 where
  aligned : AreAligned analyser here flow
  none : NoneAlone flow
  idle : (flow.analyser.waiting ≡ []) ⊎ (flow.here.waiting ≡ [])
  analyser_short : All IsShort flow.analyser.waiting
  here_short : All IsShort flow.here.waiting

none-after : (some more : List SettledFrame) → frames_given_up some ≡ [] → frames_given_up more ≡ [] → frames_given_up (some ++ more) ≡ []
none-after some more first second =
    frames_given_up-append some more ∙ (ap (λ (one : List CameFrame). one ++ frames_given_up more) first ∙ second)

other-idle : {A B : Type 0} → A ⊎ B → B ⊎ A
other-idle (inl a) = inr a
other-idle (inr b) = inl b

step-analyser : (frame : CameFrame) (flow : FlowFrames) (analyser here : List CameFrame) → IsShort frame → InStep analyser here flow
    → Ahead (bytes_of (analyser ++ frame ∷ [])) (bytes_of here)
    → InStep (analyser ++ frame ∷ []) here (flow_after (moved Analyser frame flow.analyser.waiting flow.here.waiting) flow)
step-analyser frame flow analyser here short before ahead =
    let both = bytes_of (frames_in_both flow.analyser.settled) in
    let own : bytes_of (analyser ++ frame ∷ []) ≡ (both ++ bytes_of flow.analyser.waiting) ++ frame.bytes ∷ [] =
    map-append (λ (one : CameFrame). one.bytes) analyser (frame ∷ [])
    ∙ ap (λ some. some ++ frame.bytes ∷ []) (side-bytes flow.analyser analyser before.aligned.analyser_all before.none.of_analyser)
    in
    let other : bytes_of here ≡ both ++ bytes_of flow.here.waiting =
    side-bytes flow.here here before.aligned.here_all before.none.of_here
    ∙ ap (λ some. some ++ bytes_of flow.here.waiting) (sym before.aligned.same_in_both)
    in
    let now = moves frame flow.analyser.waiting flow.here.waiting both before.idle short before.here_short
    (subst (λ (one : List (List ℕ)). Ahead one (both ++ bytes_of flow.here.waiting)) own
    (subst (λ (one : List (List ℕ)). Ahead (bytes_of (analyser ++ frame ∷ [])) one) other ahead))
    in
    record {
      aligned = aligned-analyser frame flow analyser here before.aligned;
      none = record {
        of_analyser = none-after flow.analyser.settled _ before.none.of_analyser now.own_none;
        of_here = none-after flow.here.settled _ before.none.of_here now.other_none;
      };
      idle = now.idle;
      analyser_short = own-short (place_of_equal frame flow.here.waiting) frame flow.analyser.waiting short before.analyser_short;
      here_short = other-short (place_of_equal frame flow.here.waiting) flow.here.waiting before.here_short;
    }

step-here : (frame : CameFrame) (flow : FlowFrames) (analyser here : List CameFrame) → IsShort frame → InStep analyser here flow
    → Ahead (bytes_of analyser) (bytes_of (here ++ frame ∷ []))
    → InStep analyser (here ++ frame ∷ []) (flow_after (moved Here frame flow.analyser.waiting flow.here.waiting) flow)
unfolding Ahead
step-here frame flow analyser here short before ahead =
    let both = bytes_of (frames_in_both flow.here.settled) in
    let own : bytes_of (here ++ frame ∷ []) ≡ (both ++ bytes_of flow.here.waiting) ++ frame.bytes ∷ [] =
    map-append (λ (one : CameFrame). one.bytes) here (frame ∷ [])
    ∙ ap (λ some. some ++ frame.bytes ∷ []) (side-bytes flow.here here before.aligned.here_all before.none.of_here)
    in
    let other : bytes_of analyser ≡ both ++ bytes_of flow.analyser.waiting =
    side-bytes flow.analyser analyser before.aligned.analyser_all before.none.of_analyser
    ∙ ap (λ some. some ++ bytes_of flow.analyser.waiting) before.aligned.same_in_both
    in
    let now = moves frame flow.here.waiting flow.analyser.waiting both (other-idle before.idle) short before.analyser_short
    (subst (λ (one : List (List ℕ)). Ahead one (both ++ bytes_of flow.analyser.waiting)) own
    (subst (λ (one : List (List ℕ)). Ahead (bytes_of (here ++ frame ∷ [])) one) other (other-idle ahead)))
    in
    record {
      aligned = aligned-here frame flow analyser here before.aligned;
      none = record {
        of_analyser = none-after flow.analyser.settled _ before.none.of_analyser now.other_none;
        of_here = none-after flow.here.settled _ before.none.of_here now.own_none;
      };
      idle = other-idle now.idle;
      analyser_short = other-short (place_of_equal frame flow.analyser.waiting) flow.analyser.waiting before.analyser_short;
      here_short = own-short (place_of_equal frame flow.analyser.waiting) frame flow.here.waiting short before.here_short;
    }

-- one that comes, of a flow or another
own-step : (side : Side) (flow : ℕ) (frame : CameFrame) (comparison : Comparison) (analyser here : List CameFrame) → flow < length comparison.flows
    → IsShort frame → InStep analyser here (flow_of flow comparison)
    → Ahead (bytes_of (analyser ++ given_of Analyser flow (arrival side flow frame ∷ []))) (bytes_of (here ++ given_of Here flow (arrival side flow frame ∷ [])))
    → InStep (analyser ++ given_of Analyser flow (arrival side flow frame ∷ [])) (here ++ given_of Here flow (arrival side flow frame ∷ []))
    (flow_of flow (with_frame side flow frame comparison))
own-step Analyser flow frame comparison analyser here within short before ahead =
    let own = given-own Analyser flow flow frame refl refl in
    let other : here ++ given_of Here flow (arrival Analyser flow frame ∷ []) ≡ here = ap (λ some. here ++ some) (given-not Here Analyser flow flow frame refl) ∙ append-nil here in
    let is : Ahead (bytes_of (analyser ++ frame ∷ [])) (bytes_of here) =
    subst (λ (some : List CameFrame). Ahead (bytes_of (analyser ++ some)) (bytes_of here)) own
    (subst (λ (some : List CameFrame). Ahead (bytes_of (analyser ++ given_of Analyser flow (arrival Analyser flow frame ∷ []))) (bytes_of some)) other ahead)
    in
    rw (own, other, frame-same (slice_get comparison.flows flow) Analyser flow frame comparison refl within)
    (step-analyser frame (flow_of flow comparison) analyser here short before is)
own-step Here flow frame comparison analyser here within short before ahead =
    let own = given-own Here flow flow frame refl refl in
    let other : analyser ++ given_of Analyser flow (arrival Here flow frame ∷ []) ≡ analyser =
    ap (λ some. analyser ++ some) (given-not Analyser Here flow flow frame refl) ∙ append-nil analyser
    in
    let is : Ahead (bytes_of analyser) (bytes_of (here ++ frame ∷ [])) =
    subst (λ (some : List CameFrame). Ahead (bytes_of analyser) (bytes_of (here ++ some))) own
    (subst (λ (some : List CameFrame). Ahead (bytes_of some) (bytes_of (here ++ given_of Here flow (arrival Here flow frame ∷ [])))) other ahead)
    in
    rw (own, other, frame-same (slice_get comparison.flows flow) Here flow frame comparison refl within)
    (step-here frame (flow_of flow comparison) analyser here short before is)

one-step : (side : Side) (flow k : ℕ) (frame : CameFrame) (comparison : Comparison) (analyser here : List CameFrame) → k < length comparison.flows
    → (k ≡ flow) ⊎ (k ≡ flow → ⊥) → (flow ≡ k → IsShort frame) → InStep analyser here (flow_of k comparison)
    → Ahead (bytes_of (analyser ++ given_of Analyser k (arrival side flow frame ∷ []))) (bytes_of (here ++ given_of Here k (arrival side flow frame ∷ [])))
    → InStep (analyser ++ given_of Analyser k (arrival side flow frame ∷ [])) (here ++ given_of Here k (arrival side flow frame ∷ []))
    (flow_of k (with_frame side flow frame comparison))
one-step side flow k frame comparison analyser here within (inl same) short before ahead =
    subst (λ (j : ℕ). Ahead (bytes_of (analyser ++ given_of Analyser k (arrival side j frame ∷ []))) (bytes_of (here ++ given_of Here k (arrival side j frame ∷ [])))
    → InStep (analyser ++ given_of Analyser k (arrival side j frame ∷ [])) (here ++ given_of Here k (arrival side j frame ∷ []))
    (flow_of k (with_frame side j frame comparison))) same (own-step side k frame comparison analyser here within (short (sym same)) before) ahead
one-step side flow k frame comparison analyser here within (inr other) short before ahead =
    rw (
      given-other Analyser side flow k frame other,
      given-other Here side flow k frame other,
      append-nil analyser,
      append-nil here,
      frame-other (slice_get comparison.flows flow) side flow k frame comparison other,
    ) before

-- all that comes
Stay : ℕ → List CameFrame → List CameFrame → List Arrival → Type 0
Stay k analyser here arrivals =
    (count : ℕ) → Ahead (bytes_of (analyser ++ given_of Analyser k (take count arrivals))) (bytes_of (here ++ given_of Here k (take count arrivals)))

pushed : (side : Side) (k : ℕ) (gave : List CameFrame) (one : Arrival) (more : List Arrival)
    → gave ++ given_of side k (one ∷ more) ≡ (gave ++ given_of side k (one ∷ [])) ++ given_of side k more
pushed side k gave one more =
    ap (λ some. gave ++ some) (sym (given-cons side k one more)) ∙ sym (append_assoc gave (given_of side k (one ∷ [])) (given_of side k more))

stay-rest : (k : ℕ) (analyser here : List CameFrame) (one : Arrival) (more : List Arrival) → Stay k analyser here (one ∷ more)
    → Stay k (analyser ++ given_of Analyser k (one ∷ [])) (here ++ given_of Here k (one ∷ [])) more
unfolding Stay
stay-rest k analyser here one more stay = λ count.
    subst (λ (some : List CameFrame). Ahead (bytes_of some) (bytes_of ((here ++ given_of Here k (one ∷ [])) ++ given_of Here k (take count more))))
    (pushed Analyser k analyser one (take count more))
    (subst (λ (some : List CameFrame). Ahead (bytes_of (analyser ++ given_of Analyser k (one ∷ take count more))) (bytes_of some))
    (pushed Here k here one (take count more)) (stay (suc count)))

abbrev ShortOf : ℕ → Arrival → Type 0
ShortOf k one = one.flow ≡ k → IsTrue (is_short one.frame)

in-step-all : (arrivals : List Arrival) (comparison : Comparison) (k : ℕ) (analyser here : List CameFrame) → k < length comparison.flows
    → InStep analyser here (flow_of k comparison) → AreShort k arrivals → Stay k analyser here arrivals
    → InStep (analyser ++ given_of Analyser k arrivals) (here ++ given_of Here k arrivals) (flow_of k (with_all arrivals comparison))
unfolding arrival Stay IsShort
in-step-all [] comparison k analyser here within before short stay = rw (append-nil analyser, append-nil here) before
in-step-all (one ∷ more) comparison k analyser here within before short stay =
    let next : Comparison = with_frame one.side one.flow one.frame comparison in
    let many : length next.flows ≡ length comparison.flows = frame-length (slice_get comparison.flows one.flow) one.side one.flow one.frame comparison in
    let still : k < length next.flows = omega arith in
    let step = one-step one.side one.flow k one.frame comparison analyser here within (cases_eq k one.flow) (All-head (ShortOf k) one more short) before (stay 1) in
    let all = in-step-all more next k (analyser ++ given_of Analyser k (one ∷ [])) (here ++ given_of Here k (one ∷ [])) still step
    (All-tail (ShortOf k) one more short) (stay-rest k analyser here one more stay)
    in
    subst (λ (gave : List CameFrame). InStep gave (here ++ given_of Here k (one ∷ more)) (flow_of k (with_all more next))) (sym (pushed Analyser k analyser one more))
    (subst (λ (gave : List CameFrame). InStep ((analyser ++ given_of Analyser k (one ∷ [])) ++ given_of Analyser k more) gave (flow_of k (with_all more next)))
    (sym (pushed Here k here one more)) all)

came-in-step : (flows flow : ℕ) (arrivals : List Arrival) → flow < flows → AreShort flow arrivals → StayInStep flow arrivals
    → InStep (given_of Analyser flow arrivals) (given_of Here flow arrivals) (flow_of flow (with_all arrivals (nothing_came flows)))
unfolding Ahead Stay IsShort
came-in-step flows flow arrivals within short stay =
    let many = nothing-length flows in
    let there : flow < length (nothing_came flows).flows = omega arith in
    let none : NoneAlone empty_flow = record { of_analyser = refl; of_here = refl } in
    let start : InStep [] [] empty_flow = record { aligned = nothing_aligned; none = none; idle = inl refl; analyser_short = All-nil IsShort; here_short = All-nil IsShort } in
    in-step-all arrivals (nothing_came flows) flow [] [] there (rw (nothing-flow flows flow within) start) short stay

pub none-given_up : (flows flow : ℕ) (arrivals : List Arrival) → flow < flows → AreShort flow arrivals → StayInStep flow arrivals → NoneAlone (flow_of flow (with_all arrivals (nothing_came flows)))
none-given_up flows flow arrivals within short stay = (came-in-step flows flow arrivals within short stay).none

-- none waits in the end where both gave the same
no-bytes : (waiting : List CameFrame) → bytes_of waiting ≡ [] → waiting ≡ []
no-bytes [] none = refl
no-bytes (one ∷ more) none = absurd (cc)

none-wait : (one other : List CameFrame) → bytes_of one ≡ bytes_of other → (one ≡ []) ⊎ (other ≡ []) → (one ≡ []) × (other ≡ [])
none-wait one other same (inl none) = (none, no-bytes other (sym same ∙ ap bytes_of none))
none-wait one other same (inr none) = (no-bytes one (same ∙ ap bytes_of none), none)

side-none : (side : SideFrames) → frames_given_up side.settled ≡ [] → side.waiting ≡ [] → frames_given_up (side_after (all_given_up side.waiting) side).settled ≡ []
side-none side none idle = none-after side.settled (map given_up side.waiting) none (given_up-all side.waiting ∙ idle)

none-ended : (flow : FlowFrames) (analyser here : List CameFrame) → InStep analyser here flow → bytes_of analyser ≡ bytes_of here
    → NoneAlone (flow_after (ended flow.analyser.waiting flow.here.waiting) flow)
none-ended flow analyser here step same =
    let both = bytes_of (frames_in_both flow.analyser.settled) in
    let one = side-bytes flow.analyser analyser step.aligned.analyser_all step.none.of_analyser in
    let other : bytes_of here ≡ both ++ bytes_of flow.here.waiting =
    side-bytes flow.here here step.aligned.here_all step.none.of_here ∙ ap (λ some. some ++ bytes_of flow.here.waiting) (sym step.aligned.same_in_both)
    in
    let equal = append_cancel_left both (bytes_of flow.analyser.waiting) (bytes_of flow.here.waiting) (sym one ∙ (same ∙ other)) in
    let idle = none-wait flow.analyser.waiting flow.here.waiting equal step.idle in
    record { of_analyser = side-none flow.analyser step.none.of_analyser idle.0; of_here = side-none flow.here step.none.of_here idle.1 }

pub none-finished : (flows flow : ℕ) (arrivals : List Arrival) → flow < flows → AreShort flow arrivals → StayInStep flow arrivals
    → bytes_of (given_of Analyser flow arrivals) ≡ bytes_of (given_of Here flow arrivals)
    → NoneAlone (flow_of flow (finished (with_all arrivals (nothing_came flows))))
none-finished flows flow arrivals within short stay same =
    let all : Comparison = with_all arrivals (nothing_came flows) in
    let many : length all.flows ≡ flows = all-length arrivals (nothing_came flows) ∙ nothing-length flows in
    let there : flow < length all.flows = omega arith in
    rw (finished-flow all flow there)
    (none-ended (flow_of flow all) (given_of Analyser flow arrivals) (given_of Here flow arrivals) (came-in-step flows flow arrivals within short stay) same)
