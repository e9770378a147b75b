-- The frames in both are the same frames of both sides, in one order: all that came of a flow.
use Rattle.std.proofs.Common.{◌≡◌, ◌≢◌, ℕ, ◌+◌, ◌<◌, ◌≤◌, ◌⊎◌, inl, inr, zero, suc, Bool, true, false, cond, ◌&&◌, eqb, Option, Some, None, List, [], ◌∷◌, ◌++◌, length, map, get_or, refl, ap, ◌∙◌, sym, subst, eq-eqb, arith}
use Rattle.std.specs.Prelude.{slice_get, filter}
use Rattle.std.proofs.lemmas.List.{map-append, append_assoc, append-nil, length-set, length-replicate, get_or-set_same, get_or-set_other, get_or-replicate, nil_from_length}
use Rattle.std.proofs.lemmas.List.Elements.{filter-append}
use Rattle.std.proofs.lemmas.Bool.{cases_eq, ne_eqb}
use Rattle.std.proofs.lemmas.Option.{get_or_from_slice_get, slice_get-get_or, none-some}
use Rattle.frame_comparison.specs.declared.side.Side.{Side}
use Rattle.frame_comparison.specs.declared.side.Side.TheVariants.{Analyser, Here}
use Rattle.frame_comparison.specs.Frames.{CameFrame, FlowFrames, frames_given_up}
use Rattle.frame_comparison.specs.Compared.{Comparison, moved, ended, flow_after, with_moved, with_frame, with_frame_of, with_end_of, ended_to, finished, nothing_came, empty_flow}
use Rattle.frame_comparison.specs.Seen.{counts_of, kept_within}
use Rattle.frame_comparison.specs.Aligned.{Arrival, AreAligned, FewWait, with_all, is_of, is_same_side, given_of, flow_of, bytes_of}
use Rattle.frame_comparison.proofs.Aligned.{aligned-analyser, aligned-here, aligned-ended, few-moved, equal-from_none}

-- a frame of one flow leaves each other flow as it is
moved-other : (flow k : ℕ) (more before : FlowFrames) (comparison : Comparison) → k ≢ flow → flow_of k (with_moved flow more before comparison) ≡ flow_of k comparison
moved-other flow k more before comparison other = get_or-set_other comparison.flows flow k (flow_after more before) empty_flow other

pub frame-other : (found : Option FlowFrames) (side : Side) (flow k : ℕ) (frame : CameFrame) (comparison : Comparison) → k ≢ flow
    → flow_of k (with_frame_of found side flow frame comparison) ≡ flow_of k comparison
frame-other None side flow k frame comparison other = refl
frame-other (Some before) side flow k frame comparison other =
    moved-other flow k (moved side frame before.analyser.waiting before.here.waiting) before comparison other

end-other : (found : Option FlowFrames) (flow k : ℕ) (comparison : Comparison) → k ≢ flow → flow_of k (with_end_of found flow comparison) ≡ flow_of k comparison
end-other None flow k comparison other = refl
end-other (Some before) flow k comparison other = moved-other flow k (ended before.analyser.waiting before.here.waiting) before comparison other

-- and moves its own
pub frame-same : (found : Option FlowFrames) (side : Side) (flow : ℕ) (frame : CameFrame) (comparison : Comparison) → slice_get comparison.flows flow ≡ found
    → flow < length comparison.flows
    → flow_of flow (with_frame_of found side flow frame comparison)
    ≡ flow_after (moved side frame (flow_of flow comparison).analyser.waiting (flow_of flow comparison).here.waiting) (flow_of flow comparison)
frame-same None side flow frame comparison is within =
    absurd (none-some (get_or comparison.flows flow empty_flow) (sym is ∙ slice_get-get_or comparison.flows flow empty_flow within))
frame-same (Some before) side flow frame comparison is within =
    let same : before ≡ flow_of flow comparison = sym (get_or_from_slice_get comparison.flows flow before empty_flow is) in
    get_or-set_same comparison.flows flow (flow_after (moved side frame before.analyser.waiting before.here.waiting) before) empty_flow within
    ∙ ap (λ (one : FlowFrames). flow_after (moved side frame one.analyser.waiting one.here.waiting) one) same

end-same : (found : Option FlowFrames) (flow : ℕ) (comparison : Comparison) → slice_get comparison.flows flow ≡ found → flow < length comparison.flows
    → flow_of flow (with_end_of found flow comparison)
    ≡ flow_after (ended (flow_of flow comparison).analyser.waiting (flow_of flow comparison).here.waiting) (flow_of flow comparison)
end-same None flow comparison is within =
    absurd (none-some (get_or comparison.flows flow empty_flow) (sym is ∙ slice_get-get_or comparison.flows flow empty_flow within))
end-same (Some before) flow comparison is within =
    let same : before ≡ flow_of flow comparison = sym (get_or_from_slice_get comparison.flows flow before empty_flow is) in
    get_or-set_same comparison.flows flow (flow_after (ended before.analyser.waiting before.here.waiting) before) empty_flow within
    ∙ ap (λ (one : FlowFrames). flow_after (ended one.analyser.waiting one.here.waiting) one) same

-- there are as many flows as before
pub frame-length : (found : Option FlowFrames) (side : Side) (flow : ℕ) (frame : CameFrame) (comparison : Comparison)
    → length (with_frame_of found side flow frame comparison).flows ≡ length comparison.flows
frame-length None side flow frame comparison = refl
frame-length (Some before) side flow frame comparison = length-set comparison.flows flow _

end-length : (found : Option FlowFrames) (flow : ℕ) (comparison : Comparison) → length (with_end_of found flow comparison).flows ≡ length comparison.flows
end-length None flow comparison = refl
end-length (Some before) flow comparison = length-set comparison.flows flow _

-- what one frame adds to what was given
pub given-one : (is : Bool) (side : Side) (k : ℕ) (one : Arrival) → is_of side k one ≡ is → given_of side k (one ∷ []) ≡ cond is (one.frame ∷ []) []
given-one true side k one is = rw is refl
given-one false side k one is = rw is refl

-- and more frames
pub given-append : (side : Side) (k : ℕ) (some more : List Arrival) → given_of side k (some ++ more) ≡ given_of side k some ++ given_of side k more
given-append side k some more =
    ap (λ all. map (λ (arrival : Arrival). arrival.frame) all) (filter-append (is_of side k) some more)
    ∙ map-append (λ (arrival : Arrival). arrival.frame) (filter (is_of side k) some) (filter (is_of side k) more)

pub given-cons : (side : Side) (k : ℕ) (one : Arrival) (more : List Arrival) → given_of side k (one ∷ []) ++ given_of side k more ≡ given_of side k (one ∷ more)
given-cons side k one more = sym (given-append side k (one ∷ []) more)

unfoldable pub arrival : Side → ℕ → CameFrame → Arrival
arrival side flow frame = record { side = side; flow = flow; frame = frame }

pub given-own : (side : Side) (flow k : ℕ) (frame : CameFrame) → flow ≡ k → is_same_side side side ≡ true → given_of side k (arrival side flow frame ∷ []) ≡ frame ∷ []
unfolding arrival
given-own side flow k frame same own = given-one true side k (arrival side flow frame) (rw (own, eq-eqb flow k same) refl)

pub given-not : (side other : Side) (flow k : ℕ) (frame : CameFrame) → is_same_side side other ≡ false → given_of side k (arrival other flow frame ∷ []) ≡ []
unfolding arrival
given-not side other flow k frame not_own = given-one false side k (arrival other flow frame) (rw not_own refl)

and-false : (one : Bool) → (one && false) ≡ false
and-false true = refl
and-false false = refl

pub given-other : (side from : Side) (flow k : ℕ) (frame : CameFrame) → (k ≡ flow → ⊥) → given_of side k (arrival from flow frame ∷ []) ≡ []
unfolding arrival
given-other side from flow k frame other =
    let differs : eqb flow k ≡ false = ne_eqb flow k (λ same. other (sym same)) in
    given-one false side k (arrival from flow frame) (rw differs (and-false (is_same_side side from)))

-- one more frame keeps a flow aligned
own-step : (side : Side) (flow : ℕ) (frame : CameFrame) (comparison : Comparison) (analyser here : List CameFrame) → flow < length comparison.flows
    → AreAligned analyser here (flow_of flow comparison)
    → AreAligned (analyser ++ given_of Analyser flow (arrival side flow frame ∷ [])) (here ++ given_of Here flow (arrival side flow frame ∷ []))
    (flow_of flow (with_frame side flow frame comparison))
own-step Analyser flow frame comparison analyser here within aligned =
    rw (
      given-own Analyser flow flow frame refl refl,
      given-not Here Analyser flow flow frame refl,
      append-nil here,
      frame-same (slice_get comparison.flows flow) Analyser flow frame comparison refl within,
    )
    (aligned-analyser frame (flow_of flow comparison) analyser here aligned)
own-step Here flow frame comparison analyser here within aligned =
    rw (
      given-own Here flow flow frame refl refl,
      given-not Analyser Here flow flow frame refl,
      append-nil analyser,
      frame-same (slice_get comparison.flows flow) Here flow frame comparison refl within,
    )
    (aligned-here frame (flow_of flow comparison) analyser here aligned)

other-step : (side : Side) (flow k : ℕ) (frame : CameFrame) (comparison : Comparison) (analyser here : List CameFrame) → (k ≡ flow → ⊥)
    → AreAligned analyser here (flow_of k comparison)
    → AreAligned (analyser ++ given_of Analyser k (arrival side flow frame ∷ [])) (here ++ given_of Here k (arrival side flow frame ∷ []))
    (flow_of k (with_frame side flow frame comparison))
other-step side flow k frame comparison analyser here other aligned =
    rw (
      given-other Analyser side flow k frame other,
      given-other Here side flow k frame other,
      append-nil analyser,
      append-nil here,
      frame-other (slice_get comparison.flows flow) side flow k frame comparison other,
    ) aligned

one-step : (side : Side) (flow k : ℕ) (frame : CameFrame) (comparison : Comparison) (analyser here : List CameFrame) → k < length comparison.flows
    → (k ≡ flow) ⊎ (k ≡ flow → ⊥) → AreAligned analyser here (flow_of k comparison)
    → AreAligned (analyser ++ given_of Analyser k (arrival side flow frame ∷ [])) (here ++ given_of Here k (arrival side flow frame ∷ []))
    (flow_of k (with_frame side flow frame comparison))
one-step side flow k frame comparison analyser here within (inl same) aligned =
    subst (λ (j : ℕ). AreAligned (analyser ++ given_of Analyser k (arrival side j frame ∷ [])) (here ++ given_of Here k (arrival side j frame ∷ []))
    (flow_of k (with_frame side j frame comparison))) same (own-step side k frame comparison analyser here within aligned)
one-step side flow k frame comparison analyser here within (inr other) aligned = other-step side flow k frame comparison analyser here other aligned

-- so do all frames
pub aligned-all : (arrivals : List Arrival) (comparison : Comparison) (k : ℕ) (analyser here : List CameFrame) → k < length comparison.flows
    → AreAligned analyser here (flow_of k comparison)
    → AreAligned (analyser ++ given_of Analyser k arrivals) (here ++ given_of Here k arrivals) (flow_of k (with_all arrivals comparison))
unfolding arrival
aligned-all [] comparison k analyser here within aligned = rw (append-nil analyser, append-nil here) aligned
aligned-all (one ∷ more) comparison k analyser here within aligned =
    let next : Comparison = with_frame one.side one.flow one.frame comparison in
    let many : length next.flows ≡ length comparison.flows = frame-length (slice_get comparison.flows one.flow) one.side one.flow one.frame comparison in
    let still : k < length next.flows = omega arith in
    let step = one-step one.side one.flow k one.frame comparison analyser here within (cases_eq k one.flow) aligned in
    let all = aligned-all more next k (analyser ++ given_of Analyser k (one ∷ [])) (here ++ given_of Here k (one ∷ [])) still step in
    let first : (analyser ++ given_of Analyser k (one ∷ [])) ++ given_of Analyser k more ≡ analyser ++ given_of Analyser k (one ∷ more) =
    append_assoc analyser (given_of Analyser k (one ∷ [])) (given_of Analyser k more) ∙ ap (λ some. analyser ++ some) (given-cons Analyser k one more)
    in
    let second : (here ++ given_of Here k (one ∷ [])) ++ given_of Here k more ≡ here ++ given_of Here k (one ∷ more) =
    append_assoc here (given_of Here k (one ∷ [])) (given_of Here k more) ∙ ap (λ some. here ++ some) (given-cons Here k one more)
    in
    subst (λ (given : List CameFrame). AreAligned given (here ++ given_of Here k (one ∷ more)) (flow_of k (with_all more next))) first
    (subst (λ (given : List CameFrame). AreAligned ((analyser ++ given_of Analyser k (one ∷ [])) ++ given_of Analyser k more) given (flow_of k (with_all more next))) second all)

-- few wait
few-one : (side : Side) (flow k : ℕ) (frame : CameFrame) (comparison : Comparison) → k < length comparison.flows → (k ≡ flow) ⊎ (k ≡ flow → ⊥)
    → FewWait (flow_of k comparison) → FewWait (flow_of k (with_frame side flow frame comparison))
few-one side flow k frame comparison within (inl same) few =
    subst (λ (j : ℕ). FewWait (flow_of k (with_frame side j frame comparison))) same
    (rw (frame-same (slice_get comparison.flows k) side k frame comparison refl within) (few-moved side frame (flow_of k comparison) few))
few-one side flow k frame comparison within (inr other) few = rw (frame-other (slice_get comparison.flows flow) side flow k frame comparison other) few

pub few-all : (arrivals : List Arrival) (comparison : Comparison) (k : ℕ) → k < length comparison.flows → FewWait (flow_of k comparison)
    → FewWait (flow_of k (with_all arrivals comparison))
few-all [] comparison k within few = few
few-all (one ∷ more) comparison k within few =
    let next : Comparison = with_frame one.side one.flow one.frame comparison in
    let many : length next.flows ≡ length comparison.flows = frame-length (slice_get comparison.flows one.flow) one.side one.flow one.frame comparison in
    let still : k < length next.flows = omega arith in
    few-all more next k still (few-one one.side one.flow k one.frame comparison within (cases_eq k one.flow) few)

pub all-length : (arrivals : List Arrival) (comparison : Comparison) → length (with_all arrivals comparison).flows ≡ length comparison.flows
all-length [] comparison = refl
all-length (one ∷ more) comparison =
    all-length more (with_frame one.side one.flow one.frame comparison)
    ∙ frame-length (slice_get comparison.flows one.flow) one.side one.flow one.frame comparison

-- nothing came at first
pub nothing-length : (flows : ℕ) → length (nothing_came flows).flows ≡ flows
nothing-length flows = length-replicate flows empty_flow

pub nothing-flow : (flows k : ℕ) → k < flows → flow_of k (nothing_came flows) ≡ empty_flow
nothing-flow flows k within = get_or-replicate flows k empty_flow empty_flow within

-- the end of flow after flow
ended-length : (count : ℕ) (comparison : Comparison) → length (ended_to count comparison).flows ≡ length comparison.flows
ended-length zero comparison = refl
ended-length (suc flow) comparison =
    let before : Comparison = ended_to flow comparison in end-length (slice_get before.flows flow) flow before ∙ ended-length flow comparison

ended-before : (count : ℕ) (comparison : Comparison) (k : ℕ) → count ≤ k → flow_of k (ended_to count comparison) ≡ flow_of k comparison
ended-before zero comparison k below = refl
ended-before (suc flow) comparison k below =
    let before : Comparison = ended_to flow comparison in
    let other : k ≡ flow → ⊥ = λ same. omega arith in
    let less : flow ≤ k = omega arith in
    end-other (slice_get before.flows flow) flow k before other ∙ ended-before flow comparison k less

flow_ended : FlowFrames → FlowFrames
flow_ended flow = flow_after (ended flow.analyser.waiting flow.here.waiting) flow

ended-last : (flow k : ℕ) (comparison : Comparison) → k < length comparison.flows → (k ≡ flow) ⊎ (k ≡ flow → ⊥) → k < flow + 1
    → (k < flow → flow_of k (ended_to flow comparison) ≡ flow_ended (flow_of k comparison))
    → flow_of k (ended_to (suc flow) comparison) ≡ flow_ended (flow_of k comparison)
unfolding flow_ended
ended-last flow k comparison within (inl same) below rest =
    let at : ℕ → Type 0 = λ j. flow_of k (ended_to (suc j) comparison) ≡ flow_ended (flow_of k comparison) in
    let before : Comparison = ended_to k comparison in
    let still : k < length before.flows = let many = ended-length k comparison in omega arith in
    let as_before : k ≤ k = omega arith in
    subst at same
    (end-same (slice_get before.flows k) k before refl still ∙ ap flow_ended (ended-before k comparison k as_before))
ended-last flow k comparison within (inr other) below rest =
    let before : Comparison = ended_to flow comparison in
    let less : k < flow = omega arith in
    end-other (slice_get before.flows flow) flow k before other ∙ rest less

ended-after : (count : ℕ) (comparison : Comparison) (k : ℕ) → k < length comparison.flows → k < count
    → flow_of k (ended_to count comparison) ≡ flow_ended (flow_of k comparison)
ended-after zero comparison k within below = absurd (omega arith)
ended-after (suc flow) comparison k within below =
    let less : k < flow + 1 = omega arith in
    ended-last flow k comparison within (cases_eq k flow) less (λ lower. ended-after flow comparison k within lower)

pub finished-flow : (comparison : Comparison) (k : ℕ) → k < length comparison.flows
    → flow_of k (finished comparison) ≡ flow_after (ended (flow_of k comparison).analyser.waiting (flow_of k comparison).here.waiting) (flow_of k comparison)
unfolding flow_ended
finished-flow comparison k within = ended-after (length comparison.flows) comparison k within within

-- **All that came of a flow is aligned, then and at the end**
pub nothing_aligned : AreAligned [] [] empty_flow
nothing_aligned = record { analyser_all = refl; here_all = refl; same_in_both = refl }

pub came-aligned : (flows flow : ℕ) (arrivals : List Arrival) → flow < flows
    → AreAligned (given_of Analyser flow arrivals) (given_of Here flow arrivals) (flow_of flow (with_all arrivals (nothing_came flows)))
came-aligned flows flow arrivals within =
    let many = nothing-length flows in
    let there : flow < length (nothing_came flows).flows = omega arith in
    aligned-all arrivals (nothing_came flows) flow [] [] there (rw (nothing-flow flows flow within) nothing_aligned)

pub finished-aligned : (flows flow : ℕ) (arrivals : List Arrival) → flow < flows
    → AreAligned (given_of Analyser flow arrivals) (given_of Here flow arrivals) (flow_of flow (finished (with_all arrivals (nothing_came flows))))
finished-aligned flows flow arrivals within =
    let all : Comparison = with_all arrivals (nothing_came flows) in
    let many : length all.flows ≡ flows = all-length arrivals (nothing_came flows) ∙ nothing-length flows in
    let there : flow < length all.flows = omega arith in
    rw (finished-flow all flow there)
    (aligned-ended (flow_of flow all) (given_of Analyser flow arrivals) (given_of Here flow arrivals) (came-aligned flows flow arrivals within))

pub came-few : (flows flow : ℕ) (arrivals : List Arrival) → flow < flows → FewWait (flow_of flow (with_all arrivals (nothing_came flows)))
came-few flows flow arrivals within =
    let many = nothing-length flows in
    let there : flow < length (nothing_came flows).flows = omega arith in
    let none : FewWait empty_flow = record { of_analyser = omega arith; of_here = omega arith } in
    few-all arrivals (nothing_came flows) flow there (rw (nothing-flow flows flow within) none)

-- **Where nothing is only one side's, both sides gave the same**
none-counted : (frames : List CameFrame) → kept_within (length frames) ≡ 0 → frames ≡ []
none-counted frames is = nil_from_length frames (omega arith)

pub finished-equal : (flows flow : ℕ) (arrivals : List Arrival) → flow < flows
    → (let end = flow_of flow (finished (with_all arrivals (nothing_came flows))) in
    (counts_of end).only_analyser ≡ 0 → (counts_of end).only_here ≡ 0 → bytes_of (given_of Analyser flow arrivals) ≡ bytes_of (given_of Here flow arrivals))
finished-equal flows flow arrivals within none_a none_h =
    let all : Comparison = with_all arrivals (nothing_came flows) in
    let end : FlowFrames = flow_of flow (finished all) in
    let many : length all.flows ≡ flows = all-length arrivals (nothing_came flows) ∙ nothing-length flows in
    let there : flow < length all.flows = omega arith in
    let is = finished-flow all flow there in
    equal-from_none end (given_of Analyser flow arrivals) (given_of Here flow arrivals) (finished-aligned flows flow arrivals within)
    (ap (λ (one : FlowFrames). one.analyser.waiting) is) (ap (λ (one : FlowFrames). one.here.waiting) is)
    (none-counted (frames_given_up end.analyser.settled) none_a) (none-counted (frames_given_up end.here.settled) none_h)
