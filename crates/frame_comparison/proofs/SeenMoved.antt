-- What is kept of a comparison, once more of a flow is settled.
use Rattle.std.proofs.Common.{◌≡◌, ℕ, ◌+◌, ◌<◌, Option, Some, None, List, [], ◌++◌, length, map, set, get_or, refl, ap, ◌∙◌, sym, arith}
use Rattle.std.specs.Prelude.{slice_get}
use Rattle.std.specs.Option.{option_map}
use Rattle.std.proofs.lemmas.List.{map-set, length-append}
use Rattle.std.proofs.lemmas.Option.{slice_get-map, get_or_from_slice_get, slice_get-get_or, none-some}
use Rattle.frame_comparison.specs.declared.side.Side.{Side}
use Rattle.frame_comparison.specs.declared.compared_counts.ComparedCounts.{ComparedCounts}
use Rattle.frame_comparison.specs.Frames.{CameFrame, FlowFrames, SideFrames, ShownFrame, SettledFrame, kept, frames_in_both, frames_given_up}
use Rattle.frame_comparison.specs.Compared.{Comparison, moved, ended, with_moved, with_frame, with_frame_of, with_end_of, flow_after, shown_of_all, no_frames}
use Rattle.frame_comparison.specs.Seen.{SideSeen, kept_within, listed, counts_of, settled_counts, with_counts, no_counts, side_seen_after, seen_after, seen_of, moved_in, waiting_of}
use Rattle.frame_comparison.proofs.Kept.{side_kept, flow_kept, moved-kept, ended-kept, alone-shown, same-counts, counts-kept}
use Rattle.frame_comparison.proofs.Listing.{take-front}
use Rattle.frame_comparison.proofs.Settled.{frames_in_both-append, frames_given_up-append}

kept_within-add : (count more : ℕ) → kept_within (kept_within count + more) ≡ kept_within (count + more)
kept_within-add count more = omega arith

-- the counts of all that is settled
count-append : (count : List SettledFrame → List CameFrame) → ((some more : List SettledFrame) → count (some ++ more) ≡ count some ++ count more)
    → (some more : List SettledFrame) → kept_within (kept_within (length (count some)) + length (count more)) ≡ kept_within (length (count (some ++ more)))
count-append count parts some more =
    kept_within-add (length (count some)) (length (count more))
    ∙ ap kept_within (sym (ap length (parts some more) ∙ length-append (count some) (count more)))

pub counts-moved : (more before : FlowFrames) → with_counts (settled_counts more) (counts_of before) ≡ counts_of (flow_after more before)
counts-moved more before =
    same-counts _ _ _ _ _ _ (count-append frames_in_both frames_in_both-append before.analyser.settled more.analyser.settled)
    (count-append frames_given_up frames_given_up-append before.analyser.settled more.analyser.settled)
    (count-append frames_given_up frames_given_up-append before.here.settled more.here.settled)

-- what is kept of a side
side-moved : (waiting : FlowFrames → List CameFrame) (flows : List FlowFrames) (only : List ShownFrame) (flow : ℕ) (more : SideFrames) (new : FlowFrames)
    → waiting new ≡ map kept more.waiting
    → (let old : SideSeen = record { waiting = map waiting flows; only = listed only } in
    let then : SideSeen = record { waiting = map waiting (set flows flow new); only = listed (only ++ shown_of_all flow more.settled) } in
    side_seen_after flow (side_kept more) old ≡ then)
unfolding listed
side-moved waiting flows only flow more new is =
    rw (map-set, is, alone-shown flow more.settled, take-front 100 only (shown_of_all flow more.settled)) refl

-- what is read of a flow is that flow's
pub read-of : {Y : Type 0} (view : FlowFrames → Y) (flows : List FlowFrames) (flow : ℕ) (before : FlowFrames) (d : Y) → slice_get flows flow ≡ Some before
    → get_or (map view flows) flow d ≡ view before
read-of view flows flow before d is =
    get_or_from_slice_get (map view flows) flow (view before) d (slice_get-map view flows flow ∙ ap (option_map view) is)

pub seen-moved : (flow : ℕ) (more before : FlowFrames) (comparison : Comparison) → slice_get comparison.flows flow ≡ Some before
    → seen_after flow (flow_kept more) (seen_of comparison) ≡ seen_of (with_moved flow more before comparison)
seen-moved flow more before comparison is =
    let flows : List FlowFrames = comparison.flows in
    let new : FlowFrames = flow_after more before in
    let counts : set (map counts_of flows) flow (with_counts (settled_counts (flow_kept more)) (get_or (map counts_of flows) flow no_counts)) ≡ map counts_of (set flows flow new) =
    ap (λ (settled : ComparedCounts). set (map counts_of flows) flow (with_counts settled (get_or (map counts_of flows) flow no_counts))) (counts-kept more)
    ∙ (ap (λ (one : ComparedCounts). set (map counts_of flows) flow (with_counts (settled_counts more) one)) (read-of counts_of flows flow before no_counts is)
    ∙ ap (λ (one : ComparedCounts). set (map counts_of flows) flow one) (counts-moved more before) ∙ sym (map-set counts_of flows flow new))
    in
    let analyser = side-moved (λ (one : FlowFrames). map kept one.analyser.waiting) flows comparison.only_analyser flow more.analyser new refl in
    let here = side-moved (λ (one : FlowFrames). map kept one.here.waiting) flows comparison.only_here flow more.here new refl in
    rw (counts, analyser, here) refl

none : FlowFrames
none = record { analyser = no_frames; here = no_frames }

-- a frame of a flow that there is
taken-of : (side : Side) (flow : ℕ) (frame : CameFrame) (comparison : Comparison) (found : Option FlowFrames) → slice_get comparison.flows flow ≡ found
    → flow < length comparison.flows
    → seen_after flow (moved_in side flow (kept frame) (seen_of comparison).analyser (seen_of comparison).here) (seen_of comparison)
    ≡ seen_of (with_frame_of found side flow frame comparison)
taken-of side flow frame comparison None is within =
    absurd (none-some (get_or comparison.flows flow none) (sym is ∙ slice_get-get_or comparison.flows flow none within))
taken-of side flow frame comparison (Some before) is within =
    let analyser = read-of (λ (one : FlowFrames). map kept one.analyser.waiting) comparison.flows flow before [] is in
    let here = read-of (λ (one : FlowFrames). map kept one.here.waiting) comparison.flows flow before [] is in
    ap (λ some. seen_after flow (moved side (kept frame) some (waiting_of flow (seen_of comparison).here)) (seen_of comparison)) analyser
    ∙ (ap (λ some. seen_after flow (moved side (kept frame) (map kept before.analyser.waiting) some) (seen_of comparison)) here
    ∙ (ap (λ some. seen_after flow some (seen_of comparison)) (moved-kept side frame before.analyser.waiting before.here.waiting)
    ∙ seen-moved flow (moved side frame before.analyser.waiting before.here.waiting) before comparison is))

pub taken-seen : (side : Side) (flow : ℕ) (frame : CameFrame) (comparison : Comparison) → flow < length comparison.flows
    → seen_after flow (moved_in side flow (kept frame) (seen_of comparison).analyser (seen_of comparison).here) (seen_of comparison)
    ≡ seen_of (with_frame side flow frame comparison)
taken-seen side flow frame comparison within = taken-of side flow frame comparison (slice_get comparison.flows flow) refl within

-- the end of a flow that there is
ended-of : (flow : ℕ) (comparison : Comparison) (found : Option FlowFrames) → slice_get comparison.flows flow ≡ found → flow < length comparison.flows
    → seen_after flow (ended (waiting_of flow (seen_of comparison).analyser) (waiting_of flow (seen_of comparison).here)) (seen_of comparison)
    ≡ seen_of (with_end_of found flow comparison)
ended-of flow comparison None is within =
    absurd (none-some (get_or comparison.flows flow none) (sym is ∙ slice_get-get_or comparison.flows flow none within))
ended-of flow comparison (Some before) is within =
    let analyser = read-of (λ (one : FlowFrames). map kept one.analyser.waiting) comparison.flows flow before [] is in
    let here = read-of (λ (one : FlowFrames). map kept one.here.waiting) comparison.flows flow before [] is in
    ap (λ some. seen_after flow (ended some (waiting_of flow (seen_of comparison).here)) (seen_of comparison)) analyser
    ∙ (ap (λ some. seen_after flow (ended (map kept before.analyser.waiting) some) (seen_of comparison)) here
    ∙ (ap (λ some. seen_after flow some (seen_of comparison)) (ended-kept before.analyser.waiting before.here.waiting)
    ∙ seen-moved flow (ended before.analyser.waiting before.here.waiting) before comparison is))

pub ended-seen : (flow : ℕ) (comparison : Comparison) → flow < length comparison.flows
    → seen_after flow (ended (waiting_of flow (seen_of comparison).analyser) (waiting_of flow (seen_of comparison).here)) (seen_of comparison)
    ≡ seen_of (with_end_of (slice_get comparison.flows flow) flow comparison)
ended-seen flow comparison within = ended-of flow comparison (slice_get comparison.flows flow) refl within
