-- The next segment of a flow is joined.
use Rattle.std.proofs.Common.{◌≡◌, ℕ, zero, suc, cond, not, is_some, ◌+◌, ◌<◌, inl, inr, ⊎_elim, Bool, Option, None, Some, List, [], ◌∷◌, ◌++◌, length, slice_get, refl, sym, ap, subst, ◌∙◌, arith}
use Rattle.std.specs.List.{concat}
use Rattle.std.specs.Option.{option_map}
use Rattle.std.specs.FinMap as map
use Rattle.std.proofs.lemmas.List.{append-nil, length-append}
use Rattle.std.proofs.lemmas.List.Folds.{concat-append}
use Rattle.std.proofs.lemmas.List.Sums.{sum_by_push}
use Rattle.std.proofs.lemmas.Option.{slice_get_within, same_Some}
use Rattle.docsis_wire.specs.declared.segment.Segment.{Segment}
use Rattle.docsis_wire.specs.declared.segment.ReadySegment.{ReadySegment}
use Rattle.ccf.specs.Feed.{Feeds, IsOneFrame}
use Rattle.ccf.proofs.FrameSplits.{one_frame-Feeds}
use Rattle.ccf.proofs.OneJoining.{Joins-append}
use Rattle.reorder.specs.Number.{number_ahead, following}
use Rattle.reorder.specs.View.{WindowView, held_at, IsLawful, next_taken, moved_on_by}
use Rattle.flow_records.specs.declared.record.FlowRecord.{FlowRecord}
use Rattle.flow_core.specs.declared.counts.FlowCounts.{FlowCounts}
use Rattle.flow_core.specs.declared.flow.Flow.{Flow}
use Rattle.flow_core.specs.declared.up_to.UpTo.{UpTo}
use Rattle.flow_core.specs.declared.event.Applied.{Applied}
use Rattle.flow_core.specs.Fates.{Fates, number_of, IsKeptAs}
use Rattle.flow_core.specs.Events.{FlowEvent}
use Rattle.flow_core.specs.Counts.{payload_bytes, AreCounts}
use Rattle.flow_core.specs.Inside.Losses.{after_passing, count_to, GoesOn, GoesOnTo}
use Rattle.flow_core.specs.Inside.Steps.{counts_joined}
use Rattle.flow_core.specs.AsItIs.{IsNextOneFrame}
use Rattle.flow_core.specs.Stands.{IsRemembered, StandsFor, AreLost, Gives}
use Rattle.flow_core.proofs.Windows.{kept-from-segment, window-taken}
use Rattle.flow_core.proofs.Standing.{stands}
use Rattle.flow_core.proofs.Losing.{HasComeTo, come-same, settled-more, losses-window, losses-memory}
use Rattle.flow_core.proofs.IndexNumbers.{following-index, ahead-index}
use Rattle.flow_core.proofs.Stopping.{held-CanLose, Stops, StopsEverywhere, stops-everywhere}
use Rattle.flow_core.proofs.FlowDeclaring.{IsToGoOn, passed-lost, comes-further, forgotten, still-remembered}

counts-fed : (answers : List Applied) (settled : List (Option Segment)) (given frames : List (List ℕ)) (unfinished after : List ℕ) (counts : FlowCounts)
    (segment : Segment) (skipped : ℕ)
    → AreCounts answers settled given unfinished counts
    → skipped + length (concat frames) + length after ≡ length unfinished + length segment.payload
    → AreCounts answers (settled ++ Some segment ∷ []) (given ++ frames) after (counts_joined counts (length frames) skipped)
counts-fed answers settled given frames unfinished after counts segment skipped are balance =
    let before = are.balance in
    let bytes = sum_by_push payload_bytes settled (Some segment) in
    let lost = sum_by_push (λ (fate : Option Segment). cond {A = ℕ} (not (is_some fate)) 1 0) settled (Some segment) in
    let lengths = length-append given frames in
    let contents : length (concat (given ++ frames)) ≡ length (concat given) + length (concat frames) = ap length (concat-append given frames) ∙ length-append (concat given) (concat frames) in
    let was_lost = are.lost in
    let was_given = are.frames in
    let was_skipped = are.skipped in
    record {
      kept = are.kept;
      late = are.late;
      repeat = are.repeat;
      beyond = are.beyond;
      lost = omega arith;
      frames = omega arith;
      skipped_bytes = are.skipped_bytes + skipped;
      balance = omega arith;
      skipped = omega arith;
    }

-- a list of one fate
one-fate : (fates : Fates) (y : ℕ) (segment : Segment) → IsKeptAs fates y segment → (i : ℕ) (fate : Option Segment)
    → slice_get (Some segment ∷ []) i ≡ Some fate → map.get fates (y + i) ≡ Some fate
one-fate fates y segment kept zero fate is = (let same : y + 0 ≡ y = omega arith in ap (map.get fates) same) ∙ kept ∙ is
one-fate fates y segment kept (suc i) fate is = absurd (let within = slice_get_within (Some segment ∷ []) (suc i) fate is in omega arith)

module _ (check : List ℕ → Bool) (r : FlowRecord) (flow : Flow) (events : List FlowEvent) (answers : List Applied) (y : ℕ) (given : List (List ℕ))
    (s : StandsFor check r flow events answers y given) (ready : ReadySegment) (next : held_at flow.window flow.window.expected ≡ Some ready)
    (frames : List (List ℕ)) (after : List ℕ) (skipped : ℕ)
    (feeds : Feeds check flow.joiner ready.segment frames after)
    (balance : skipped + length (concat frames) + length after ≡ length flow.joiner + length ready.segment.payload)
    (lawful : IsLawful (next_taken flow.window)) where
  -- the segment of y is next
  kept-as : IsKeptAs s.fates y ready.segment
  kept-as =
      kept-from-segment s.fates y ready.segment
      (sym (s.window.holds y (omega arith) (omega arith)) ∙ ap (λ n. option_map (λ (one : ReadySegment). one.segment) (held_at flow.window n)) (sym s.window.number) ∙ ap (option_map (λ (one : ReadySegment). one.segment)) next)

  -- the flow with the segment joined
  abbrev fed_flow : Flow
  fed_flow = record flow { window = next_taken flow.window; joiner = after; counts = counts_joined flow.counts (length frames) skipped }

  fed-come : HasComeTo check r s.fates answers (y + 1) (given ++ frames) fed_flow
  fed-come =
      record {
        window = window-taken r s.fates y flow.window s.window lawful;
        settled = s.settled ++ Some ready.segment ∷ [];
        below = settled-more s.fates y s.settled (Some ready.segment ∷ []) (one-fate s.fates y ready.segment kept-as) s.below;
        joined = Joins-append check s.settled (Some ready.segment ∷ []) [] flow.joiner after given frames s.joined (frames, [], after, feeds, (refl, refl), sym (append-nil frames));
        counts = counts-fed answers s.settled given frames flow.joiner after flow.counts ready.segment skipped s.counts balance;
      }

  to-go-on : (remembered : Option UpTo) → IsRemembered r.first s.fates y remembered → IsToGoOn r.first s.fates (y + 1) remembered
  to-go-on None memory = λ i from. memory i (omega arith)
  to-go-on (Some u) memory =
      let end = memory.0 in
      let ahead = memory.1 in
      let to = ahead.to in
      let before = memory.2 in
      (end, omega arith, omega arith, ahead.numbered, λ i from. memory.4 i (omega arith))

  whole : (z : ℕ) → y < z → (after_flow : Flow) → HasComeTo check r s.fates answers z (given ++ frames) after_flow
      → IsRemembered r.first s.fates z after_flow.going_on → AreLost s.fates (y + 1) z
      → (z : ℕ) × (y < z) × (stands : StandsFor check r after_flow events answers z (given ++ frames)) × AreLost stands.fates (y + 1) z
  whole z past after_flow come remembered lost =
      let put = stands check r after_flow events answers z (given ++ frames) s.fates s.x come.settled s.after s.expected come.window remembered come.below come.joined come.counts in
      (z, past, put.0, subst (λ f. AreLost f (y + 1) z) (sym put.1) lost)

  -- The flow goes on with the decision that it remembers.
  module _ (law : StopsEverywhere) (gone : Flow) (gone_lawful : IsLawful gone.window) where
    goes-on-to : (u : UpTo) → GoesOnTo u fed_flow gone → IsToGoOn r.first s.fates (y + 1) (Some u) → flow.going_on ≡ Some u
        → (z : ℕ) × (y < z) × (stands : StandsFor check r gone events answers z (given ++ frames)) × AreLost stands.fates (y + 1) z
    goes-on-to u goes to_do is =
        let count : ℕ = count_to (next_taken flow.window) u in
        let moved : Flow = record fed_flow { window = moved_on_by (next_taken flow.window) count } in
        let passed_flow : Flow = after_passing count fed_flow in
        let end = to_do.0 in
        let numbered = to_do.3 in
        let stops : Stops u (next_taken flow.window) count = law u (next_taken flow.window) lawful in
        let window_is : passed_flow.window ≡ moved_on_by (next_taken flow.window) count = losses-window count moved in
        let at : number_ahead (next_taken flow.window).expected count ≡ number_of r.first (y + 1 + count) =
        ap (λ e. number_ahead (following e) count) s.window.number ∙ ap (λ e. number_ahead e count) (following-index r.first y) ∙ ahead-index r.first (y + 1) count in
        let gone_to : passed_flow.window.expected ≡ number_of r.first (y + 1 + count) = ap (λ (w : WindowView ReadySegment). w.expected) window_is ∙ at in
        let passed = passed-lost check r s.fates answers (y + 1) (given ++ frames) fed_flow fed-come u end count numbered to_do.1 to_do.2 to_do.4 stops in
        ⊎_elim
        (λ done.
        let gone_window : gone.window ≡ passed_flow.window = ap (λ (one : Flow). one.window) done.1 in
        let come = comes-further check r s.fates answers (y + 1) (given ++ frames) fed_flow fed-come u end count numbered to_do.1 to_do.2 to_do.4 stops (subst IsLawful (gone_window ∙ window_is) gone_lawful) in
        whole (y + 1 + count) (omega arith) gone
        (subst (λ one. HasComeTo check r s.fates answers (y + 1 + count) (given ++ frames) one) (sym done.1)
        (come-same check r s.fates answers (y + 1 + count) (given ++ frames) passed_flow (record passed_flow { going_on = None }) come refl refl refl))
        (subst (λ (one : Flow). IsRemembered r.first s.fates (y + 1 + count) one.going_on) (sym done.1)
        (forgotten check r s.fates answers (y + 1) (given ++ frames) fed_flow fed-come u end count numbered to_do.1 to_do.2 to_do.4 stops
        (⊎_elim
        (λ (empty : map.len (next_taken flow.window).held ≡ 0). inl empty)
        (λ reached. inr (sym gone_to ∙ reached))
        done.0)))
        passed)
        (λ on.
        let gone_window : gone.window ≡ passed_flow.window = ap (λ (one : Flow). one.window) on.2 in
        let come = comes-further check r s.fates answers (y + 1) (given ++ frames) fed_flow fed-come u end count numbered to_do.1 to_do.2 to_do.4 stops (subst IsLawful (gone_window ∙ window_is) gone_lawful) in
        whole (y + 1 + count) (omega arith) gone
        (subst (λ one. HasComeTo check r s.fates answers (y + 1 + count) (given ++ frames) one) (sym on.2) come)
        (subst (λ (one : Flow). IsRemembered r.first s.fates (y + 1 + count) one.going_on) (sym on.2)
        (subst (IsRemembered r.first s.fates (y + 1 + count)) (sym (losses-memory count moved ∙ is))
        (still-remembered check r s.fates answers (y + 1) (given ++ frames) fed_flow fed-come u end count numbered to_do.1 to_do.2 to_do.4 stops
        (held-CanLose u (next_taken flow.window) on.0)
        (λ same. on.1 (gone_to ∙ same)))))
        passed)
        goes

    goes-on : (going_on : Option UpTo) → flow.going_on ≡ going_on → GoesOn going_on fed_flow gone
        → (z : ℕ) × (y < z) × (stands : StandsFor check r gone events answers z (given ++ frames)) × AreLost stands.fates (y + 1) z
    goes-on None is goes =
        whole (y + 1) (omega arith) gone
        (subst (λ one. HasComeTo check r s.fates answers (y + 1) (given ++ frames) one) (sym goes) fed-come)
        (subst (λ (one : Flow). IsRemembered r.first s.fates (y + 1) one.going_on) (sym goes)
        (subst (IsRemembered r.first s.fates (y + 1)) (sym is) (to-go-on None (subst (IsRemembered r.first s.fates y) is s.remembered))))
        (λ i from to. absurd (omega arith))
    goes-on (Some u) is goes = goes-on-to u goes (to-go-on (Some u) (subst (IsRemembered r.first s.fates y) is s.remembered)) is

-- A step of a flow that isn't drained gives the frames that the next segment completes.
pub step-gives : (check : List ℕ → Bool) (flow gone : Flow) (ready : ReadySegment) (frames : List (List ℕ)) (after : List ℕ) (skipped : ℕ)
    → held_at flow.window flow.window.expected ≡ Some ready
    → Feeds check flow.joiner ready.segment frames after
    → skipped + length (concat frames) + length after ≡ length flow.joiner + length ready.segment.payload
    → IsLawful (next_taken flow.window)
    → StopsEverywhere
    → GoesOn flow.going_on (record flow { window = next_taken flow.window; joiner = after; counts = counts_joined flow.counts (length frames) skipped }) gone
    → IsLawful gone.window
    → Gives check flow frames gone
step-gives check flow gone ready frames after skipped next feeds balance lawful law goes gone_lawful r events answers y given s =
    goes-on check r flow events answers y given s ready next frames after skipped feeds balance lawful law gone gone_lawful flow.going_on refl goes

-- a frame alone, and nothing unfinished on either side
one-balance : (before frame : List ℕ) → before ≡ [] → 0 + length (concat (frame ∷ [])) + length {A = ℕ} [] ≡ length before + length frame
one-balance before frame none = let e = ap length (append-nil frame) in let f = ap length none in omega arith

-- A step of a flow whose next segment is one whole frame gives just that frame.
pub one-frame-gives : (check : List ℕ → Bool) (flow gone : Flow) (one : IsNextOneFrame check flow) (ready : ReadySegment)
    → held_at flow.window flow.window.expected ≡ Some ready → IsLawful (next_taken flow.window)
    → GoesOn flow.going_on (record flow { window = next_taken flow.window; counts = counts_joined flow.counts 1 0 }) gone → IsLawful gone.window
    → Gives check flow (ready.segment.payload ∷ []) gone
one-frame-gives check flow gone one ready next lawful goes gone_lawful =
    let same : one.ready ≡ ready = same_Some one.ready ready (sym one.next ∙ next) in
    let whole : IsOneFrame check flow.joiner ready.segment = subst (λ (r : ReadySegment). IsOneFrame check flow.joiner r.segment) same one.one in
    let none = whole.nothing_unfinished in
    step-gives check flow gone ready (ready.segment.payload ∷ []) [] 0 next (one_frame-Feeds check flow.joiner ready.segment whole)
    (one-balance flow.joiner ready.segment.payload none) lawful stops-everywhere
    (subst (λ (unfinished : List ℕ). GoesOn flow.going_on (record flow { window = next_taken flow.window; joiner = unfinished; counts = counts_joined flow.counts 1 0 }) gone) none goes)
    gone_lawful
