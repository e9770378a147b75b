-- A segment that arrives at a drained flow.
use Rattle.std.proofs.Common.{◌≡◌, ◌≢◌, ℕ, ◌+◌, ◌<◌, ⊎_elim, Option, None, Some, [], ◌∷◌, ◌++◌, refl, sym, ap, subst, ◌∙◌, arith}
use Rattle.std.specs.FinMap as map
use Rattle.std.proofs.lemmas.Bool.{cases_eq}
use Rattle.docsis_wire.specs.declared.segment.Segment.{Segment}
use Rattle.docsis_wire.specs.declared.segment.ReadySegment.{ReadySegment}
use Rattle.reorder.specs.Number.{offset}
use Rattle.reorder.specs.View.{WindowView, offset_in, IsHeld, IsLawful, with_item}
use Rattle.reorder.specs.Verdicts.{IsVerdict, after_offer}
use Rattle.reorder.proofs.Items.{get-insert_same, get-insert_other}
use Rattle.reorder.specs.declared.verdict.Verdict.{Verdict}
use Rattle.reorder.specs.declared.verdict.Verdict.TheVariants.{Late, Beyond, Repeat, Kept}
use Rattle.flow_records.specs.declared.record.FlowRecord.{FlowRecord}
use Rattle.flow_core.specs.declared.flow.Flow.{Flow}
use Rattle.flow_core.specs.declared.up_to.UpTo.{UpTo}
use Rattle.flow_core.specs.declared.event.Applied.TheVariants.{Arrival}
use Rattle.flow_core.specs.Fates.{Fates, number_of, IsKept, IsLost}
use Rattle.flow_core.specs.Events.{arrives, IsAhead, IsVerdictOn, Keeps}
use Rattle.flow_core.specs.Counts.{AreCounts}
use Rattle.flow_core.specs.Stands.{IsWindowFrom, IsRemembered, IsDrained, TakesEvent}
use Rattle.flow_core.proofs.IndexNumbers.{index-offset, ahead-at, ahead-offset}
use Rattle.flow_core.proofs.Windows.{held-kept, kept-held, window-keeps}
use Rattle.flow_core.proofs.FlowCounting.{answered, counts-answered}
use Rattle.flow_core.proofs.Standing.{stands-next, drained-sound, open-kept, kept-not-lost}

-- the verdict without what it hands back
abbrev pub said : {T U : Type 0} → (T → U) → Verdict T → Verdict U
said f (Late back) = Late (f back)
said f (Beyond back) = Beyond (f back)
said f (Repeat back) = Repeat (f back)
said f Kept = Kept

-- the fates after a verdict on a segment of this index
abbrev pub after_verdict : Fates → ℕ → Segment → Verdict ReadySegment → Fates
after_verdict fates i segment Kept = map.insert fates i (Some segment)
after_verdict fates i segment _ = fates

module _ (r : FlowRecord) (fates : Fates) (y : ℕ) (w : WindowView ReadySegment) (from_y : IsWindowFrom r fates y w) (ready : ReadySegment) where
  -- the index of the segment, where it lies ahead
  abbrev pub index : ℕ
  index = y + offset (number_of r.first y) ready.segment.head.sequence

  offset-is : offset_in w ready.segment.head.sequence ≡ offset (number_of r.first y) ready.segment.head.sequence
  offset-is = ap (λ e. offset e ready.segment.head.sequence) from_y.number

  numbered : number_of r.first index ≡ ready.segment.head.sequence
  numbered = index-offset r.first y ready.segment.head.sequence ready.segment.head.sequence_in_range

  is-ahead : offset_in w ready.segment.head.sequence < 4096 → IsAhead r.first y ready.segment.head.sequence index
  is-ahead near = let is = offset-is in ahead-at r.first y ready.segment.head.sequence ready.segment.head.sequence_in_range (omega arith)

  held-index : IsHeld w ready.segment.head.sequence → offset_in w ready.segment.head.sequence < w.width → IsKept fates index
  held-index held near =
      let is = offset-is in
      let widest = from_y.lawful.width_in_range in
      held-kept r fates y w from_y index (omega arith) (omega arith) (subst (λ n. IsHeld w n) (sym numbered) held)

  kept-index : IsKept fates index → IsHeld w ready.segment.head.sequence
  kept-index kept = subst (λ n. IsHeld w n) numbered (kept-held r fates y w from_y index (omega arith) kept)

  -- the window's verdict is the one on the index
  pub verdict-on : (verdict : Verdict ReadySegment) → IsVerdict w ready.segment.head.sequence ready verdict
      → IsVerdictOn r.first r.window fates y ready.segment (said (λ back. back.segment) verdict)
  verdict-on (Late back) is =
      ((λ i ahead. let at = ahead-offset r.first y ready.segment.head.sequence i ahead in let to = ahead.to in let same = offset-is in let far = is.0 in omega arith), ap (λ (one : ReadySegment). one.segment) is.1)
  verdict-on (Beyond back) is =
      let same = offset-is in
      let width = from_y.width in
      let far = is.1 in
      (index, is-ahead is.0, omega arith, ap (λ (one : ReadySegment). one.segment) is.2)
  verdict-on (Repeat back) is =
      let same = offset-is in
      let width = from_y.width in
      let widest = from_y.lawful.width_in_range in
      let near = is.0 in
      (index, is-ahead (omega arith), omega arith, held-index is.1 is.0, ap (λ (one : ReadySegment). one.segment) is.2)
  verdict-on Kept is =
      let same = offset-is in
      let width = from_y.width in
      let widest = from_y.lawful.width_in_range in
      let near = is.0 in
      (index, is-ahead (omega arith), omega arith, λ kept. is.1 (kept-index kept))

  -- and it changes what the verdict says
  pub keeps : (verdict : Verdict ReadySegment) → Keeps r.first y ready.segment (said (λ back. back.segment) verdict) fates (after_verdict fates index ready.segment verdict)
  keeps (Late back) = refl
  keeps (Beyond back) = refl
  keeps (Repeat back) = refl
  keeps Kept = λ i ahead. ap (λ k. map.insert fates k (Some ready.segment)) (ahead-offset r.first y ready.segment.head.sequence i ahead)

  -- the window after it
  pub window-after : (verdict : Verdict ReadySegment) → IsVerdict w ready.segment.head.sequence ready verdict
      → IsLawful (after_offer w ready.segment.head.sequence ready verdict)
      → IsWindowFrom r (after_verdict fates index ready.segment verdict) y (after_offer w ready.segment.head.sequence ready verdict)
  window-after (Late back) is lawful = from_y
  window-after (Beyond back) is lawful = from_y
  window-after (Repeat back) is lawful = from_y
  window-after Kept is lawful =
      let same = offset-is in
      let width = from_y.width in
      let near = is.0 in
      subst (λ n. IsWindowFrom r (map.insert fates index (Some ready.segment)) y (with_item w n ready)) numbered
      (window-keeps r fates y w from_y index ready (omega arith) (omega arith) (subst (λ n. IsLawful (with_item w n ready)) (sym numbered) lawful))

-- a flow that remembers nothing goes on so, where no index is lost anew
remembered-on : (first y : ℕ) (fates after : Fates) (going_on : Option UpTo) → ¬ (IsKept fates y) → ((i : ℕ) → IsLost after i → IsLost fates i)
    → IsRemembered first fates y going_on → IsRemembered first after y going_on
remembered-on first y fates after None free stays remembered = λ i from lost. remembered i from (stays i lost)
remembered-on first y fates after (Some u) free stays remembered = absurd (free remembered.3)

lost-before : (fates : Fates) (k : ℕ) (segment : Segment) (verdict : Verdict ReadySegment) (i : ℕ) → IsLost (after_verdict fates k segment verdict) i → IsLost fates i
lost-before fates k segment (Late back) i lost = lost
lost-before fates k segment (Beyond back) i lost = lost
lost-before fates k segment (Repeat back) i lost = lost
lost-before fates k segment Kept i lost =
    ⊎_elim
    (λ (same : i ≡ k). absurd (kept-not-lost segment (sym (get-insert_same fates k (Some segment)) ∙ ap (map.get (map.insert fates k (Some segment))) (sym same) ∙ lost)))
    (λ (differ : i ≢ k). sym (get-insert_other fates k (Some segment) i differ) ∙ lost)
    (cases_eq i k)

-- A segment arrives at a drained flow, and the window takes it in or not.
pub arrives-taken : (flow after : Flow) (ready : ReadySegment) (verdict : Verdict ReadySegment)
    → IsDrained flow
    → IsVerdict flow.window ready.segment.head.sequence ready verdict
    → after.window ≡ after_offer flow.window ready.segment.head.sequence ready verdict
    → IsLawful after.window
    → after.joiner ≡ flow.joiner
    → after.going_on ≡ flow.going_on
    → after.counts ≡ answered flow.counts (Arrival (said (λ back. back.segment) verdict))
    → TakesEvent flow (arrives ready.segment) (Arrival (said (λ back. back.segment) verdict)) after
arrives-taken flow after ready verdict drained is window lawful joiner memory counts check r events answers y given s =
    let fates = s.fates in
    let answer = Arrival (said (λ back. back.segment) verdict) in
    let i = index r fates y flow.window s.window ready in
    let sound = drained-sound check r flow events answers y given s drained in (
      y,
      stands-next check r flow after events answers y given (arrives ready.segment) answer (after_verdict fates i ready.segment verdict) s drained
          (verdict-on r fates y flow.window s.window ready verdict is, keeps r fates y flow.window s.window ready verdict)
          (subst (λ w. IsWindowFrom r (after_verdict fates i ready.segment verdict) y w) (sym window) (window-after r fates y flow.window s.window ready verdict is (subst IsLawful window lawful)))
          (subst (IsRemembered r.first (after_verdict fates i ready.segment verdict) y) (sym memory)
          (remembered-on r.first y fates (after_verdict fates i ready.segment verdict) _ (λ kept. open-kept fates y sound.expected.open_itself kept) (lost-before fates i ready.segment verdict) s.remembered))
          joiner
          (subst (λ k. AreCounts (answers ++ answer ∷ []) s.settled given flow.joiner k) (sym counts) (counts-answered answers answer s.settled given flow.joiner flow.counts s.counts)),
      λ i from to. absurd (omega arith),
    )
