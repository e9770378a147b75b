-- Losses that are declared of a flow.
use Rattle.std.proofs.Common.{◌≡◌, ℕ, zero, suc, ◌+◌, ◌-◌, ◌<◌, ◌≤◌, ⊎_elim, Bool, cond, not, Option, None, Some, is_some, List, [], ◌++◌, length, replicate, slice_get, get_or, refl, sym, ap, subst, ◌∙◌, arith}
use Rattle.std.specs.FinMap as map
use Rattle.std.proofs.lemmas.Bool.{cases_lt}
use Rattle.std.proofs.lemmas.List.{append-nil, length-append, length-replicate, get_or_append_left, get_or-replicate}
use Rattle.std.proofs.lemmas.List.Folds.{sum_by-replicate}
use Rattle.std.proofs.lemmas.List.Sums.{sum_by-append}
use Rattle.std.proofs.lemmas.Option.{slice_get_within, slice_get-get_or, get_or_from_slice_get}
use Rattle.std.proofs.Math.Seq.{get_or-append_right}
use Rattle.ccf.proofs.OneJoining.{Joins-append}
use Rattle.docsis_wire.specs.declared.segment.Segment.{Segment}
use Rattle.ccf.specs.Join.{Joins}
use Rattle.reorder.specs.View.{IsLawful, moved_on_by}
use Rattle.flow_records.specs.declared.record.FlowRecord.{FlowRecord}
use Rattle.flow_core.specs.declared.flow.Flow.{Flow}
use Rattle.flow_core.specs.declared.counts.FlowCounts.{FlowCounts}
use Rattle.flow_core.specs.declared.event.Applied.{Applied}
use Rattle.flow_core.specs.Fates.{Fates, IsSettledBelow}
use Rattle.flow_records.specs.Counted.{counted}
use Rattle.flow_core.specs.Counts.{payload_bytes, AreCounts}
use Rattle.flow_core.specs.Inside.Losses.{after_losses}
use Rattle.flow_core.specs.Stands.{IsWindowFrom, AreLost}
use Rattle.flow_core.proofs.Standing.{kept-not-lost}
use Rattle.flow_core.proofs.Windows.{window-moves}

-- What a flow has at an index y, whatever it remembers: the window from y on, and what is settled
-- below y joined and counted.
pub record HasComeTo (check : List ℕ → Bool) (r : FlowRecord) (fates : Fates) (answers : List Applied) (y : ℕ) (given : List (List ℕ)) (flow : Flow) : Type 0 where
  pub window : IsWindowFrom r fates y flow.window
  pub settled : List (Option Segment)
  pub below : IsSettledBelow fates y settled
  pub joined : Joins check [] settled given flow.joiner
  pub counts : AreCounts answers settled given flow.joiner flow.counts

-- what is settled next goes to the end
pub settled-more : (fates : Fates) (n : ℕ) (settled later : List (Option Segment))
    → ((i : ℕ) (fate : Option Segment) → slice_get later i ≡ Some fate → map.get fates (n + i) ≡ Some fate)
    → IsSettledBelow fates n settled → IsSettledBelow fates (n + length later) (settled ++ later)
settled-more fates n settled later next below =
    let size = below.size in
    record {
      size = let both = length-append settled later in omega arith;
      each = λ i fate is.
          let within : i < length (settled ++ later) = slice_get_within (settled ++ later) i fate is in
          let at : get_or (settled ++ later) i fate ≡ fate = get_or_from_slice_get (settled ++ later) i fate fate is in
          let both = length-append settled later in
          ⊎_elim
          (λ (early : i < length settled).
          below.each i fate (slice_get-get_or settled i fate early ∙ ap Some (sym (get_or_append_left settled later fate i early) ∙ at)))
          (λ (past : length settled ≤ i).
          let k : ℕ = i - length settled in
          let in_later : k < length later = omega arith in
          let place : n + k ≡ i = omega arith in
          subst (λ j. map.get fates j ≡ Some fate) place
          (next k fate (slice_get-get_or later k fate in_later ∙ ap Some (sym (get_or-append_right settled later i fate past) ∙ at))))
          (cases_lt i (length settled));
    }

-- losses alone join to nothing
losses-join : (check : List ℕ → Bool) (n : ℕ) → Joins check [] (replicate n None) [] []
losses-join check zero = (refl, refl)
losses-join check (suc n) = losses-join check n

-- losses more give no frame, and leave nothing unfinished
joins-losses : (check : List ℕ → Bool) (n : ℕ) (settled : List (Option Segment)) (given : List (List ℕ)) (unfinished : List ℕ)
    → Joins check [] settled given unfinished → Joins check [] (settled ++ replicate (suc n) None) given []
joins-losses check n settled given unfinished joins =
    subst (λ frames. Joins check [] (settled ++ replicate (suc n) None) frames []) (append-nil given)
    (Joins-append check settled (replicate (suc n) None) [] unfinished [] given [] joins (losses-join check n))

lost-fate : (fates : Fates) (y n : ℕ) → AreLost fates y (y + n) → (i : ℕ) (fate : Option Segment) → slice_get (replicate n None) i ≡ Some fate → map.get fates (y + i) ≡ Some fate
lost-fate fates y n lost i fate is =
    let within = slice_get_within (replicate n None) i fate is in
    let size = length-replicate {A = Option Segment} n None in
    let near : i < n = omega arith in
    lost (y + i) (omega arith) (omega arith)
    ∙ ap Some (sym (get_or-replicate n i None fate near) ∙ get_or_from_slice_get (replicate n None) i fate fate is)

counts-losses : (answers : List Applied) (n : ℕ) (settled : List (Option Segment)) (given : List (List ℕ)) (unfinished : List ℕ) (counts : FlowCounts)
    → AreCounts answers settled given unfinished counts
    → AreCounts answers (settled ++ replicate n None) given []
    (record counts { lost = counted (counts.lost + n); skipped = counted (counts.skipped + length unfinished) })
counts-losses answers n settled given unfinished counts are =
    let balance = are.balance in
    let losses = sum_by-append (λ (fate : Option Segment). cond {A = ℕ} (not (is_some fate)) 1 0) settled (replicate n None) in
    let each = sum_by-replicate (λ (fate : Option Segment). cond {A = ℕ} (not (is_some fate)) 1 0) n None in
    let bytes = sum_by-append payload_bytes settled (replicate n None) in
    let none = sum_by-replicate payload_bytes n None in
    let lost = are.lost in
    let skipped = are.skipped in
    record {
      kept = are.kept;
      late = are.late;
      repeat = are.repeat;
      beyond = are.beyond;
      lost = omega arith;
      frames = are.frames;
      skipped_bytes = are.skipped_bytes + length unfinished;
      balance = omega arith;
      skipped = omega arith;
    }

-- a flow comes further past indexes that are lost
pub losses-pass : (check : List ℕ → Bool) (r : FlowRecord) (fates : Fates) (answers : List Applied) (y : ℕ) (given : List (List ℕ)) (flow : Flow) (n : ℕ)
    → HasComeTo check r fates answers y given flow → n ≤ 4096 → AreLost fates y (y + n) → IsLawful (moved_on_by flow.window n)
    → HasComeTo check r fates answers (y + n) given (after_losses n (record flow { window = moved_on_by flow.window n }))
losses-pass check r fates answers y given flow zero come few lost lawful =
    let same : y ≡ y + 0 = omega arith in
    record {
      window = window-moves r fates y flow.window come.window 0 few (λ i from to. absurd (omega arith)) lawful;
      settled = come.settled;
      below = subst (λ n. IsSettledBelow fates n come.settled) same come.below;
      joined = come.joined;
      counts = come.counts;
    }
losses-pass check r fates answers y given flow (suc n) come few lost lawful =
    record {
      window = window-moves r fates y flow.window come.window (suc n) few (λ i from to kept. kept-not-lost kept.0 (sym kept.1 ∙ lost i from to)) lawful;
      settled = come.settled ++ replicate (suc n) None;
      below = subst (λ k. IsSettledBelow fates (y + k) (come.settled ++ replicate (suc n) None)) (length-replicate (suc n) None)
          (settled-more fates y come.settled (replicate (suc n) None) (lost-fate fates y (suc n) lost) come.below);
      joined = joins-losses check n come.settled given flow.joiner come.joined;
      counts = counts-losses answers (suc n) come.settled given flow.joiner flow.counts come.counts;
    }

-- losses leave the window and the memory as they are
pub losses-window : (n : ℕ) (flow : Flow) → (after_losses n flow).window ≡ flow.window
losses-window zero flow = refl
losses-window (suc n) flow = refl

pub losses-memory : (n : ℕ) (flow : Flow) → (after_losses n flow).going_on ≡ flow.going_on
losses-memory zero flow = refl
losses-memory (suc n) flow = refl

-- a flow that differs in what it remembers alone has come as far
pub come-same : (check : List ℕ → Bool) (r : FlowRecord) (fates : Fates) (answers : List Applied) (y : ℕ) (given : List (List ℕ)) (flow after : Flow)
    → HasComeTo check r fates answers y given flow → after.window ≡ flow.window → after.joiner ≡ flow.joiner → after.counts ≡ flow.counts
    → HasComeTo check r fates answers y given after
come-same check r fates answers y given flow after come window joiner counts =
    record {
      window = subst (IsWindowFrom r fates y) (sym window) come.window;
      settled = come.settled;
      below = come.below;
      joined = subst (Joins check [] come.settled given) (sym joiner) come.joined;
      counts = subst (λ u. AreCounts answers come.settled given u after.counts) (sym joiner)
          (subst (AreCounts answers come.settled given flow.joiner) (sym counts) come.counts);
    }
