-- What a flow keeps came in its events, and what it settles was kept or lost.
use Rattle.std.proofs.Common.{◌≡◌, ℕ, zero, suc, ◌+◌, ◌<◌, inl, inr, Bool, IsSome, is_some, get_or, slice_get, Option, Some, None, List, [], ◌∷◌, ◌++◌, length, refl, ap, sym, subst, ◌∙◌, arith, length-append}
use Rattle.std.specs.List.{AllByRecursion}
use Rattle.std.proofs.lemmas.Bool.{cases_eq, cases_lt, false≢true}
use Rattle.std.proofs.lemmas.Option.{slice_get-get_or, slice_get_within, get_or_from_slice_get}
use Rattle.std.proofs.lemmas.List.{get_or_append_left}
use Rattle.std.proofs.Math.Seq.{get_or-append_seam}
use Rattle.std.specs.Ordering.{nat_cmp}
use Rattle.std.specs.FinMap as map
use Rattle.docsis_wire.specs.declared.segment.Segment.{Segment}
use Rattle.reorder.specs.declared.verdict.Verdict.{Verdict}
use Rattle.reorder.specs.declared.verdict.Verdict.TheVariants.{Late, Beyond, Repeat, Kept}
use Rattle.reorder.specs.declared.verdict.Declared.TheVariants.{NextIsHere, NothingHeld, Lost}
use Rattle.reorder.proofs.Items.{get-insert_same, get-insert_other}
use Rattle.flow_core.specs.declared.event.Applied.{Applied}
use Rattle.flow_core.specs.declared.event.Applied.TheVariants.{Arrival, Decision, DecisionTo, DecisionSkip}
use Rattle.flow_core.specs.Fates.{Fates, no_fates, IsSettledBelow}
use Rattle.flow_core.specs.Events.{FlowEvent, arrives, gap, gap_to, skip_to, LosesJust, IsDeclaredTo, IsSkippedTo, IsVerdictOn, Keeps, Changes, Leads}
use Rattle.flow_core.proofs.Deciding.{open_or_settled}
use Rattle.answers.specs.Bytes.{IsLostOrCarries, Brings}
use Rattle.answers.specs.Beside.{KeepsCarrying}

module _ (P : List ℕ → Type 0) where
  -- nothing was kept yet
  pub none_kept : KeepsCarrying P no_fates
  none_kept i segment is = let none : map.get no_fates i ≡ None = map.get-empty nat_cmp i in absurd cc

  -- one segment more
  kept-insert : (fates : Fates) (i : ℕ) (segment : Segment) → KeepsCarrying P fates → P segment.payload → KeepsCarrying P (map.insert fates i (Some segment))
  kept-insert fates i segment are own j other is =
      elim (cases_eq j i) [
        | inl same ↦
            let there : map.get (map.insert fates i (Some segment)) i ≡ Some (Some segment) = get-insert_same fates i (Some segment) in
            let here = ap (map.get (map.insert fates i (Some segment))) same in
            let e : segment ≡ other = cc in
            subst (λ (s : Segment). P s.payload) e own
        | inr differ ↦ are j other (sym (get-insert_other fates i (Some segment) j differ) ∙ is)
      ]

  -- one loss more
  kept-lose : (fates : Fates) (i : ℕ) → KeepsCarrying P fates → KeepsCarrying P (map.insert fates i None)
  kept-lose fates i are j other is =
      elim (cases_eq j i) [
        | inl same ↦
            let there : map.get (map.insert fates i None) i ≡ Some None = get-insert_same fates i None in
            let here = ap (map.get (map.insert fates i None)) same in
            absurd cc
        | inr differ ↦ are j other (sym (get-insert_other fates i None j differ) ∙ is)
      ]

  -- losses
  kept-losses : (Q : ℕ → Type 0) (any : Bool) (fates after : Fates) → LosesJust Q any fates after → KeepsCarrying P fates → KeepsCarrying P after
  kept-losses Q any fates after loses are i segment is =
      are i segment (sym (loses.others i (λ lost. let gone = loses.lost i lost in cc)) ∙ is)

  kept-keeps : (first width x : ℕ) (fates after : Fates) (segment : Segment) (verdict : Verdict Segment) → IsVerdictOn first width fates x segment verdict
      → Keeps first x segment verdict fates after → KeepsCarrying P fates → P segment.payload → KeepsCarrying P after
  kept-keeps first width x fates after segment (Late back) is keeps are own = subst (KeepsCarrying P) (sym keeps) are
  kept-keeps first width x fates after segment (Beyond back) is keeps are own = subst (KeepsCarrying P) (sym keeps) are
  kept-keeps first width x fates after segment (Repeat back) is keeps are own = subst (KeepsCarrying P) (sym keeps) are
  kept-keeps first width x fates after segment Kept is keeps are own =
      subst (KeepsCarrying P) (sym (keeps is.0 is.1)) (kept-insert fates is.0 segment are own)

  kept-changes : (first width x : ℕ) (event : FlowEvent) (answer : Applied) (fates after : Fates) → Changes first width x event answer fates after
      → KeepsCarrying P fates → Brings P event → KeepsCarrying P after
  kept-changes first width x (arrives segment) (Arrival verdict) fates after changes are own = kept-keeps first width x fates after segment verdict changes.0 changes.1 are own
  kept-changes first width x (arrives segment) (Decision declared) fates after changes are own = absurd changes
  kept-changes first width x (arrives segment) (DecisionTo declared) fates after changes are own = absurd changes
  kept-changes first width x (arrives segment) (DecisionSkip skipped) fates after changes are own = absurd changes
  kept-changes first width x gap (Arrival verdict) fates after changes are own = absurd changes
  kept-changes first width x gap (Decision (Lost number)) fates after changes are own = subst (KeepsCarrying P) (sym changes.2) (kept-lose fates x are)
  kept-changes first width x gap (Decision NothingHeld) fates after changes are own = subst (KeepsCarrying P) (sym changes.1) are
  kept-changes first width x gap (Decision NextIsHere) fates after changes are own = absurd changes
  kept-changes first width x gap (DecisionTo declared) fates after changes are own = absurd changes
  kept-changes first width x gap (DecisionSkip skipped) fates after changes are own = absurd changes
  kept-changes first width x (gap_to number) (Arrival verdict) fates after changes are own = absurd changes
  kept-changes first width x (gap_to number) (Decision declared) fates after changes are own = absurd changes
  kept-changes first width x (gap_to number) (DecisionTo declared) fates after changes are own = kept-losses (IsDeclaredTo first x number fates) declared fates after changes are
  kept-changes first width x (gap_to number) (DecisionSkip skipped) fates after changes are own = absurd changes
  kept-changes first width x (skip_to number) (Arrival verdict) fates after changes are own = absurd changes
  kept-changes first width x (skip_to number) (Decision declared) fates after changes are own = absurd changes
  kept-changes first width x (skip_to number) (DecisionTo declared) fates after changes are own = absurd changes
  kept-changes first width x (skip_to number) (DecisionSkip skipped) fates after changes are own = kept-losses (IsSkippedTo first x number fates) skipped fates after changes are

  -- of events that bring such segments only such are kept
  pub kept-leads : (first width : ℕ) (events : List FlowEvent) (answers : List Applied) (fates after : Fates) → Leads first width fates events answers after
      → KeepsCarrying P fates → AllByRecursion (Brings P) events → KeepsCarrying P after
  kept-leads first width [] answers fates after leads are own = subst (KeepsCarrying P) (sym leads.1) are
  kept-leads first width (event ∷ events) answers fates after (x, answer, rest, between, expected, changes, leads, is) are own =
      kept-leads first width events rest between after leads (kept-changes first width x event answer fates between changes are own.0) own.1

  -- a fate that is known is lost or carries such a payload
  known-carries : (fates : Fates) (i : ℕ) (fate : Option Segment) → KeepsCarrying P fates → map.get fates i ≡ Some fate → IsLostOrCarries P fate
  known-carries fates i None are is = tt
  known-carries fates i (Some segment) are is = are i segment is

  -- and so each of what is settled
  each-carries : (fates : Fates) (n : ℕ) (settled : List (Option Segment)) → KeepsCarrying P fates
      → ((i : ℕ) (fate : Option Segment) → slice_get settled i ≡ Some fate → map.get fates (n + i) ≡ Some fate) → AllByRecursion (IsLostOrCarries P) settled
  each-carries fates n [] are each = tt
  each-carries fates n (fate ∷ settled) are each = (
    known-carries fates (n + 0) fate are (each 0 fate refl),
    each-carries fates (suc n) settled are (λ i other there. let e : n + suc i ≡ suc n + i = omega arith in subst (λ k. map.get fates k ≡ Some other) e (each (suc i) other there)),
  )

  pub settled-carries : (fates : Fates) (x : ℕ) (settled : List (Option Segment)) → KeepsCarrying P fates → IsSettledBelow fates x settled
      → AllByRecursion (IsLostOrCarries P) settled
  settled-carries fates x settled are below =
      each-carries fates 0 settled are (λ i fate there. let e : i ≡ 0 + i = omega arith in subst (λ k. map.get fates k ≡ Some fate) e (below.each i fate there))

-- one index more is settled
pub settled-push : (fates : Fates) (n : ℕ) (settled : List (Option Segment)) (fate : Option Segment) → IsSettledBelow fates n settled → map.get fates n ≡ Some fate
    → IsSettledBelow fates (suc n) (settled ++ fate ∷ [])
settled-push fates n settled fate below is = record {
  size = omega (arith, length-append settled (fate ∷ []), below.size);
  each = λ i other there.
      let size = below.size in
      let within = slice_get_within (settled ++ fate ∷ []) i other there in
      let here = get_or_from_slice_get (settled ++ fate ∷ []) i other fate there in
      elim (cases_lt i n) [
        | inl less ↦
            let inside : i < length settled = omega arith in
            let front = get_or_append_left settled (fate ∷ []) fate i inside in
            below.each i other (slice_get-get_or settled i fate inside ∙ ap Some (sym front ∙ here))
        | inr from ↦
            let last : i ≡ length settled = omega (arith, within, length-append settled (fate ∷ []), below.size) in
            let seam = get_or-append_seam settled fate [] fate in
            let at_seam = ap (λ k. get_or (settled ++ fate ∷ []) k fate) last in
            let same : fate ≡ other = cc in
            let index : i ≡ n = omega arith in
            ap (map.get fates) index ∙ is ∙ ap Some same
      ];
}

-- what became of the indexes below an expected one, in order
pub some_settled : (fates : Fates) (n : ℕ) → ((i : ℕ) → i < n → IsSome (map.get fates i)) → (settled : List (Option Segment)) × IsSettledBelow fates n settled
some_settled fates zero known = ([], record { size = refl; each = λ i fate is. cc })
some_settled fates (suc n) known =
    let front = some_settled fates n (λ i less. known i (omega arith)) in
    elim (open_or_settled fates n) [
      | inl free ↦ let there = known n (omega arith) in absurd (false≢true (sym (ap is_some free) ∙ there))
      | inr fate ↦ (front.0 ++ fate.0 ∷ [], settled-push fates n front.0 fate.0 front.1 fate.1)
    ]
