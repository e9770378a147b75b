-- How far a flow can fall behind, and what a closed one has come past.
use Rattle.std.proofs.Common.{◌≡◌, ℕ, ◌+◌, ◌<◌, ◌≤◌, ◌↔◌, inl, inr, Bool, true, false, IsTrue, List, None, refl, ap, sym, subst, ◌∙◌, arith}
use Rattle.std.proofs.lemmas.Bool.{cases_lt, cases_order, false≢true}
use Rattle.std.specs.FinMap as map
use Rattle.reorder.specs.declared.verdict.Declared.{Declared}
use Rattle.reorder.specs.declared.verdict.Declared.TheVariants.{NextIsHere, NothingHeld, Lost}
use Rattle.reorder.proofs.Items.{get-insert_same, get-insert_other}
use Rattle.ccf.specs.Filter.{FiltersTo}
use Rattle.ccf.proofs.Filters.{FiltersFrom-same}
use Rattle.flow_records.specs.declared.record.FlowRecord.{FlowRecord}
use Rattle.flow_core.specs.declared.flow.Flow.{Flow}
use Rattle.flow_core.specs.declared.event.Applied.{Applied}
use Rattle.flow_core.specs.Fates.{Fates, number_of, IsKept, IsExpected, HasLaterKept}
use Rattle.flow_core.specs.Events.{FlowEvent, IsDeclaredTo, Declares, DeclaresTo, IsAfter}
use Rattle.flow_core.specs.Delivery.{IsDelivered, IsDeliverySequence}
use Rattle.flow_core.specs.Stands.{StandsFor}
use Rattle.flow_core.specs.Flows.{IsLoss}
use Rattle.flow_core.specs.Closing.{IsClosed, IsAllKept, HaveNoSkip, IsSkippedBy}
use Rattle.flow_core.proofs.Deciding.{IsAhead-once}
use Rattle.flow_core.proofs.Outcome.{expected-unique}
use Rattle.flow_core.proofs.LaterKept.{lost-lawfully}
use Rattle.flow_core.proofs.Giving.{same_fates}
use Rattle.flow_core.proofs.Standing.{settled-cases, open-kept, expected-after}

module _ (check : List ℕ → Bool) (flow_record : FlowRecord) (flow : Flow) (events : List FlowEvent) (answers : List Applied) (y : ℕ) (given : List (List ℕ)) (fates : Fates)
    (s : StandsFor check flow_record flow events answers y given) (is : IsAfter flow_record.first flow_record.window events answers fates) where
  -- the index that a flow has come to is not after the expected one
  pub draining-onward : (x : ℕ) → IsExpected fates x → y ≤ x
  draining-onward x expected =
      let same = same_fates check flow_record flow events answers y given s fates is in
      expected-after s.fates x y s.settled (subst (λ (f : Fates). IsExpected f x) (sym same) expected) s.below

  -- and all that was kept lies less than the width of the window after it
  pub draining-ends : (i : ℕ) → IsKept fates i → i < y + flow_record.window
  draining-ends i kept = s.window.within i (subst (λ (f : Fates). IsKept f i) (sym (same_fates check flow_record flow events answers y given s fates is)) kept)

  -- what lies further on and before the expected index was skipped
  pub draining-skipped : (x i : ℕ) → IsExpected fates x → y + flow_record.window ≤ i → i < x → IsSkippedBy flow_record.first flow_record.window events i
  draining-skipped x i expected from below =
      elim (settled-cases fates i (expected.settled i below)) [
        | inl kept ↦ absurd (omega (arith, draining-ends i kept))
        | inr lost ↦ elim (lost-lawfully flow_record.first flow_record.window events answers fates is i lost) [
          | inl later ↦ absurd (omega (arith, later.1, draining-ends later.0 later.2))
          | inr skipped ↦ skipped
        ]
      ]

  -- without a skip there is no such index
  pub draining-near : (x : ℕ) → IsExpected fates x → HaveNoSkip events → x ≤ y + flow_record.window
  draining-near x expected none =
      elim (cases_lt (y + flow_record.window) x) [
        | inr near ↦ near
        | inl beyond ↦
            let skipped = draining-skipped x (y + flow_record.window) expected (omega arith) beyond in
            absurd (none skipped.before skipped.behind skipped.number skipped.events_are)
      ]

-- a closed flow has come past all that was kept
pub past-kept : (fates : Fates) (x i : ℕ) → IsClosed fates → IsExpected fates x → IsKept fates i → i < x
past-kept fates x i closed expected kept =
    let same = expected-unique fates closed.0 x closed.1 expected in
    elim (cases_order i x) [
      | inl here ↦ absurd (open-kept fates x expected.open_itself (subst (IsKept fates) here kept))
      | inr (inl before) ↦ before
      | inr (inr behind) ↦ absurd (closed.2 (i, omega arith, kept))
    ]

-- so its frames are those whose segments were all kept
pub delivered-closed : (frames chunks : List (List ℕ)) (fates : Fates) (x j : ℕ) → IsClosed fates → IsExpected fates x
    → IsDelivered frames chunks fates x j ↔ IsAllKept frames chunks fates j
delivered-closed frames chunks fates x j closed expected = (
  λ p. record { whole = p.whole; kept = p.kept },
  λ p. record { whole = p.whole; kept = p.kept; below = λ i in_span. past-kept fates x i closed expected (p.kept i in_span) },
)

pub sequence-closed : (frames chunks given : List (List ℕ)) (fates : Fates) → IsClosed fates
    → IsDeliverySequence frames chunks fates given ↔ FiltersTo (IsAllKept frames chunks fates) frames given
sequence-closed frames chunks given fates closed = (
  λ h. FiltersFrom-same (IsDelivered frames chunks fates h.0) (IsAllKept frames chunks fates) 0 frames given
      (λ j low high p. (delivered-closed frames chunks fates h.0 j closed h.1).0 p) (λ j low high p. (delivered-closed frames chunks fates h.0 j closed h.1).1 p) h.2,
  λ filters. (
    closed.0,
    closed.1,
    FiltersFrom-same (IsAllKept frames chunks fates) (IsDelivered frames chunks fates closed.0) 0 frames given
        (λ j low high p. (delivered-closed frames chunks fates closed.0 j closed closed.1).1 p) (λ j low high p. (delivered-closed frames chunks fates closed.0 j closed closed.1).0 p) filters,
  ),
)

-- a loss up to the next number is declared of the expected index alone, if a later one was kept
next-alone : (first x i : ℕ) (fates : Fates) → IsDeclaredTo first x (number_of first (x + 1)) fates i → (i ≡ x) × HasLaterKept fates i
next-alone first x i fates p =
    let end = IsAhead-once first x (number_of first (x + 1)) p.end (x + 1) p.ahead (record { from = omega arith; to = omega arith; numbered = refl }) in
    (omega (arith, p.from, p.before), p.later_kept)

next-lost : (first x : ℕ) (fates : Fates) → IsExpected fates x → HasLaterKept fates x → IsDeclaredTo first x (number_of first (x + 1)) fates x
next-lost first x fates expected later_kept =
    record {
      end = x + 1;
      ahead = record { from = omega arith; to = omega arith; numbered = refl };
      from = omega arith;
      before = omega arith;
      open_itself = expected.open_itself;
      later_kept = later_kept;
    }

-- A gap is a gap up to the next number.
pub gap-to_next : (first x : ℕ) (fates after : Fates) (declared : Declared) → IsExpected fates x → Declares first x declared fates after
    → (any : Bool) × DeclaresTo first x (number_of first (x + 1)) any fates after × (IsTrue any ↔ IsLoss declared)
gap-to_next first x fates after NextIsHere expected declares = absurd declares
gap-to_next first x fates after NothingHeld expected declares =
    let none : (i : ℕ) → IsDeclaredTo first x (number_of first (x + 1)) fates i → ⊥ =
    λ i p. (let alone = next-alone first x i fates p in declares.0 (subst (HasLaterKept fates) alone.0 alone.1)) in (
      false,
      record {
        lost = λ i p. absurd (none i p);
        others = λ i not_so. ap (λ (f : Fates). map.get f i) declares.1;
        answer = (λ wrong. absurd (false≢true wrong), λ some. absurd (none some.0 some.1));
      },
      (λ wrong. absurd (false≢true wrong), λ loss. let is = loss.1 in absurd cc),
    )
gap-to_next first x fates after (Lost number) expected (later_kept, is, changed) = (
  true,
  record {
    lost = λ i p. ap (λ (f : Fates). map.get f i) changed ∙ ap (map.get (map.insert fates x None)) (next-alone first x i fates p).0 ∙ get-insert_same fates x None;
    others = λ i not_so. ap (λ (f : Fates). map.get f i) changed
        ∙ get-insert_other fates x None i (λ same. not_so (subst (IsDeclaredTo first x (number_of first (x + 1)) fates) (sym same) (next-lost first x fates expected later_kept)));
    answer = (λ _. (x, next-lost first x fates expected later_kept), λ _. refl);
  },
  (λ _. (number, refl), λ _. refl),
)
