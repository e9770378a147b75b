-- A window that holds the kept segments from an index on.
use Rattle.std.proofs.Common.{◌≡◌, ◌≢◌, ℕ, ◌+◌, ◌-◌, ◌<◌, ◌≤◌, true, ◌⊎◌, inl, inr, ⊎_elim, Option, None, Some, is_some, refl, sym, ap, subst, ◌∙◌, arith}
use Rattle.std.specs.Option.{option_map, option_flatten}
use Rattle.std.specs.Ordering.{nat_cmp}
use Rattle.std.specs.FinMap as map
use Rattle.std.proofs.lemmas.Bool.{cases_eq, cases_lt}
use Rattle.docsis_wire.specs.declared.segment.Segment.{Segment}
use Rattle.docsis_wire.specs.declared.segment.ReadySegment.{ReadySegment}
use Rattle.reorder.specs.Number.{following, number_ahead}
use Rattle.reorder.specs.View.{WindowView, held_at, IsHeld, IsLawful, empty_window, with_item, next_taken, moved_on_by}
use Rattle.reorder.proofs.Items.{get-insert_same, get-insert_other, get-remove_same, get-remove_other}
use Rattle.flow_records.specs.declared.record.FlowRecord.{FlowRecord}
use Rattle.flow_core.specs.Fates.{Fates, no_fates, number_of, kept_at, IsKept, IsKeptAs}
use Rattle.flow_records.specs.Setup.{IsInRange}
use Rattle.flow_core.specs.Stands.{IsWindowFrom}
use Rattle.flow_core.proofs.IndexNumbers.{same-index, following-index, ahead-index}

-- the segment of an item
abbrev pub segment_of : Option ReadySegment → Option Segment
segment_of item = option_map (λ ready. ready.segment) item

-- an index was kept, or it was not
kept-cases : (fates : Fates) (i : ℕ) (fate : Option (Option Segment)) → map.get fates i ≡ fate → IsKept fates i ⊎ (kept_at fates i ≡ None)
kept-cases fates i None is = inr (ap option_flatten is)
kept-cases fates i (Some None) is = inr (ap option_flatten is)
kept-cases fates i (Some (Some segment)) is = inl (segment, is)

pub kept-or-not : (fates : Fates) (i : ℕ) → IsKept fates i ⊎ (kept_at fates i ≡ None)
kept-or-not fates i = kept-cases fates i (map.get fates i) refl

pub kept-segment : (fates : Fates) (i : ℕ) (segment : Segment) → IsKeptAs fates i segment → kept_at fates i ≡ Some segment
kept-segment fates i segment is = ap option_flatten is

pub some-none : {T : Type 0} (x : T) → Some x ≡ None → ⊥
some-none x same = let tests = ap is_some same in cc

pub none-kept : (fates : Fates) (i : ℕ) → ¬ (IsKept fates i) → kept_at fates i ≡ None
none-kept fates i free = ⊎_elim (λ kept. absurd (free kept)) (λ none. none) (kept-or-not fates i)

pub kept-from-segment : (fates : Fates) (i : ℕ) (segment : Segment) → kept_at fates i ≡ Some segment → IsKeptAs fates i segment
kept-from-segment fates i segment is =
    ⊎_elim
    (λ kept. kept.1 ∙ ap Some (sym (kept-segment fates i kept.0 kept.1) ∙ is))
    (λ none. absurd (some-none segment (sym is ∙ none)))
    (kept-or-not fates i)

segment-some : (item : Option ReadySegment) (segment : Segment) → segment_of item ≡ Some segment → is_some item ≡ true
segment-some None segment is = absurd (some-none segment (sym is))
segment-some (Some ready) segment is = refl

item-cases : (item : Option ReadySegment) → is_some item ≡ true → (ready : ReadySegment) × (item ≡ Some ready)
item-cases None is = absurd (cc)
item-cases (Some ready) is = (ready, refl)

-- a new window holds nothing
pub window-new : (r : FlowRecord) → IsInRange r → IsLawful (empty_window {T = ReadySegment} r.first r.window) → IsWindowFrom r no_fates 0 (empty_window r.first r.window)
window-new r in_range lawful =
    let below = in_range.first in
    record {
      lawful = lawful;
      number = omega arith;
      width = refl;
      holds = λ i from to. ap segment_of (map.get-empty nat_cmp (number_of r.first i)) ∙ sym (ap option_flatten (map.get-empty nat_cmp i));
      within = λ i kept. absurd (some-none kept.0 (ap option_flatten (sym kept.1 ∙ map.get-empty nat_cmp i)));
    }

module _ (r : FlowRecord) (fates : Fates) (y : ℕ) (w : WindowView ReadySegment) (from_y : IsWindowFrom r fates y w) where
  -- a window is at most 4096 wide
  pub narrow : r.window ≤ 4096
  narrow = let width = from_y.width in let widest = from_y.lawful.width_in_range in omega arith

  -- what is held was kept
  pub held-kept : (i : ℕ) → y ≤ i → i < y + 8192 → IsHeld w (number_of r.first i) → IsKept fates i
  held-kept i from to held =
      let item = item-cases (held_at w (number_of r.first i)) held in
      (item.0.segment, kept-from-segment fates i item.0.segment (sym (from_y.holds i from to) ∙ ap segment_of item.1))

  -- and what was kept from y on is held
  pub kept-held : (i : ℕ) → y ≤ i → IsKept fates i → IsHeld w (number_of r.first i)
  kept-held i from kept =
      let near = from_y.within i kept in
      let small = narrow in
      segment-some (held_at w (number_of r.first i)) kept.0 (from_y.holds i from (omega arith) ∙ kept-segment fates i kept.0 kept.1)

  -- what is not held was not kept
  pub free-kept : (i : ℕ) → y ≤ i → held_at w (number_of r.first i) ≡ None → ¬ (IsKept fates i)
  free-kept i from none kept = let held = kept-held i from kept in let nothing = ap is_some none in cc

  -- far ahead nothing was kept
  far-none : (i : ℕ) → y + 4096 ≤ i → kept_at fates i ≡ None
  far-none i far = none-kept fates i (λ kept. let near = from_y.within i kept in let small = narrow in omega arith)

  -- fates in which the same segments were kept
  pub window-same : (after : Fates) → ((i : ℕ) → kept_at after i ≡ kept_at fates i) → IsWindowFrom r after y w
  window-same after same =
      record {
        lawful = from_y.lawful;
        number = from_y.number;
        width = from_y.width;
        holds = λ i from to. from_y.holds i from to ∙ sym (same i);
        within = λ i kept. ⊎_elim
            (λ before. from_y.within i before)
            (λ none. absurd (some-none kept.0 (sym (kept-segment after i kept.0 kept.1) ∙ same i ∙ none)))
            (kept-or-not fates i);
      }

  -- one more segment is kept
  pub window-keeps : (i : ℕ) (ready : ReadySegment) → y ≤ i → i < y + r.window → IsLawful (with_item w (number_of r.first i) ready)
      → IsWindowFrom r (map.insert fates i (Some ready.segment)) y (with_item w (number_of r.first i) ready)
  window-keeps i ready from near lawful =
      let small = narrow in
      let number = number_of r.first i in
      record {
        lawful = lawful;
        number = from_y.number;
        width = from_y.width;
        holds = λ j from' to. ⊎_elim
            (λ (same : j ≡ i). subst (λ k. segment_of (map.get (map.insert w.held number ready) (number_of r.first k)) ≡ kept_at (map.insert fates i (Some ready.segment)) k) (sym same)
            (ap segment_of (get-insert_same w.held number ready) ∙ sym (ap option_flatten (get-insert_same fates i (Some ready.segment)))))
            (λ (differ : j ≢ i). ap segment_of (get-insert_other w.held number ready (number_of r.first j) (λ same. differ (same-index r.first y j i from' to from (omega arith) same)))
            ∙ from_y.holds j from' to ∙ sym (ap option_flatten (get-insert_other fates i (Some ready.segment) j differ)))
            (cases_eq j i);
        within = λ j kept. ⊎_elim
            (λ (same : j ≡ i). omega arith)
            (λ (differ : j ≢ i). from_y.within j (kept.0, sym (get-insert_other fates i (Some ready.segment) j differ) ∙ kept.1))
            (cases_eq j i);
      }

  -- where one number goes round to an index that was not kept, nothing is held
  round : (i j : ℕ) → y ≤ j → j < y + 8192 → i ≡ j + 8192 → ¬ (IsKept fates j) → segment_of (held_at w (number_of r.first i)) ≡ kept_at fates i
  round i j from to is free =
      let number : number_of r.first i ≡ number_of r.first j = omega arith in
      ap (λ n. segment_of (held_at w n)) number ∙ from_y.holds j from to ∙ none-kept fates j free ∙ sym (far-none i (omega arith))

  -- the window moves on past indexes that were not kept
  pub window-moves : (n : ℕ) → n ≤ 4096 → ((i : ℕ) → y ≤ i → i < y + n → ¬ (IsKept fates i)) → IsLawful (moved_on_by w n) → IsWindowFrom r fates (y + n) (moved_on_by w n)
  window-moves n few free lawful =
      record {
        lawful = lawful;
        number = ap (λ e. number_ahead e n) from_y.number ∙ ahead-index r.first y n;
        width = from_y.width;
        holds = λ i from to. ⊎_elim
            (λ (near : i < y + 8192). from_y.holds i (omega arith) near)
            (λ (far : y + 8192 ≤ i). round i (i - 8192) (omega arith) (omega arith) (omega arith) (free (i - 8192) (omega arith) (omega arith)))
            (cases_lt i (y + 8192));
        within = λ i kept. let near = from_y.within i kept in omega arith;
      }

  -- the item of y is taken out
  pub window-taken : IsLawful (next_taken w) → IsWindowFrom r fates (y + 1) (next_taken w)
  window-taken lawful =
      record {
        lawful = lawful;
        number = ap following from_y.number ∙ following-index r.first y;
        width = from_y.width;
        holds = λ i from to. ⊎_elim
            (λ (near : i < y + 8192).
            ap segment_of (get-remove_other w.held w.expected (number_of r.first i) (λ same. let one = same-index r.first y i y (omega arith) near (omega arith) (omega arith) (same ∙ from_y.number) in omega arith))
            ∙ from_y.holds i (omega arith) near)
            (λ (far : y + 8192 ≤ i).
            let number : number_of r.first i ≡ w.expected = let is = from_y.number in omega arith in
            ap (λ n. segment_of (map.get (map.remove w.held w.expected) n)) number ∙ ap segment_of (get-remove_same w.held w.expected) ∙ sym (far-none i (omega arith)))
            (cases_lt i (y + 8192));
        within = λ i kept. let near = from_y.within i kept in omega arith;
      }
