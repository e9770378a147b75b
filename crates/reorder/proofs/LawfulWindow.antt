-- Each change that a call makes keeps a window lawful.
use Rattle.std.proofs.Common.{◌≡◌, ◌≢◌, ℕ, ◌<◌, ◌≤◌, true, is_some, ⊎_elim, ap, sym, subst, ◌∙◌}
use Rattle.std.specs.Ordering.{nat_cmp}
use Rattle.std.specs.FinMap as map
use Rattle.std.proofs.lemmas.Bool.{cases_eq}
use Rattle.reorder.specs.Number.{offset}
use Rattle.reorder.specs.View.{WindowView, IsHeld, IsLawful, empty_window, with_item}
use Rattle.reorder.proofs.Items.{get-insert_other, get-remove_same, get-remove_other}

module _ {T : Type 0} where
  -- nothing is held, so that only the two numbers are asked about
  pub empty_window-lawful : (first width : ℕ) → first < 8192 → 1 ≤ width → width ≤ 4096 → IsLawful {T = T} (empty_window first width)
  empty_window-lawful first width in_range positive widest =
      record {
        expected_in_range = in_range;
        width_positive = positive;
        width_in_range = widest;
        held_in_range = λ q h. let none = map.get-empty {X = T} nat_cmp q in absurd (cc);
        held_within = λ q h. let none = map.get-empty {X = T} nat_cmp q in absurd (cc);
      }

  -- whatever stays after a number was taken out was held before
  pub held_before : (w : WindowView T) (k q : ℕ) → IsHeld (record w { held = map.remove w.held k }) q → (q ≢ k) × IsHeld w q
  held_before w k q h =
      let differ : q ≢ k = λ same. let none = get-remove_same w.held k in absurd (let at_k = subst (λ n. is_some (map.get (map.remove w.held k) n) ≡ true) same h in cc) in
      (differ, ap is_some (sym (get-remove_other w.held k q differ)) ∙ h)

  module _ (w : WindowView T) (lawful : IsLawful w) where
    -- an item is put in less than the width ahead
    pub with_item-lawful : (number : ℕ) (item : T) → number < 8192 → offset w.expected number < w.width → IsLawful (with_item w number item)
    with_item-lawful number item in_range within =
        record {
          expected_in_range = lawful.expected_in_range;
          width_positive = lawful.width_positive;
          width_in_range = lawful.width_in_range;
          held_in_range = λ q h.
              ⊎_elim
              (λ same. subst (λ n. n < 8192) (sym same) in_range)
              (λ differ. lawful.held_in_range q (ap is_some (sym (get-insert_other w.held number item q differ)) ∙ h))
              (cases_eq q number);
          held_within = λ q h.
              ⊎_elim
              (λ same. subst (λ n. offset w.expected n < w.width) (sym same) within)
              (λ differ. lawful.held_within q (ap is_some (sym (get-insert_other w.held number item q differ)) ∙ h))
              (cases_eq q number);
        }

    -- the next item is taken out
    pub without_next-lawful : IsLawful (record w { held = map.remove w.held w.expected })
    without_next-lawful =
        record {
          expected_in_range = lawful.expected_in_range;
          width_positive = lawful.width_positive;
          width_in_range = lawful.width_in_range;
          held_in_range = λ q h. lawful.held_in_range q (held_before w w.expected q h).1;
          held_within = λ q h. lawful.held_within q (held_before w w.expected q h).1;
        }
