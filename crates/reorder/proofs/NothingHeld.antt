-- A window that holds nothing skips at once to any number, and what it is once its next item is
-- taken out.
use Rattle.std.proofs.Common.{◌≡◌, ◌≢◌, ℕ, ◌-◌, ◌<◌, ◌≤◌, cond, ⊎_elim, List, [], ◌∷◌, length, slice_set, Option, None, Some, is_some, refl, ap, sym, subst, ◌∙◌, arith}
use Rattle.std.specs.Cmp.{nat_cmp_total}
use Rattle.std.specs.Ordering.{nat_cmp}
use Rattle.std.specs.FinMap as map
use Rattle.std.proofs.lemmas.Bool.{cases_eq, cases_lt}
use Rattle.std.proofs.lemmas.List.{length-set, get_or_past}
use Rattle.reorder.specs.Number.{offset, following, number_ahead}
use Rattle.reorder.specs.View.{WindowView, held_at, offset_in, IsLawful, next_taken, moved_on_by}
use Rattle.reorder.specs.Verdicts.{skipped_count}
use Rattle.reorder.specs.Inside.Places.{item_at, items_from, seen, IsKept}
use Rattle.reorder.proofs.Offsets.{number_ahead-offset, number_ahead-zero, offset-number_ahead}
use Rattle.reorder.proofs.Items.{none, get-insert_same, get-remove_same}
use Rattle.reorder.proofs.LawfulWindow.{without_next-lawful}
use Rattle.reorder.proofs.AgreeingWindows.{free-none_held}
use Rattle.reorder.proofs.LaidOut.{seen-is, emptied-laid_out}
use Rattle.reorder.proofs.WindowFields.{laid, held-at_first}
use Rattle.reorder.proofs.OpenNumbers.{AreOpen}
use Rattle.reorder.proofs.SkippedCount.{skipped_count-reached}

module _ {T : Type 0} where
  -- places at which nothing is held hold nothing whichever number comes first
  items_from-none : (ps : List (Option T)) (e n : ℕ) → map.len (items_from e ps) ≡ 0 → items_from n ps ≡ map.empty
  unfolding items_from
  items_from-none [] e n none = refl
  items_from-none (None ∷ ps) e n none = items_from-none ps (following e) (following n) none
  items_from-none (Some item ∷ ps) e n none =
      absurd (free-none_held (seen e (Some item ∷ ps)) e none (ap is_some (get-insert_same (items_from (following e) ps) e item)))

  -- where nothing is held all numbers before one ahead are skipped
  pub skipped_count-none_held : (w : WindowView T) (number : ℕ) → IsLawful w → map.len w.held ≡ 0 → offset_in w number < 4096 → offset_in w number ≡ skipped_count w number
  skipped_count-none_held w number lawful none near =
      let free : AreOpen w (offset_in w number) = λ k below held. free-none_held w (number_ahead w.expected k) none held in
      skipped_count-reached w number lawful (offset_in w number) free refl near

  module _ (e count : ℕ) (ps : List (Option T)) (kept : IsKept e count ps) (w : WindowView T) (is : seen e ps ≡ w) (nothing : map.len w.held ≡ 0) (number : ℕ) (in_range : number < 8192) where
    none_held : map.len (items_from e ps) ≡ 0
    none_held = ap (λ (v : WindowView T). map.len v.held) is ∙ nothing

    -- no place has moved, and another number is expected
    pub seen-jumped : (distance : ℕ) → distance ≡ offset e number → seen number ps ≡ moved_on_by w distance
    seen-jumped distance far =
        let same_items : items_from number ps ≡ items_from e ps = items_from-none ps e number none_held ∙ sym (items_from-none ps e e none_held) in
        let same_number : number ≡ number_ahead e distance = sym (ap (number_ahead e) far ∙ number_ahead-offset e number kept.lawful.expected_in_range in_range) in
        let jumped : seen number ps ≡ moved_on_by (seen e ps) distance = λ i. record {
          expected = same_number i;
          width = length ps;
          held = same_items i;
        } in
        jumped ∙ ap (λ (v : WindowView T). moved_on_by v distance) is

    pub kept-jumped : IsKept number count ps
    kept-jumped =
        let none_later : map.len (items_from number ps) ≡ 0 = ap map.len (items_from-none ps e number none_held) ∙ map.len-empty nat_cmp T in
        record {
          lawful = record {
            expected_in_range = in_range;
            width_positive = kept.lawful.width_positive;
            width_in_range = kept.lawful.width_in_range;
            held_in_range = λ q held. absurd (free-none_held (seen number ps) q none_later held);
            held_within = λ q held. absurd (free-none_held (seen number ps) q none_later held);
          };
          counted = kept.counted ∙ none_held ∙ sym none_later;
        }

  -- where nothing is held all places are empty
  pub places-empty : (e count : ℕ) (ps : List (Option T)) → IsKept e count ps → count ≡ 0 → (k : ℕ) → item_at ps k ≡ None
  places-empty e count ps kept zero k =
      let out = laid e count ps kept in
      let counted = kept.counted in
      let widest = kept.lawful.width_in_range in
      let number : ℕ = number_ahead e k in
      ⊎_elim
      (λ (within : k < length ps).
      ap (item_at ps) (sym (offset-number_ahead e k kept.lawful.expected_in_range (omega arith)))
      ∙ sym (out.items number (omega arith))
      ∙ none (held_at (seen e ps) number) (free-none_held (seen e ps) number (omega arith)))
      (λ (past : length ps ≤ k). get_or_past ps k None past)
      (cases_lt k (length ps))

  -- the next item is taken out of its place, and no place moves
  module _ (e count : ℕ) (ps : List (Option T)) (kept : IsKept e count ps) (item : T) (next : Some item ≡ item_at ps 0) where
    abbrev emptied : List (Option T)
    emptied = slice_set ps 0 None

    there : held_at (seen e ps) e ≡ Some item
    there = held-at_first e count ps kept ∙ sym next

    -- an item that is taken was counted
    pub count-positive : 1 ≤ count
    count-positive =
        ⊎_elim
        (λ (zero : map.len (items_from e ps) ≡ 0). absurd (free-none_held (seen e ps) e zero (ap is_some there)))
        (λ (more : map.len (items_from e ps) ≢ 0). let counted = kept.counted in omega arith)
        (cases_eq (map.len (items_from e ps)) 0)

    pub seen-taken : seen e emptied ≡ record (seen e ps) { held = map.remove (seen e ps).held e }
    seen-taken =
        let window : WindowView T = seen e ps in
        let widest = kept.lawful.width_in_range in
        let out = emptied-laid_out ps window kept.lawful.expected_in_range kept.lawful.width_positive (laid e count ps kept) in
        seen-is e emptied (record window { held = map.remove window.held e }) kept.lawful.expected_in_range (omega (arith, length-set ps 0 None)) refl out

    pub kept-taken : IsKept e (count - 1) emptied
    kept-taken =
        let window : WindowView T = seen e ps in
        record {
          lawful = subst (λ (v : WindowView T). IsLawful v) (sym seen-taken) (without_next-lawful window kept.lawful);
          counted = ap (λ n. n - 1) kept.counted ∙ sym (map.len-remove nat_cmp_total window.held e ∙ ap (λ t. cond t (map.len window.held - 1) (map.len window.held)) (ap is_some there)) ∙ ap (λ (v : WindowView T). map.len v.held) (sym seen-taken);
        }

    -- then the expected number is not held
    pub next-open : (qs : List (Option T)) → qs ≡ emptied → AreOpen (seen e qs) 1
    next-open qs is k below held =
        let first : k ≡ 0 = omega arith in
        let itself : number_ahead e k ≡ e = ap (number_ahead e) first ∙ number_ahead-zero e kept.lawful.expected_in_range in
        let gone : held_at (seen e qs) (number_ahead e k) ≡ None = ap (held_at (seen e qs)) itself ∙ ap (λ (rs : List (Option T)). held_at (seen e rs) e) is ∙ ap (λ (v : WindowView T). held_at v e) seen-taken ∙ get-remove_same (seen e ps).held e in
        let found = sym (ap is_some gone) ∙ held in
        cc

    -- and once it is passed too, the item was taken
    pub passed-next_taken : (qs : List (Option T)) → qs ≡ emptied → (w : WindowView T) → seen e ps ≡ w → moved_on_by (seen e qs) 1 ≡ next_taken w
    passed-next_taken qs is w seen_so =
        ap (λ (rs : List (Option T)). moved_on_by (seen e rs) 1) is
        ∙ ap (λ (v : WindowView T). moved_on_by v 1) seen-taken
        ∙ ap next_taken seen_so
