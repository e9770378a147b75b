-- What the fields of a window keep as its calls change them.
use Rattle.std.proofs.Common.{◌≡◌, ℕ, ◌+◌, ◌<◌, ◌≤◌, cond, List, length, replicate, slice_set, Option, None, Some, is_some, refl, ap, sym, subst, ◌∙◌, arith}
use Rattle.std.specs.Ordering.{nat_cmp}
use Rattle.std.specs.Cmp.{nat_cmp_total}
use Rattle.std.specs.FinMap as map
use Rattle.std.proofs.lemmas.List.{length-set}
use Rattle.reorder.specs.Number.{offset}
use Rattle.reorder.specs.View.{WindowView, held_at, IsLawful, empty_window, with_item}
use Rattle.reorder.specs.Inside.Places.{item_at, IsLaidOut, seen, IsKept}
use Rattle.reorder.proofs.Offsets.{offset-expected}
use Rattle.reorder.proofs.LawfulWindow.{empty_window-lawful, with_item-lawful}
use Rattle.reorder.proofs.LaidOut.{len-items_from, seen-laid_out, seen-is, empty-laid_out, with_item-laid_out}

module _ {T : Type 0} where
  -- a new window's places are all empty
  pub seen-empty : (first width : ℕ) (ps : List (Option T)) → first < 8192 → width ≤ 4096 → ps ≡ replicate width None → seen first ps ≡ empty_window first width
  seen-empty first width ps in_range widest all_empty =
      let laid : IsLaidOut ps (empty_window {T = T} first width) = subst (λ (qs : List (Option T)). IsLaidOut qs (empty_window first width)) (sym all_empty) (empty-laid_out first width) in
      seen-is first ps (empty_window first width) in_range (let wide = laid.wide in omega arith) refl laid

  pub kept-empty : (first width : ℕ) (ps : List (Option T)) → first < 8192 → 1 ≤ width → width ≤ 4096 → ps ≡ replicate width None → IsKept first 0 ps
  kept-empty first width ps in_range positive widest all_empty =
      let is = seen-empty first width ps in_range widest all_empty in
      record {
        lawful = subst (λ (w : WindowView T). IsLawful w) (sym is) (empty_window-lawful first width in_range positive widest);
        counted = sym (map.len-empty nat_cmp T) ∙ ap (λ (w : WindowView T). map.len w.held) (sym is);
      }

  module _ (e count : ℕ) (ps : List (Option T)) (kept : IsKept e count ps) where
    pub laid : IsLaidOut ps (seen e ps)
    laid = seen-laid_out e ps kept.lawful.expected_in_range (let widest = kept.lawful.width_in_range in omega arith)

    -- what is held at a number whose place was looked at
    pub held-at_place : (number d : ℕ) → number < 8192 → d ≡ offset e number → held_at (seen e ps) number ≡ item_at ps d
    held-at_place number d number_in is = laid.items number number_in ∙ ap (item_at ps) (sym is)

    -- and what is held at the expected number, whose place is the first one
    pub held-at_first : held_at (seen e ps) e ≡ item_at ps 0
    held-at_first =
        let in_range = kept.lawful.expected_in_range in
        held-at_place e 0 in_range (sym (offset-expected e in_range))

    -- the count leaves room
    pub count-small : count ≤ 4096
    count-small = let widest = kept.lawful.width_in_range in let counted = kept.counted in omega (arith, len-items_from ps e)

    -- an item is put at its place
    pub seen-put : (number d : ℕ) (item : T) → number < 8192 → d ≡ offset e number → d < length ps → seen e (slice_set ps d (Some item)) ≡ with_item (seen e ps) number item
    seen-put number d item number_in is within =
        let qs : List (Option T) = slice_set ps d (Some item) in
        let put : IsLaidOut qs (with_item (seen e ps) number item) = subst (λ n. IsLaidOut (slice_set ps n (Some item)) (with_item (seen e ps) number item)) (sym is) (with_item-laid_out ps (seen e ps) number item kept.lawful.expected_in_range number_in (subst (λ n. n < length ps) is within) laid) in
        let widest = kept.lawful.width_in_range in
        seen-is e qs (with_item (seen e ps) number item) kept.lawful.expected_in_range (omega (arith, length-set ps d (Some item))) refl put

    pub kept-put : (number d : ℕ) (item : T) → number < 8192 → d ≡ offset e number → d < length ps → item_at ps d ≡ None → IsKept e (count + 1) (slice_set ps d (Some item))
    kept-put number d item number_in is within free =
        let w : WindowView T = seen e ps in
        let put = seen-put number d item number_in is within in
        let nothing : held_at w number ≡ None = held-at_place number d number_in is ∙ free in
        record {
          lawful = subst (λ (v : WindowView T). IsLawful v) (sym put) (with_item-lawful w kept.lawful number item number_in (subst (λ n. n < length ps) is within));
          counted = ap (λ n. n + 1) kept.counted ∙ sym (map.len-insert nat_cmp_total w.held number item ∙ ap (λ (o : Option T). cond (is_some o) (map.len w.held) (map.len w.held + 1)) nothing) ∙ ap (λ (v : WindowView T). map.len v.held) (sym put);
        }
