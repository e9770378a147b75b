-- A ring of places stands for one window, and how it changes with the window.
use Rattle.std.proofs.Common.{◌≡◌, ◌≢◌, ℕ, zero, suc, ◌+◌, ◌<◌, ◌≤◌, ⊎_elim, List, [], ◌∷◌, length, replicate, slice_set, Option, None, Some, is_some, cond, Bool, true, false, refl, ap, sym, subst, ◌∙◌, arith, add-one}
use Rattle.std.specs.Ordering.{nat_cmp}
use Rattle.std.specs.Cmp.{nat_cmp_total}
use Rattle.std.specs.FinMap as map
use Rattle.std.proofs.lemmas.Bool.{cases_eq, cases_lt}
use Rattle.std.proofs.lemmas.List.{get_or_past, length-replicate, length-set, get_or-set_same, get_or-set_other}
use Rattle.reorder.specs.Number.{offset, following}
use Rattle.reorder.specs.View.{WindowView, held_at, empty_window, with_item}
use Rattle.reorder.specs.Inside.Places.{item_at, IsLaidOut, items_from, seen}
use Rattle.reorder.proofs.Offsets.{following-in_range, offset-expected, offset-following, offset-injective, offset-passed}
use Rattle.reorder.proofs.Items.{none, get-insert_same, get-insert_other, get-remove_same, get-remove_other}
use Rattle.reorder.proofs.LawfulWindow.{held_before}
use Rattle.reorder.proofs.AgreeingWindows.{Agree-same}

module _ {T : Type 0} where
  -- the place after the first one
  item_at-next : (p : Option T) (ps : List (Option T)) (i j : ℕ) → i + 1 ≡ j → item_at (p ∷ ps) j ≡ item_at ps i
  item_at-next p ps i j next = ap (item_at (p ∷ ps)) (sym next ∙ add-one i)

  -- the first place
  item_at-first : (p : Option T) (ps : List (Option T)) (i : ℕ) → i ≡ 0 → item_at (p ∷ ps) i ≡ p
  item_at-first p ps i first = ap (item_at (p ∷ ps)) first

  -- there is no item at empty places
  item_at-replicate : (n i : ℕ) → item_at (replicate {A = Option T} n None) i ≡ None
  item_at-replicate zero i = refl
  item_at-replicate (suc n) zero = refl
  item_at-replicate (suc n) (suc i) = item_at-replicate n i

  -- the map of the places has at each number the item at its offset
  get-items_from : (ps : List (Option T)) (n q : ℕ) → n < 8192 → q < 8192 → length ps ≤ 8192 → map.get (items_from n ps) q ≡ item_at ps (offset n q)
  unfolding items_from
  get-items_from [] n q n_in q_in fits = map.get-empty nat_cmp q
  get-items_from (None ∷ ps) n q n_in q_in fits =
      let rest : map.get (items_from (following n) ps) q ≡ item_at ps (offset (following n) q) = get-items_from ps (following n) q (following-in_range n) q_in (omega arith) in
      ⊎_elim
      (λ (same : q ≡ n).
      let past : length ps ≤ offset (following n) q = omega (arith, offset-passed n n_in) in
      rest ∙ get_or_past ps (offset (following n) q) None past ∙ sym (item_at-first None ps (offset n q) (omega (arith, offset-expected n n_in))))
      (λ (differ : q ≢ n). rest ∙ sym (item_at-next None ps (offset (following n) q) (offset n q) (offset-following n q n_in q_in differ)))
      (cases_eq q n)
  get-items_from (Some item ∷ ps) n q n_in q_in fits =
      let rest : map.get (items_from (following n) ps) q ≡ item_at ps (offset (following n) q) = get-items_from ps (following n) q (following-in_range n) q_in (omega arith) in
      ⊎_elim
      (λ (same : q ≡ n). ap (map.get (map.insert (items_from (following n) ps) n item)) same ∙ get-insert_same (items_from (following n) ps) n item ∙ sym (item_at-first (Some item) ps (offset n q) (omega (arith, offset-expected n n_in))))
      (λ (differ : q ≢ n). get-insert_other (items_from (following n) ps) n item q differ ∙ rest ∙ sym (item_at-next (Some item) ps (offset (following n) q) (offset n q) (offset-following n q n_in q_in differ)))
      (cases_eq q n)

  -- and nothing at a number that is no sequence number
  get-items_from_beyond : (ps : List (Option T)) (n q : ℕ) → n < 8192 → 8192 ≤ q → map.get (items_from n ps) q ≡ None
  unfolding items_from
  get-items_from_beyond [] n q n_in beyond = map.get-empty nat_cmp q
  get-items_from_beyond (None ∷ ps) n q n_in beyond = get-items_from_beyond ps (following n) q (following-in_range n) beyond
  get-items_from_beyond (Some item ∷ ps) n q n_in beyond =
      get-insert_other (items_from (following n) ps) n item q (λ same. absurd (omega arith)) ∙ get-items_from_beyond ps (following n) q (following-in_range n) beyond

  -- there are no more items than places
  pub len-items_from : (ps : List (Option T)) (n : ℕ) → map.len (items_from n ps) ≤ length ps
  unfolding items_from
  len-items_from [] n = omega (arith, map.len-empty nat_cmp T)
  len-items_from (None ∷ ps) n = let rest : map.len (items_from (following n) ps) ≤ length ps = len-items_from ps (following n) in omega arith
  len-items_from (Some item ∷ ps) n =
      let rest : map.len (items_from (following n) ps) ≤ length ps = len-items_from ps (following n) in
      let one_more : (b : Bool) (m : ℕ) → cond b m (m + 1) ≤ m + 1 = λ b m. elim b as (λ v. cond v m (m + 1) ≤ m + 1) [ true ↦ omega arith | false ↦ omega arith ] in
      let grown = map.len-insert nat_cmp_total (items_from (following n) ps) n item in
      let bound = one_more (map.contains_key (items_from (following n) ps) n) (map.len (items_from (following n) ps)) in
      omega (arith, grown, bound)

  -- the places are laid out as the window that is seen in them
  pub seen-laid_out : (e : ℕ) (ps : List (Option T)) → e < 8192 → length ps ≤ 8192 → IsLaidOut ps (seen e ps)
  seen-laid_out e ps e_in fits =
      record {
        wide = refl;
        items = λ q q_in. get-items_from ps e q e_in q_in fits;
        in_range = λ q h.
            ⊎_elim
            (λ (below : q < 8192). below)
            (λ (beyond : 8192 ≤ q). let nothing = get-items_from_beyond ps e q e_in beyond in absurd (cc))
            (cases_lt q 8192);
      }

  -- no other window that waits for the same number is laid out so
  one_window : (ps : List (Option T)) (v w : WindowView T) → v.expected ≡ w.expected → IsLaidOut ps v → IsLaidOut ps w → v ≡ w
  one_window ps v w same laid laid' =
      let free : (u : WindowView T) (q : ℕ) → IsLaidOut ps u → 8192 ≤ q → held_at u q ≡ None = λ u q out beyond. none (held_at u q) (λ h. let below = out.in_range q h in absurd (omega arith)) in
      Agree-same v w record {
        same_expected = same;
        same_width = sym laid.wide ∙ laid'.wide;
        same_items = λ q.
            ⊎_elim
            (λ (below : q < 8192). laid.items q below ∙ ap (λ e. item_at ps (offset e q)) same ∙ sym (laid'.items q below))
            (λ (beyond : 8192 ≤ q). free v q laid beyond ∙ sym (free w q laid' beyond))
            (cases_lt q 8192);
      }

  -- and so a window in whose ring the places stand is the one that is seen in them
  pub seen-is : (e : ℕ) (ps : List (Option T)) (w : WindowView T) → e < 8192 → length ps ≤ 8192 → e ≡ w.expected → IsLaidOut ps w → seen e ps ≡ w
  seen-is e ps w e_in fits same laid = one_window ps (seen e ps) w same (seen-laid_out e ps e_in fits) laid

  -- empty places are laid out as a window that holds nothing
  pub empty-laid_out : (first width : ℕ) → IsLaidOut (replicate width None) (empty_window {T = T} first width)
  empty-laid_out first width =
      record {
        wide = length-replicate width None;
        items = λ q q_in. map.get-empty nat_cmp q ∙ sym (item_at-replicate width (offset first q));
        in_range = λ q h. let nothing = map.get-empty {X = T} nat_cmp q in absurd (cc);
      }

  -- an item that is put at its place is held
  pub with_item-laid_out : (ps : List (Option T)) (w : WindowView T) (number : ℕ) (item : T) → w.expected < 8192 → number < 8192 → offset w.expected number < length ps → IsLaidOut ps w → IsLaidOut (slice_set ps (offset w.expected number) (Some item)) (with_item w number item)
  with_item-laid_out ps w number item e_in number_in within laid =
      let d : ℕ = offset w.expected number in
      record {
        wide = length-set ps d (Some item) ∙ laid.wide;
        items = λ q q_in.
            ⊎_elim
            (λ (same : q ≡ number). ap (map.get (map.insert w.held number item)) same ∙ get-insert_same w.held number item ∙ sym (get_or-set_same ps d (Some item) None within) ∙ ap (λ n. item_at (slice_set ps d (Some item)) (offset w.expected n)) (sym same))
            (λ (differ : q ≢ number).
            let apart : offset w.expected q ≢ d = λ same. differ (offset-injective w.expected q number e_in q_in number_in same) in
            get-insert_other w.held number item q differ ∙ laid.items q q_in ∙ sym (get_or-set_other ps d (offset w.expected q) (Some item) None apart))
            (cases_eq q number);
        in_range = λ q h.
            ⊎_elim
            (λ (same : q ≡ number). subst (λ n. n < 8192) (sym same) number_in)
            (λ (differ : q ≢ number). laid.in_range q (ap is_some (sym (get-insert_other w.held number item q differ)) ∙ h))
            (cases_eq q number);
      }

  -- where the first place is emptied the expected number's item is gone
  pub emptied-laid_out : (ps : List (Option T)) (w : WindowView T) → w.expected < 8192 → 0 < length ps → IsLaidOut ps w → IsLaidOut (slice_set ps 0 None) (record w { held = map.remove w.held w.expected })
  emptied-laid_out ps w e_in some laid =
      let e : ℕ = w.expected in
      let itself : offset e e ≡ 0 = offset-expected e e_in in
      record {
        wide = length-set ps 0 None ∙ laid.wide;
        items = λ q q_in.
            ⊎_elim
            (λ (same : q ≡ e). ap (map.get (map.remove w.held e)) same ∙ get-remove_same w.held e ∙ sym (get_or-set_same ps 0 None None some) ∙ ap (item_at (slice_set ps 0 None)) (sym (ap (offset e) same ∙ itself)))
            (λ (differ : q ≢ e).
            let apart : offset e q ≢ 0 = λ same. differ (offset-injective e q e e_in q_in e_in (same ∙ sym itself)) in
            get-remove_other w.held e q differ ∙ laid.items q q_in ∙ sym (get_or-set_other ps 0 (offset e q) None None apart))
            (cases_eq q e);
        in_range = λ q h. laid.in_range q (held_before w e q h).1;
      }
