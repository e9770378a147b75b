-- A window moves on over empty places at once.
use Rattle.std.proofs.Common.{◌≡◌, ℕ, suc, ◌+◌, ◌<◌, ◌≤◌, ⊎_elim, List, [], ◌∷◌, length, Option, None, Some, is_some, refl, ap, sym, subst, ◌∙◌, arith}
use Rattle.std.specs.Ordering.{nat_cmp}
use Rattle.std.specs.FinMap as map
use Rattle.std.proofs.lemmas.Bool.{cases_lt}
use Rattle.std.proofs.lemmas.List.{get_or_past}
use Rattle.reorder.specs.Number.{offset, following, number_ahead}
use Rattle.reorder.specs.View.{WindowView, held_at, IsHeld, IsLawful, moved_on_by}
use Rattle.reorder.specs.Inside.Places.{item_at, IsLaidOut, items_from, seen, IsKept}
use Rattle.reorder.specs.Inside.Ring.{turned, IsEmptyFront}
use Rattle.reorder.proofs.Offsets.{offset-number_ahead, number_ahead-offset, offset-nearer, offset-behind}
use Rattle.reorder.proofs.Items.{none}
use Rattle.reorder.proofs.LaidOut.{seen-is}
use Rattle.reorder.proofs.OpenNumbers.{AreOpen}
use Rattle.reorder.proofs.Rings.{length-turned, item_at-turned_empty}
use Rattle.reorder.proofs.WindowFields.{laid}

module _ {T : Type 0} where
  -- empty places hold nothing
  items_from-empty : (ps : List (Option T)) (n : ℕ) → ((k : ℕ) → k < length ps → item_at ps k ≡ None) → map.len (items_from n ps) ≡ 0
  unfolding items_from
  items_from-empty [] n empty = map.len-empty nat_cmp T
  items_from-empty (None ∷ ps) n empty = items_from-empty ps (following n) (λ k below. empty (suc k) (omega arith))
  items_from-empty (Some item ∷ ps) n empty = let first : Some item ≡ None = empty 0 (omega arith) in absurd (cc)

  -- places that come past empty ones stand for the window that passed as many numbers
  moved_on_by-laid_out : (ps qs : List (Option T)) (w : WindowView T) (k : ℕ) → w.expected < 8192 → k + length ps ≤ 8192 → length qs ≡ length ps → ((i : ℕ) → item_at qs i ≡ item_at ps (i + k)) → ((i : ℕ) → i < k → item_at ps i ≡ None) → IsLaidOut ps w → IsLaidOut qs (moved_on_by w k)
  moved_on_by-laid_out ps qs w k e_in fits as_many moved empty out =
      let e : ℕ = w.expected in
      record {
        wide = as_many ∙ out.wide;
        items = λ q q_in.
            ⊎_elim
            (λ (passed : offset e q < k).
            let past : length ps ≤ offset (number_ahead e k) q + k = omega (arith, offset-behind e k q e_in q_in (omega arith) passed) in
            out.items q q_in ∙ empty (offset e q) passed ∙ sym (get_or_past ps (offset (number_ahead e k) q + k) None past) ∙ sym (moved (offset (number_ahead e k) q)))
            (λ (ahead : k ≤ offset e q). out.items q q_in ∙ ap (item_at ps) (sym (offset-nearer e k q e_in q_in ahead)) ∙ sym (moved (offset (number_ahead e k) q)))
            (cases_lt (offset e q) k);
        in_range = out.in_range;
      }

  -- a window stays lawful as it passes numbers that are not held
  moved_on_by-lawful : (w : WindowView T) (k : ℕ) → IsLawful w → AreOpen w k → IsLawful (moved_on_by w k)
  moved_on_by-lawful w k lawful free =
      record {
        expected_in_range = omega arith;
        width_positive = lawful.width_positive;
        width_in_range = lawful.width_in_range;
        held_in_range = lawful.held_in_range;
        held_within = λ q held.
            let q_in = lawful.held_in_range q held in
            let within = lawful.held_within q held in
            let e_in = lawful.expected_in_range in
            ⊎_elim
            (λ (passed : offset w.expected q < k).
            absurd (free (offset w.expected q) passed (subst (λ n. IsHeld w n) (sym (number_ahead-offset w.expected q e_in q_in)) held)))
            (λ (ahead : k ≤ offset w.expected q). let nearer = offset-nearer w.expected k q e_in q_in ahead in omega arith)
            (cases_lt (offset w.expected q) k);
      }

  -- So many numbers from the expected one on are open, fewer than the window is wide, and the next
  -- one is held where more are asked about.
  pub record IsOpen (w : WindowView T) (most count : ℕ) : Type 0 where
    pub none_held : AreOpen w count
    pub next_is_held : count < most → IsHeld w (number_ahead w.expected count)
    pub within : count < w.width

  module _ (e count : ℕ) (ps : List (Option T)) (kept : IsKept e count ps) where
    abbrev window : WindowView T
    window = seen e ps

    -- what is held at an offset
    held-ahead : (k : ℕ) → k < 8192 → held_at window (number_ahead e k) ≡ item_at ps k
    held-ahead k few =
        let out = laid e count ps kept in
        out.items (number_ahead e k) (omega arith) ∙ ap (item_at ps) (offset-number_ahead e k kept.lawful.expected_in_range few)

    -- numbers are open where places are empty
    AreOpen-empty : (k : ℕ) → k ≤ 8192 → ((i : ℕ) → i < k → item_at ps i ≡ None) → AreOpen window k
    AreOpen-empty k few empty i below held =
        let nothing = held-ahead i (omega arith) ∙ empty i below in
        let found = sym (ap is_some nothing) ∙ held in
        cc

    -- and places are empty where numbers are open
    empty-AreOpen : (k : ℕ) → k ≤ 8192 → AreOpen window k → (i : ℕ) → i < k → item_at ps i ≡ None
    empty-AreOpen k few free i below = sym (held-ahead i (omega arith)) ∙ none (held_at window (number_ahead e i)) (free i below)

    -- where something is held, an empty front of the places says how many numbers are open
    pub IsOpen-front : (most k : ℕ) → 0 < map.len window.held → IsEmptyFront ps most k → IsOpen window most k
    IsOpen-front most k some front =
        let widest = kept.lawful.width_in_range in
        let stops : k < length ps =
        ⊎_elim
        (λ (stops : k < length ps). stops)
        (λ (all : length ps ≤ k). let nothing = items_from-empty ps e (λ i below. front.empty i (omega arith)) in absurd (omega arith))
        (cases_lt k (length ps)) in
        record {
          none_held = AreOpen-empty k (omega arith) front.empty;
          next_is_held = λ more. ap is_some (held-ahead k (omega arith)) ∙ front.next more stops;
          within = stops;
        }

    -- so many open numbers are passed as the ring is turned
    module _ (k : ℕ) (few : k ≤ length ps) (free : AreOpen window k) where
      seen-turned : seen (number_ahead e k) (turned k ps) ≡ moved_on_by window k
      seen-turned =
          let widest = kept.lawful.width_in_range in
          let as_many = length-turned ps k few in
          let empty = empty-AreOpen k (omega arith) free in
          seen-is (number_ahead e k) (turned k ps) (moved_on_by window k) (omega arith) (omega arith) refl (moved_on_by-laid_out ps (turned k ps) window k kept.lawful.expected_in_range (omega arith) as_many (λ i. item_at-turned_empty ps k i few empty) empty (laid e count ps kept))

      kept-turned : IsKept (number_ahead e k) count (turned k ps)
      kept-turned =
          record {
            lawful = subst (λ (v : WindowView T). IsLawful v) (sym seen-turned) (moved_on_by-lawful window k kept.lawful free);
            counted = kept.counted ∙ ap (λ (v : WindowView T). map.len v.held) (sym seen-turned);
          }

    -- and the fields are those of the window that passed as many numbers
    module _ (w : WindowView T) (is : window ≡ w) (k : ℕ) (within : k ≤ w.width) where
      pub few-passed : k ≤ length ps
      few-passed = let same_width = ap (λ (v : WindowView T). v.width) is in omega arith

      module _ (free : AreOpen w k) (e' count' : ℕ) (qs : List (Option T)) (same_e : e' ≡ e) (same_count : count' ≡ count) (is_turned : qs ≡ turned k ps) where
        free_before : AreOpen window k
        free_before = subst (λ (v : WindowView T). AreOpen v k) (sym is) free

        pub seen-passed : seen (number_ahead e' k) qs ≡ moved_on_by w k
        seen-passed = (λ i. seen (number_ahead (same_e i) k) (is_turned i)) ∙ seen-turned k few-passed free_before ∙ ap (λ (v : WindowView T). moved_on_by v k) is

        pub kept-passed : IsKept (number_ahead e' k) count' qs
        kept-passed =
            subst (λ n. IsKept (number_ahead n k) count' qs) (sym same_e)
            (subst (λ n. IsKept (number_ahead e k) n qs) (sym same_count)
            (subst (λ (rs : List (Option T)). IsKept (number_ahead e k) count rs) (sym is_turned) (kept-turned k few-passed free_before)))
