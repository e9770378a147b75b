-- The numbers from the expected one on that are open: those before the nearest that is held.
use Rattle.std.proofs.Common.{◌≡◌, ◌≢◌, ℕ, suc, ◌+◌, ◌<◌, ◌≤◌, true, false, ◌||◌, min, ⊎_elim, ◌⊎◌, inl, inr, List, [], ◌∷◌, refl, ap, sym, subst, ◌∙◌, arith}
use Rattle.std.specs.Ordering.{nat_cmp, eq_by_cmp, is_eq}
use Rattle.std.specs.declared.cmp.Ordering.TheVariants.{Less, Equal, Greater}
use Rattle.std.specs.Cmp.{nat_cmp_total, eq_by_cmp_equiv}
use Rattle.std.specs.List.{list_any}
use Rattle.std.specs.FinMap as map
use Rattle.std.proofs.lemmas.Bool.{cases_eq, cases_lt}
use Rattle.reorder.specs.Number.{offset, number_ahead}
use Rattle.reorder.specs.View.{WindowView, offset_in, IsHeld, IsLawful, moved_on, moved_on_by}
use Rattle.reorder.specs.Verdicts.{least_offset, open_before}
use Rattle.reorder.proofs.Offsets.{offset-number_ahead, number_ahead-offset, number_ahead-zero, number_ahead-following}

-- a number is among some
abbrev IsAmong : ℕ → List ℕ → Type 0
IsAmong q numbers = list_any (eq_by_cmp nat_cmp q) numbers ≡ true

-- two numbers that tie are one
tied : (q n : ℕ) → eq_by_cmp nat_cmp q n ≡ true → q ≡ n
tied q n ties =
    elim (nat_cmp q n) as (λ o. nat_cmp q n ≡ o → is_eq o ≡ true → q ≡ n) [
      | Less ↦ λ _ wrong. absurd (cc)
      | Equal ↦ λ same _. map.nat_cmp-IsAntisymmetric q n same
      | Greater ↦ λ _ wrong. absurd (cc)
    ] refl ties

-- the least offset is that of none of them exceeded
least_offset-le : (e q : ℕ) (numbers : List ℕ) → IsAmong q numbers → least_offset e numbers ≤ offset e q
least_offset-le e q [] among = absurd (cc)
least_offset-le e q (n ∷ numbers) among =
    elim (eq_by_cmp nat_cmp q n) as (λ t. eq_by_cmp nat_cmp q n ≡ t → (t || list_any (eq_by_cmp nat_cmp q) numbers) ≡ true → min (offset e n) (least_offset e numbers) ≤ offset e q) [
      | true ↦ λ ties _. let same : offset e q ≡ offset e n = ap (offset e) (tied q n ties) in omega arith
      | false ↦ λ _ rest. let later = least_offset-le e q numbers rest in omega arith
    ] refl among

-- and what none of them is below is not above it
le-least_offset : (e m : ℕ) (numbers : List ℕ) → m ≤ 8192 → ((q : ℕ) → IsAmong q numbers → m ≤ offset e q) → m ≤ least_offset e numbers
le-least_offset e m [] fits below = fits
le-least_offset e m (n ∷ numbers) fits below =
    let here : m ≤ offset e n = below n (ap (λ t. t || list_any (eq_by_cmp nat_cmp n) numbers) ((eq_by_cmp_equiv nat_cmp_total).refl n)) in
    let rest : m ≤ least_offset e numbers = le-least_offset e m numbers fits (λ q among. below q (
    elim (eq_by_cmp nat_cmp q n) as (λ t. (t || list_any (eq_by_cmp nat_cmp q) numbers) ≡ true) [ true ↦ refl | false ↦ among ])) in
    omega arith

module _ {T : Type 0} (w : WindowView T) where
  -- a held number is among the keys
  held-IsAmong : (q : ℕ) → IsHeld w q → IsAmong q (map.keys w.held)
  held-IsAmong q held = sym (map.contains_key-keys w.held q) ∙ held

  -- and what is among the keys is held
  IsAmong-held : (q : ℕ) → IsAmong q (map.keys w.held) → IsHeld w q
  IsAmong-held q among = map.contains_key-keys w.held q ∙ among

  -- the least offset that is held is no greater than that of a held number
  pub least_offset-le_held : (q : ℕ) → IsHeld w q → least_offset w.expected (map.keys w.held) ≤ offset_in w q
  least_offset-le_held q held = least_offset-le w.expected q (map.keys w.held) (held-IsAmong q held)

  -- so many numbers from the expected one on are open: none of them is held
  abbrev pub AreOpen : ℕ → Type 0
  AreOpen count = (k : ℕ) → k < count → ¬ (IsHeld w (number_ahead w.expected k))

  module _ (lawful : IsLawful w) (count : ℕ) (free : AreOpen count) where
    -- what is held lies no nearer
    AreOpen-le_held : (q : ℕ) → IsHeld w q → count ≤ offset_in w q
    AreOpen-le_held q held =
        ⊎_elim
        (λ (nearer : offset_in w q < count).
        let is = number_ahead-offset w.expected q lawful.expected_in_range (lawful.held_in_range q held) in
        absurd (free (offset_in w q) nearer (subst (λ n. IsHeld w n) (sym is) held)))
        (λ (as_far : count ≤ offset_in w q). as_far)
        (cases_lt (offset_in w q) count)

    -- nor does the nearest that is held
    AreOpen-le_least : count ≤ 8192 → count ≤ least_offset w.expected (map.keys w.held)
    AreOpen-le_least few = le-least_offset w.expected count (map.keys w.held) few (λ q among. AreOpen-le_held q (IsAmong-held q among))

    -- they are all that are open before a number that comes next
    pub open_before-at_number : (number : ℕ) → count ≡ offset_in w number → count ≡ open_before w number
    open_before-at_number number reached =
        let least = AreOpen-le_least (omega arith) in
        omega arith

    -- and all that are open before any number after them where what comes next is held
    pub open_before-at_held : (number : ℕ) → count ≤ offset_in w number → IsHeld w (number_ahead w.expected count) → count ≡ open_before w number
    open_before-at_held number before held =
        let least = AreOpen-le_least (omega arith) in
        let nearest = least_offset-le_held (number_ahead w.expected count) held in
        let is = offset-number_ahead w.expected count lawful.expected_in_range (omega arith) in
        omega arith

  module _ (number : ℕ) where
    -- no more are open before a number than lie before it
    pub open_before-le : open_before w number ≤ offset_in w number
    open_before-le = omega arith

    -- nor more than lie before a held number
    pub open_before-le_held : (q : ℕ) → IsHeld w q → open_before w number ≤ offset_in w q
    open_before-le_held q held = let nearest = least_offset-le_held q held in omega arith

    -- those are open
    pub AreOpen-open_before : IsLawful w → AreOpen (open_before w number)
    AreOpen-open_before lawful k below held =
        let nearest = least_offset-le_held (number_ahead w.expected k) held in
        let is = offset-number_ahead w.expected k lawful.expected_in_range (omega arith) in
        absurd (omega arith)

    -- after them comes the number, or one that is held
    pub open_before-reaches : IsLawful w → (open_before w number ≡ offset_in w number) ⊎ (IsHeld w (number_ahead w.expected (open_before w number)))
    open_before-reaches lawful =
        ⊎_elim
        (λ (before : open_before w number < offset_in w number).
        let is : least_offset w.expected (map.keys w.held) ≡ open_before w number = omega arith in
        inr (at_least w.expected (open_before w number) (map.keys w.held) lawful.expected_in_range (omega arith) (λ q among. lawful.held_in_range q (IsAmong-held q among)) IsAmong-held is))
        (λ (reached : offset_in w number ≤ open_before w number). inl (omega arith))
        (cases_lt (open_before w number) (offset_in w number))
      where
        at_least : (e least : ℕ) (numbers : List ℕ) → e < 8192 → least < 8192 → ((q : ℕ) → IsAmong q numbers → q < 8192) → ((q : ℕ) → IsAmong q numbers → IsHeld w q) → least_offset e numbers ≡ least → IsHeld w (number_ahead e least)
        at_least e least [] in_range small below held is = absurd (omega arith)
        at_least e least (n ∷ numbers) in_range small below held is =
            let first : IsAmong n (n ∷ numbers) = ap (λ t. t || list_any (eq_by_cmp nat_cmp n) numbers) ((eq_by_cmp_equiv nat_cmp_total).refl n) in
            let later : (q : ℕ) → IsAmong q numbers → IsAmong q (n ∷ numbers) = λ q among. elim (eq_by_cmp nat_cmp q n) as (λ t. (t || list_any (eq_by_cmp nat_cmp q) numbers) ≡ true) [ true ↦ refl | false ↦ among ] in
            ⊎_elim
            (λ (here : offset e n ≡ least). subst (IsHeld w) (sym (number_ahead-offset e n in_range (below n first)) ∙ ap (number_ahead e) here) (held n first))
            (λ (differ : offset e n ≢ least). at_least e least numbers in_range small (λ q among. below q (later q among)) (λ q among. held q (later q among)) (omega arith))
            (cases_eq (offset e n) least)

-- windows that move on over open numbers
module _ {T : Type 0} (w : WindowView T) where
  -- over none of them
  pub moved_on_by-zero : w.expected < 8192 → moved_on_by w 0 ≡ w
  moved_on_by-zero in_range = ap (λ e. record w { expected = e }) (number_ahead-zero w.expected in_range)

  -- over one first, and then over the others
  pub moved_on_by-first : (count : ℕ) → moved_on_by (moved_on w) count ≡ moved_on_by w (suc count)
  moved_on_by-first count = ap (λ e. record w { expected = e }) (number_ahead-following w.expected count ∙ ap (number_ahead w.expected) (omega arith))

  -- where some are open the expected number is the first
  pub AreOpen-first : (count : ℕ) → w.expected < 8192 → AreOpen w (suc count) → ¬ (IsHeld w w.expected)
  AreOpen-first count in_range free = subst (λ n. ¬ (IsHeld w n)) (number_ahead-zero w.expected in_range) (free 0 (omega arith))

  -- and the others are open once the window has moved on
  pub AreOpen-rest : (count : ℕ) → AreOpen w (suc count) → AreOpen (moved_on w) count
  AreOpen-rest count free k below = subst (λ n. ¬ (IsHeld w n)) (sym (number_ahead-following w.expected k)) (free (k + 1) (omega arith))
