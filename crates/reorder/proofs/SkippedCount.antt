-- How many numbers are skipped up to a number.
use Rattle.std.proofs.Common.{◌≡◌, ◌≢◌, ℕ, zero, suc, ◌<◌, ◌≤◌, true, false, cond, nat_lt, ⊎_elim, ◌⊎◌, inl, inr, sym, ap, subst, refl, ◌∙◌, arith}
use Rattle.std.specs.FinMap as map
use Rattle.std.proofs.lemmas.Bool.{cases_eq, cases_lt, lt-ltb, ltb-true}
use Rattle.reorder.specs.Number.{number_ahead}
use Rattle.reorder.specs.View.{WindowView, offset_in, IsHeld, IsLawful, moved_on, moved_on_by}
use Rattle.reorder.specs.Verdicts.{open_before, declared_count, skipped_count}
use Rattle.reorder.specs.Calls.{PassesInTurn}
use Rattle.reorder.proofs.Offsets.{number_ahead-offset}
use Rattle.reorder.proofs.OpenNumbers.{AreOpen, open_before-at_number, open_before-at_held, open_before-le, open_before-le_held, AreOpen-open_before, open_before-reaches, AreOpen-first, AreOpen-rest, moved_on_by-zero, moved_on_by-first}
use Rattle.reorder.proofs.DeclaredCount.{declared_count-none, declared_count-gap}

module _ {T : Type 0} (w : WindowView T) (number : ℕ) where
  -- where the number lies ahead, those that are open before it
  pub skipped_count-ahead : offset_in w number < 4096 → skipped_count w number ≡ open_before w number
  skipped_count-ahead near = ap (λ t. cond t (open_before w number) 0) (lt-ltb (offset_in w number) 4096 near)

  -- where it is the expected one or lies behind, none
  pub skipped_count-none : (offset_in w number ≡ 0) ⊎ (4096 ≤ offset_in w number) → skipped_count w number ≡ 0
  skipped_count-none none =
      elim (nat_lt (offset_in w number) 4096) as (λ t. nat_lt (offset_in w number) 4096 ≡ t → cond t (open_before w number) 0 ≡ 0) [
        | false ↦ λ _. refl
        | true ↦ λ less.
            let near = ltb-true (offset_in w number) 4096 less in
            let few = open_before-le w number in
            ⊎_elim
            (λ (itself : offset_in w number ≡ 0). omega arith)
            (λ (behind : 4096 ≤ offset_in w number). absurd (omega arith))
            none
      ] refl

  -- never more than are open
  skipped_count-le_open : skipped_count w number ≤ open_before w number
  skipped_count-le_open = elim (nat_lt (offset_in w number) 4096) as (λ t. cond t (open_before w number) 0 ≤ open_before w number) [ true ↦ omega arith | false ↦ omega arith ]

  -- none is skipped beyond the number
  pub skipped_count-le : skipped_count w number ≤ offset_in w number
  skipped_count-le = let few = skipped_count-le_open in let bound = open_before-le w number in omega arith

  -- nor beyond a held number
  pub skipped_count-le_held : (q : ℕ) → IsHeld w q → skipped_count w number ≤ offset_in w q
  skipped_count-le_held q held = let few = skipped_count-le_open in let bound = open_before-le_held w number q held in omega arith

  -- where something is held, as many are skipped as are declared lost
  pub skipped_count-declared : 0 < map.len w.held → skipped_count w number ≡ declared_count w number
  skipped_count-declared held =
      ⊎_elim
      (λ (itself : offset_in w number ≡ 0). skipped_count-none (inl itself) ∙ sym (declared_count-none w number (inl (inl itself))))
      (λ (apart : offset_in w number ≢ 0).
      ⊎_elim
      (λ (near : offset_in w number < 4096). skipped_count-ahead near ∙ sym (declared_count-gap w number (omega arith) near held))
      (λ (behind : 4096 ≤ offset_in w number). skipped_count-none (inr behind) ∙ sym (declared_count-none w number (inl (inr behind))))
      (cases_lt (offset_in w number) 4096))
      (cases_eq (offset_in w number) 0)

  module _ (lawful : IsLawful w) where
    -- those that are skipped are open
    pub AreOpen-skipped_count : AreOpen w (skipped_count w number)
    AreOpen-skipped_count k below =
        let few = skipped_count-le_open in
        AreOpen-open_before w number lawful k (omega arith)

    -- after them comes the number, or one that is held
    pub skipped_count-reaches : offset_in w number < 4096 → (skipped_count w number ≡ offset_in w number) ⊎ (IsHeld w (number_ahead w.expected (skipped_count w number)))
    skipped_count-reaches near =
        let all = skipped_count-ahead near in
        ⊎_elim
        (λ (reached : open_before w number ≡ offset_in w number). inl (all ∙ reached))
        (λ (next : IsHeld w (number_ahead w.expected (open_before w number))). inr (subst (λ n. IsHeld w (number_ahead w.expected n)) (sym all) next))
        (open_before-reaches w number lawful)

    -- so that the number is expected then, or the expected number is held
    pub skipped_count-ends : number < 8192 → offset_in w number < 4096 → (number_ahead w.expected (skipped_count w number) ≡ number) ⊎ (IsHeld w (number_ahead w.expected (skipped_count w number)))
    skipped_count-ends in_range near =
        ⊎_elim
        (λ (reached : skipped_count w number ≡ offset_in w number). inl (ap (number_ahead w.expected) reached ∙ number_ahead-offset w.expected number lawful.expected_in_range in_range))
        (λ (next : IsHeld w (number_ahead w.expected (skipped_count w number))). inr next)
        (skipped_count-reaches near)

    module _ (count : ℕ) (free : AreOpen w count) where
      -- the number is reached
      pub skipped_count-reached : count ≡ offset_in w number → count < 4096 → count ≡ skipped_count w number
      skipped_count-reached reached near = open_before-at_number w lawful count free number reached ∙ sym (skipped_count-ahead (omega arith))

      -- the next number is held
      pub skipped_count-at_held : count < offset_in w number → offset_in w number < 4096 → IsHeld w (number_ahead w.expected count) → count ≡ skipped_count w number
      skipped_count-at_held before near held = open_before-at_held w lawful count free number (omega arith) held ∙ sym (skipped_count-ahead near)

module _ {T : Type 0} where
  -- a window moves on over open numbers one after another
  pub AreOpen-PassesInTurn : (w : WindowView T) (count : ℕ) → w.expected < 8192 → AreOpen w count → PassesInTurn w count (moved_on_by w count)
  AreOpen-PassesInTurn w zero in_range free = moved_on_by-zero w in_range
  AreOpen-PassesInTurn w (suc count) in_range free =
      let later = AreOpen-PassesInTurn (moved_on w) count (omega arith) (AreOpen-rest w count free) in
      (AreOpen-first w count in_range free, subst (λ (v : WindowView T). PassesInTurn (moved_on w) count v) (moved_on_by-first w count) later)
