-- How many numbers are declared lost up to a number.
use Rattle.std.proofs.Common.{◌≡◌, ◌≢◌, ℕ, zero, suc, ◌<◌, ◌≤◌, true, false, ◌&&◌, cond, nat_lt, ⊎_elim, ◌⊎◌, inl, inr, refl, ap, sym, subst, ◌∙◌, arith}
use Rattle.std.specs.FinMap as map
use Rattle.std.proofs.lemmas.Bool.{cases_eq, lt-ltb, ltb-true}
use Rattle.reorder.specs.Number.{number_ahead}
use Rattle.reorder.specs.View.{WindowView, offset_in, IsHeld, IsLawful, moved_on, moved_on_by}
use Rattle.reorder.specs.Verdicts.{open_before, has_gap_to, declared_count, IsDeclared}
use Rattle.reorder.specs.declared.verdict.Declared.TheVariants.{Lost}
use Rattle.reorder.specs.Calls.{LosesInTurn}
use Rattle.reorder.proofs.Offsets.{number_ahead-offset}
use Rattle.reorder.proofs.OpenNumbers.{AreOpen, open_before-le, open_before-le_held, AreOpen-open_before, open_before-reaches, AreOpen-first, AreOpen-rest, moved_on_by-zero, moved_on_by-first}

-- what a gap up to a number is
gap : (d n : ℕ) → 0 < d → d < 4096 → 0 < n → (nat_lt 0 d && nat_lt d 4096 && nat_lt 0 n) ≡ true
gap d n some near held =
    ap (λ t. t && nat_lt d 4096 && nat_lt 0 n) (lt-ltb 0 d some)
    ∙ ap (λ t. t && nat_lt 0 n) (lt-ltb d 4096 near)
    ∙ lt-ltb 0 n held

-- and what is none
no_gap : (d n count : ℕ) → ((d ≡ 0) ⊎ (4096 ≤ d)) ⊎ (n ≡ 0) → cond (nat_lt 0 d && nat_lt d 4096 && nat_lt 0 n) count 0 ≡ 0
no_gap d n count none =
    elim (nat_lt 0 d) as (λ t. nat_lt 0 d ≡ t → cond (t && nat_lt d 4096 && nat_lt 0 n) count 0 ≡ 0) [
      | false ↦ λ _. refl
      | true ↦ λ some. elim (nat_lt d 4096) as (λ t. nat_lt d 4096 ≡ t → cond (t && nat_lt 0 n) count 0 ≡ 0) [
        | false ↦ λ _. refl
        | true ↦ λ near. elim (nat_lt 0 n) as (λ t. nat_lt 0 n ≡ t → cond t count 0 ≡ 0) [
          | false ↦ λ _. refl
          | true ↦ λ held.
              let less = ltb-true 0 d some in
              let below = ltb-true d 4096 near in
              let more = ltb-true 0 n held in
              ⊎_elim (λ edge. ⊎_elim (λ zero. absurd (omega arith)) (λ far. absurd (omega arith)) edge) (λ zero. absurd (omega arith)) none
        ] refl
      ] refl
    ] refl

-- of what a gap consists
gap_parts : (d n : ℕ) → (nat_lt 0 d && nat_lt d 4096 && nat_lt 0 n) ≡ true → (0 < d) × (d < 4096) × (0 < n)
gap_parts d n all =
    elim (nat_lt 0 d) as (λ t. nat_lt 0 d ≡ t → (t && nat_lt d 4096 && nat_lt 0 n) ≡ true → (0 < d) × (d < 4096) × (0 < n)) [
      | false ↦ λ _ wrong. absurd (cc)
      | true ↦ λ some. elim (nat_lt d 4096) as (λ t. nat_lt d 4096 ≡ t → (t && nat_lt 0 n) ≡ true → (0 < d) × (d < 4096) × (0 < n)) [
        | false ↦ λ _ wrong. absurd (cc)
        | true ↦ λ near held. (ltb-true 0 d some, ltb-true d 4096 near, ltb-true 0 n held)
      ] refl
    ] refl all

module _ {T : Type 0} (w : WindowView T) where
  -- where there is no gap up to the number none is declared
  pub declared_count-none : (number : ℕ) → ((offset_in w number ≡ 0) ⊎ (4096 ≤ offset_in w number)) ⊎ (map.len w.held ≡ 0) → declared_count w number ≡ 0
  declared_count-none number none = no_gap (offset_in w number) (map.len w.held) (open_before w number) none

  -- where there is one, those that are open before it
  pub declared_count-gap : (number : ℕ) → 0 < offset_in w number → offset_in w number < 4096 → 0 < map.len w.held → declared_count w number ≡ open_before w number
  declared_count-gap number some near held = ap (λ t. cond t (open_before w number) 0) (gap (offset_in w number) (map.len w.held) some near held)

  -- So many numbers from the expected one on may be declared lost: they are open, and if there are
  -- any, something is held.
  pub record AreLost (count : ℕ) : Type 0 where
    pub free : AreOpen w count
    pub some_held : 0 < count → 0 < map.len w.held

  -- none
  pub AreLost-none : AreLost 0
  AreLost-none = record { free = λ k below. absurd (omega arith); some_held = λ some. absurd (omega arith) }

  -- what `declare_to` declares may be declared lost
  pub AreLost-declared_count : (number : ℕ) → IsLawful w → AreLost (declared_count w number)
  AreLost-declared_count number lawful =
      elim (has_gap_to w number) as (λ t. has_gap_to w number ≡ t → AreLost (cond t (open_before w number) 0)) [
        | false ↦ λ _. AreLost-none
        | true ↦ λ gap.
            let parts = gap_parts (offset_in w number) (map.len w.held) gap in
            record { free = AreOpen-open_before w number lawful; some_held = λ _. parts.2 }
      ] refl

module _ {T : Type 0} where
  -- numbers that may be declared lost are declared lost one after another
  pub AreLost-LosesInTurn : (w : WindowView T) (count : ℕ) → w.expected < 8192 → AreLost w count → LosesInTurn w count (moved_on_by w count)
  AreLost-LosesInTurn w zero in_range lost = moved_on_by-zero w in_range
  AreLost-LosesInTurn w (suc count) in_range lost =
      let rest : AreLost (moved_on w) count = record { free = AreOpen-rest w count lost.free; some_held = λ _. lost.some_held (omega arith) } in
      let later = AreLost-LosesInTurn (moved_on w) count (omega arith) rest in
      ((AreOpen-first w count in_range lost.free, lost.some_held (omega arith), refl), subst (λ (v : WindowView T). LosesInTurn (moved_on w) count v) (moved_on_by-first w count) later)

  module _ (w : WindowView T) (number : ℕ) (lawful : IsLawful w) where
    -- none is declared beyond the number
    pub declared_count-le : declared_count w number ≤ offset_in w number
    declared_count-le = elim (has_gap_to w number) as (λ t. cond t (open_before w number) 0 ≤ offset_in w number) [ true ↦ open_before-le w number | false ↦ omega arith ]

    -- nor beyond a held number
    pub declared_count-le_held : (q : ℕ) → IsHeld w q → declared_count w number ≤ offset_in w q
    declared_count-le_held q held = elim (has_gap_to w number) as (λ t. cond t (open_before w number) 0 ≤ offset_in w q) [ true ↦ open_before-le_held w number q held | false ↦ omega arith ]

    -- where something is held the number is reached or the next number is held
    pub declared_count-reaches : 0 < offset_in w number → offset_in w number < 4096 → 0 < map.len w.held → (declared_count w number ≡ offset_in w number) ⊎ (IsHeld w (number_ahead w.expected (declared_count w number)))
    declared_count-reaches some near held =
        let all = declared_count-gap w number some near held in
        ⊎_elim
        (λ (reached : open_before w number ≡ offset_in w number). inl (all ∙ reached))
        (λ (next : IsHeld w (number_ahead w.expected (open_before w number))). inr (subst (λ n. IsHeld w (number_ahead w.expected n)) (sym all) next))
        (open_before-reaches w number lawful)

    -- then the number is reached, or `declare` does not answer `Lost`
    pub declared_count-ends : number < 8192 → 0 < offset_in w number → offset_in w number < 4096 → (number_ahead w.expected (declared_count w number) ≡ number) ⊎ ((lost : ℕ) → ¬ (IsDeclared (moved_on_by w (declared_count w number)) (Lost lost)))
    declared_count-ends in_range some near =
        ⊎_elim
        (λ (none : map.len w.held ≡ 0). inr (λ lost answer. let held = answer.1 in absurd (omega arith)))
        (λ (held : map.len w.held ≢ 0).
        ⊎_elim
        (λ (reached : declared_count w number ≡ offset_in w number). inl (ap (number_ahead w.expected) reached ∙ number_ahead-offset w.expected number lawful.expected_in_range in_range))
        (λ (next : IsHeld w (number_ahead w.expected (declared_count w number))). inr (λ lost answer. answer.0 next))
        (declared_count-reaches some near (omega arith)))
        (cases_eq (map.len w.held) 0)
