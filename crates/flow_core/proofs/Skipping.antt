-- What a skip up to a number loses, and what it leaves.
use Rattle.std.proofs.Common.{◌≡◌, ℕ, ◌<◌, ◌≤◌, ◌↔◌, ◌⊎◌, inl, inr, Bool, true, false, IsTrue, refl, sym, ◌∙◌, arith}
use Rattle.std.proofs.lemmas.Bool.{cases_lt}
use Rattle.std.specs.Cmp.{nat_cmp_total}
use Rattle.std.specs.FinMap.{nat_cmp-IsAntisymmetric}
use Rattle.std.specs.FinMap as map
use Rattle.docsis_wire.specs.declared.segment.Segment.{Segment}
use Rattle.flow_core.specs.Fates.{Fates, number_of, IsKeptAs, IsLost, IsOpen, IsExpected, HasLaterKept}
use Rattle.flow_core.specs.Events.{IsAhead, IsDeclaredTo, DeclaresTo, IsSkippedTo, SkipsTo}
use Rattle.flow_core.proofs.Deciding.{IsAhead-once, IsSkippedTo-decided, open_or_settled, skipped-declared, declared-skipped}
use Rattle.flow_core.proofs.Outcome.{open_and_settled}

-- an open index does not lie before the expected one
open-from : (fates : Fates) (x i : ℕ) → IsExpected fates x → IsOpen fates i → x ≤ i
open-from fates x i expected free =
    elim (cases_lt i x) [
      | inl below ↦ absurd (open_and_settled fates i free (expected.settled i below))
      | inr from ↦ from
    ]

module _ (first x number : ℕ) (fates after : Fates) (any : Bool) (skips : SkipsTo first x number any fates after) where
  -- each open index before that of the number is lost
  pub skip-loses : (i end : ℕ) → IsExpected fates x → IsAhead first x number end → i < end → IsOpen fates i → IsLost after i
  skip-loses i end expected ahead before free =
      skips.lost i (record { end = end; ahead = ahead; from = open-from fates x i expected free; before = before; open_itself = free })

  -- what was kept is kept as before
  pub skip-keeps : (i : ℕ) (segment : Segment) → IsKeptAs after i segment ↔ IsKeptAs fates i segment
  skip-keeps i segment =
      elim (IsSkippedTo-decided first x number fates i) [
        | inl p ↦ (λ kept. (let lost = skips.lost i p in absurd cc), λ kept. (let free = p.open_itself in absurd cc))
        | inr not_so ↦ (λ kept. sym (skips.others i not_so) ∙ kept, λ kept. skips.others i not_so ∙ kept)
      ]

  -- the index that is expected then does not lie before that of the number
  pub skip-reaches : (y end : ℕ) → IsExpected fates x → IsAhead first x number end → IsExpected after y → end ≤ y
  skip-reaches y end expected ahead expected' =
      elim (cases_lt y end) [
        | inr from ↦ from
        | inl before ↦ elim (open_or_settled fates y) [
          | inl free ↦ let lost = skip-loses y end expected ahead before free in let none = expected'.open_itself in absurd cc
          | inr fate ↦
              let stays = skips.others y (λ p. let free = p.open_itself in let is = fate.1 in absurd cc) in
              let is = fate.1 in
              let none = expected'.open_itself in
              absurd cc
        ]
      ]

  -- it loses something exactly if the number lies ahead of the expected one
  pub skip-answers : IsExpected fates x → IsTrue any ↔ ((end : ℕ) × (x < end) × IsAhead first x number end)
  skip-answers expected = (
    λ yes. (let one = skips.answer.0 yes in let from = one.1.from in let before = one.1.before in (one.1.end, omega arith, one.1.ahead)),
    λ ahead. skips.answer.1 (
      x,
      record { end = ahead.0; ahead = ahead.2; from = omega arith; before = ahead.1; open_itself = expected.open_itself },
    ),
  )

  -- where the number is the expected one, or lies behind, nothing changes
  pub skip-nothing : ((number ≡ number_of first x) ⊎ ((end : ℕ) → IsAhead first x number end → ⊥)) → (any ≡ false) × (after ≡ fates)
  skip-nothing behind =
      let none : (i : ℕ) → IsSkippedTo first x number fates i → ⊥ = λ i p. elim behind [
        | inl here ↦
            let same = IsAhead-once first x number p.end x p.ahead (record { from = omega arith; to = omega arith; numbered = sym here }) in
            let from = p.from in
            let before = p.before in
            omega arith
        | inr never ↦ never p.end p.ahead
      ] in (
        no-answer any (λ yes. let one = skips.answer.0 yes in none one.0 one.1),
        map.same_map nat_cmp_total nat_cmp-IsAntisymmetric after fates (λ i. skips.others i (none i)),
      )
    where
      no-answer : (b : Bool) → (IsTrue b → ⊥) → b ≡ false
      no-answer true never = absurd (never refl)
      no-answer false never = refl

-- Where each open index before the number has a later kept one, a skip is a gap up to that number.
module _ (first x number : ℕ) (fates after : Fates) (any : Bool)
    (later : (i end : ℕ) → IsAhead first x number end → x ≤ i → i < end → IsOpen fates i → HasLaterKept fates i) where
  to-declare : (i : ℕ) → IsSkippedTo first x number fates i → IsDeclaredTo first x number fates i
  to-declare i p = skipped-declared first x number fates i p (later i p.end p.ahead p.from p.before p.open_itself)

  pub skip-gap : SkipsTo first x number any fates after ↔ DeclaresTo first x number any fates after
  skip-gap = (
    λ skips. record {
      lost = λ i p. skips.lost i (declared-skipped first x number fates i p);
      others = λ i not_so. skips.others i (λ p. not_so (to-declare i p));
      answer = (
        λ yes. (let one = skips.answer.0 yes in (one.0, to-declare one.0 one.1)),
        λ one. skips.answer.1 (one.0, declared-skipped first x number fates one.0 one.1),
      );
    },
    λ declares. record {
      lost = λ i p. declares.lost i (to-declare i p);
      others = λ i not_so. declares.others i (λ p. not_so (declared-skipped first x number fates i p));
      answer = (
        λ yes. (let one = declares.answer.0 yes in (one.0, declared-skipped first x number fates one.0 one.1)),
        λ one. declares.answer.1 (one.0, to-declare one.0 one.1),
      );
    },
  )
