-- The definitions leave one answer to each call.
use Rattle.std.proofs.Common.{◌≡◌, ℕ, is_some, refl, ap, sym, ◌∙◌, arith}
use Rattle.std.specs.Ordering.{nat_cmp}
use Rattle.std.specs.Cmp.{nat_cmp_total}
use Rattle.std.specs.FinMap.{nat_cmp-IsAntisymmetric}
use Rattle.std.specs.FinMap as map
use Rattle.reorder.specs.View.{WindowView, IsHeld}
use Rattle.reorder.specs.Verdicts.{IsDeclared}
use Rattle.reorder.specs.Calls.{Agree}
use Rattle.reorder.specs.declared.verdict.Declared.{Declared}
use Rattle.reorder.specs.declared.verdict.Declared.TheVariants.{NextIsHere, NothingHeld, Lost}

module _ {T : Type 0} where
  -- a window is what it expects, how far it may hold, and what it holds at each number
  pub Agree-same : (v w : WindowView T) → Agree v w → v ≡ w
  Agree-same v w agree =
      let items = map.same_map nat_cmp_total nat_cmp-IsAntisymmetric v.held w.held agree.same_items in
      λ i. record { expected = agree.same_expected i; width = agree.same_width i; held = items i }

  -- where nothing is held, no number is
  pub free-none_held : (w : WindowView T) (number : ℕ) → map.len w.held ≡ 0 → ¬ (IsHeld w number)
  free-none_held w number none held =
      let nothing = ap (λ m. map.get m number) (map.empty_of_len w.held none) ∙ map.get-empty nat_cmp number in
      let found = sym (ap is_some nothing) ∙ held in
      cc

  -- the answers to a decision exclude one another
  pub one_declared : (w : WindowView T) (a b : Declared) → IsDeclared w a → IsDeclared w b → a ≡ b
  one_declared w NextIsHere NextIsHere p q = refl
  one_declared w NextIsHere NothingHeld p q = absurd (free-none_held w w.expected q p)
  one_declared w NextIsHere (Lost y) p q = absurd (q.0 p)
  one_declared w NothingHeld NextIsHere p q = absurd (free-none_held w w.expected p q)
  one_declared w NothingHeld NothingHeld p q = refl
  one_declared w NothingHeld (Lost y) p q = absurd (omega arith)
  one_declared w (Lost x) NextIsHere p q = absurd (p.0 q)
  one_declared w (Lost x) NothingHeld p q = absurd (omega arith)
  one_declared w (Lost x) (Lost y) p q = ap Lost (p.2 ∙ sym q.2)
