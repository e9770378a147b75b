-- What is held in a window in which something is.
use Rattle.std.proofs.Common.{◌≡◌, ℕ, ◌<◌, ◌||◌, List, [], ◌∷◌, length, map, refl, ap, ◌∙◌, arith}
use Rattle.std.specs.List.{list_any}
use Rattle.std.specs.Ordering.{nat_cmp, eq_by_cmp}
use Rattle.std.specs.Cmp.{nat_cmp_total, eq_by_cmp_equiv}
use Rattle.std.specs.FinMap.{entries, len, len-entries, contains_key-keys}
use Rattle.reorder.specs.View.{WindowView, IsHeld}

module _ {T : Type 0} (w : WindowView T) where
  held-entries : (es : List (ℕ × T)) → entries w.held ≡ es → 0 < length es → (number : ℕ) × IsHeld w number
  held-entries [] is some = absurd (omega arith)
  held-entries (e ∷ es) is some = (
    e.0,
    contains_key-keys w.held e.0
        ∙ ap (λ entered. list_any (eq_by_cmp nat_cmp e.0) (map (λ (entry : ℕ × T). entry.0) entered)) is
        ∙ ap (λ b. b || list_any (eq_by_cmp nat_cmp e.0) (map (λ (entry : ℕ × T). entry.0) es)) ((eq_by_cmp_equiv nat_cmp_total).refl e.0),
  )

  -- some number is held
  pub some-held : 0 < len w.held → (number : ℕ) × IsHeld w number
  some-held some = held-entries (entries w.held) refl (let size = len-entries w.held in omega arith)
