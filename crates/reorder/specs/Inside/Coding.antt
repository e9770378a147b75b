-- How what contracts see of a window is stored.
use Rattle.std.specs.Prelude.{ℕ, refl}
use Rattle.std.specs.Ordering.{nat_cmp}
use Rattle.std.specs.Coded.{Coded, code_by, coded×, coded_ℕ}
use Rattle.std.specs.FinMap as map
use Rattle.reorder.specs.View.{WindowView}

module _ {T : Type 0} where
  -- a window is stored as its three parts
  abbrev pub view_code : Coded T → Coded (WindowView T)
  view_code item =
      code_by
      (ℕ × (ℕ × map.FinMap nat_cmp T))
      (coded× coded_ℕ (coded× coded_ℕ (map.code coded_ℕ item)))
      (λ w. (w.expected, (w.width, w.held)))
      (λ p. record { expected = p.0; width = p.1.0; held = p.1.1 })
      (λ _. refl)
