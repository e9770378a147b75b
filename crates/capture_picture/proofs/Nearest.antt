-- The index that is nearest to the newest one.
use Rattle.std.proofs.Common.{◌≡◌, ℕ, ◌+◌, ◌-◌, ◌%◌, ◌^◌, ◌<◌, ◌≤◌, min, Bool, true, false, cond, refl, arith}
use Rattle.std.specs.Prelude.{nat_lt}
use Rattle.std.proofs.lemmas.Bool.Decides.{nat_tests}
use Rattle.capture_picture.specs.Index.{ahead_of, nearest_index}

-- by whether the number lies ahead
by_ahead : (P : ℕ → Type 0) (newest ahead : ℕ) → (ahead < 4096 → P (min (newest + ahead) (2 ^ 64 - 1))) → (4096 ≤ ahead → P (newest - (8192 - ahead)))
    → P (cond (nat_lt ahead 4096) (min (newest + ahead) (2 ^ 64 - 1)) (newest - (8192 - ahead)))
by_ahead P newest ahead lies_ahead lies_behind = by_test (nat_lt ahead 4096) refl
  where
    by_test : (test : Bool) → nat_lt ahead 4096 ≡ test → P (cond test (min (newest + ahead) (2 ^ 64 - 1)) (newest - (8192 - ahead)))
    by_test true is =
        let below : ahead < 4096 = grind (arith, nat_tests) in
        lies_ahead below
    by_test false is =
        let above : 4096 ≤ ahead = grind (arith, nat_tests) in
        lies_behind above

pub nearest_index-number : (newest number : ℕ) → 4096 ≤ newest → newest + 4096 < 2 ^ 64 → nearest_index newest number % 8192 ≡ number % 8192
nearest_index-number newest number low high =
    by_ahead (λ index. index % 8192 ≡ number % 8192) newest (ahead_of newest number) (λ ahead. omega (arith, ahead, high)) (λ behind. omega (arith, behind, low))

pub nearest_index-below : (newest number : ℕ) → newest < 2 ^ 64 → newest ≤ nearest_index newest number + 4096
nearest_index-below newest number fits =
    by_ahead (λ index. newest ≤ index + 4096) newest (ahead_of newest number) (λ ahead. omega (arith, ahead, fits)) (λ behind. omega (arith, behind))

pub nearest_index-above : (newest number : ℕ) → nearest_index newest number ≤ newest + 4095
nearest_index-above newest number =
    by_ahead (λ index. index ≤ newest + 4095) newest (ahead_of newest number) (λ ahead. omega (arith, ahead)) (λ behind. omega (arith, behind))
