-- Two of three segments that come on two of three channels, the second before the first.
use Rattle.std.proofs.Common.{◌≡◌, ℕ, zero, suc, ◌+◌, ◌*◌, ◌/◌, ◌%◌, ◌<◌, ◌≤◌, ◌⊎◌, inl, inr, true, false, Some, List, [], ◌∷◌, length, slice_get, refl, ap, sym, ◌∙◌, arith}
use Rattle.std.proofs.lemmas.Bool.{cases_eq}
use Rattle.docsis_wire.specs.declared.segment.Segment.{Segment}
use Rattle.loss_rule.specs.Rule.{RuledFlow}
use Rattle.loss_rule.specs.Dealing.{AreDealtOut, AreSpreadOut, two_of_three, channel_of_three}

-- the channels are the first and the third
outer-has : (channel : ℕ) → (channel ≡ 0) ⊎ (channel ≡ 2) → slice_get (true ∷ false ∷ true ∷ []) channel ≡ Some true
outer-has channel (inl same) = ap (slice_get (true ∷ false ∷ true ∷ [])) same
outer-has channel (inr same) = ap (slice_get (true ∷ false ∷ true ∷ [])) same

-- and no others
outer-cases : (channel : ℕ) → slice_get (true ∷ false ∷ true ∷ []) channel ≡ Some true → (channel ≡ 0) ⊎ (channel ≡ 2)
outer-cases zero has = inl refl
outer-cases (suc zero) has = absurd cc
outer-cases (suc (suc zero)) has = inr refl
outer-cases (suc (suc (suc channel))) has = absurd cc

-- the index at a place, and its channel
first-at : (b : ℕ) → two_of_three (2 * b + 1) ≡ 3 * b
first-at b = omega arith

second-at : (b : ℕ) → two_of_three (2 * b) ≡ 3 * b + 1
second-at b = omega arith

first-channel : (b : ℕ) → channel_of_three (3 * b) ≡ 0
first-channel b = omega arith

second-channel : (b : ℕ) → channel_of_three (3 * b + 1) ≡ 2
second-channel b = omega arith

outer-channel : (p : ℕ) → (channel_of_three (two_of_three p) ≡ 0) ⊎ (channel_of_three (two_of_three p) ≡ 2)
outer-channel p =
    elim (cases_eq (p % 2) 0) [
      | inl even ↦ inr (omega arith)
      | inr odd ↦ inl (omega arith)
    ]

-- so they are dealt out over these two channels
module _ (flow : RuledFlow) (segments : List Segment) (n : ℕ) (channels : flow.channels ≡ true ∷ false ∷ true ∷ []) where
  pub two_of_three-dealt : 3 * n ≤ length segments → AreDealtOut flow channel_of_three two_of_three segments (2 * n)
  two_of_three-dealt enough = record {
    of_cut = λ p below. omega arith;
    on_flow = λ p below. ap (λ c. slice_get c (channel_of_three (two_of_three p))) channels ∙ outer-has (channel_of_three (two_of_three p)) (outer-channel p);
    in_order = λ p q before below same. omega arith;
  }

  -- of three indexes each channel brings one
  one-of_three : (i p channel : ℕ) → p < 2 * n → (channel ≡ 0) ⊎ (channel ≡ 2) → i + 3 ≤ two_of_three p + 1
      → (q : ℕ) × (q < 2 * n) × (channel_of_three (two_of_three q) ≡ channel) × (i ≤ two_of_three q) × (two_of_three q < i + 3)
  one-of_three i p channel below (inl same) upto =
      let b = (i + 2) / 3 in
      let at = first-at b in
      (2 * b + 1, omega arith, ap channel_of_three at ∙ first-channel b ∙ sym same, omega arith, omega arith)
  one-of_three i p channel below (inr same) upto =
      let b = (i + 1) / 3 in
      let at = second-at b in
      (2 * b, omega arith, ap channel_of_three at ∙ second-channel b ∙ sym same, omega arith, omega arith)

  -- and none comes after one that is two or more greater
  pub two_of_three-spread : AreSpreadOut flow channel_of_three two_of_three (2 * n) 3 2
  two_of_three-spread = record {
    spread = λ i p channel below has upto. one-of_three i p channel below (outer-cases channel (ap (λ c. slice_get c channel) (sym channels) ∙ has)) upto;
    within = λ p q low high far. omega arith;
  }
