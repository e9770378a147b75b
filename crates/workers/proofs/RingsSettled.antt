-- What was taken of rings, once they are settled.
use Rattle.std.proofs.Common.{◌≡◌, ℕ, ◌<◌, ◌≤◌, ◌+◌, Some, List, map, slice_get, ap, sym, ◌∙◌, ⊎_elim, arith}
use Rattle.std.proofs.lemmas.Bool.{cases_lt}
use Rattle.delivery.specs.Feeders.{closed_offered}
use Rattle.delivery.specs.Takers.{taken}
use Rattle.delivery.specs.declared.feeder.ClosedFeeder.{ClosedFeeder}
use Rattle.delivery.specs.declared.taker.Taker.{Taker}
use Rattle.workers.proofs.AlikeLists.{alike_at}

module _ (feeders : List ClosedFeeder) (takers : List Taker) where
  -- of so many rings all that was offered was taken
  abbrev pub AreTakenBelow : ℕ → Type 0
  AreTakenBelow n = (k : ℕ) (feeder : ClosedFeeder) (one : Taker) → k < n → slice_get feeders k ≡ Some feeder
      → slice_get takers k ≡ Some one → taken one ≡ closed_offered feeder

  -- and of one more, as what is seen of its ends now is what was seen of them
  pub one_more_taken : (n : ℕ) (feeders' : List ClosedFeeder) (takers' : List Taker) (feeder' : ClosedFeeder) (one' : Taker)
      → AreTakenBelow n → map closed_offered feeders' ≡ map closed_offered feeders
      → map taken takers' ≡ map taken takers
      → slice_get feeders' n ≡ Some feeder' → slice_get takers' n ≡ Some one' → taken one' ≡ closed_offered feeder'
      → AreTakenBelow (n + 1)
  one_more_taken n feeders' takers' feeder' one' below offered_same taken_same of_feeder of_one all k feeder one within at_feeder at_one =
      ⊎_elim
      (λ (earlier : k < n). below k feeder one earlier at_feeder at_one)
      (λ (later : n ≤ k).
      let here : n ≡ k = omega arith in
      let was_taken = alike_at taken taken takers' takers n one' one taken_same of_one (ap (slice_get takers) here ∙ at_one) in
      let was_offered = alike_at closed_offered closed_offered feeders' feeders n feeder' feeder offered_same of_feeder
      (ap (slice_get feeders) here ∙ at_feeder) in
      sym was_taken ∙ all ∙ was_offered)
      (cases_lt k n)
