-- What flows with the indexes from 0 on give or have, one after another.
use Rattle.std.proofs.Common.{◌≡◌, ℕ, zero, suc, ◌+◌, ◌<◌, ◌≤◌, inl, inr, Some, List, [], ◌++◌, length, map, refl, ap, subst, ◌∙◌, arith}
use Rattle.std.specs.Prelude.{slice_get}
use Rattle.std.specs.List.{range_with_len}
use Rattle.std.specs.Option.{option_map}
use Rattle.std.proofs.lemmas.Bool.{cases_eq}
use Rattle.std.proofs.lemmas.List.FromFn.{length-range_with_len, get_or-range_with_len, length-map-range_with_len}
use Rattle.std.proofs.lemmas.Option.{slice_get-get_or, slice_get-map}
use Rattle.consumer.specs.declared.given.Given.{Given}
use Rattle.consumer.specs.declared.given.Given.TheVariants.{Frame}
use Rattle.consumer.specs.Given.{frames_of}
use Rattle.bonded_flows.proofs.TableTurns.{frames-own, frames-others}

module _ (frames : ℕ → List (List ℕ)) where
  -- what the first flows give, one after another
  abbrev pub given_by_first : ℕ → List Given
  given_by_first zero = []
  given_by_first (suc k) = given_by_first k ++ map (Frame k) (frames k)

  pub none_above : (n k : ℕ) → n ≤ k → frames_of k (given_by_first n) ≡ []
  none_above zero k past = refl
  none_above (suc n) k past = frames-others n [] [] (given_by_first n) (frames n) k (λ same. omega arith) ∙ none_above n k (omega arith)

  pub own_frames : (n k : ℕ) → k < n → frames_of k (given_by_first n) ≡ frames k
  own_frames zero k below = absurd (omega arith)
  own_frames (suc n) k below = elim (cases_eq n k) [
    | inl same ↦
        subst (λ (j : ℕ). frames_of j (given_by_first (suc n)) ≡ frames j) same
        (frames-own n [] [] (given_by_first n) (frames n) ∙ ap (λ (t : List (List ℕ)). t ++ frames n) (none_above n n (omega arith)))
    | inr apart ↦ frames-others n [] [] (given_by_first n) (frames n) k apart ∙ own_frames n k (omega arith)
  ]

module _ {X : Type 0} (at : ℕ → X) (n : ℕ) where
  -- what the first flows have, in a list
  abbrev pub first_have : List X
  first_have = map at (range_with_len 0 n)

  pub as_many : length first_have ≡ n
  as_many = length-map-range_with_len at 0 n

  pub have_there : (k : ℕ) → k < n → slice_get first_have k ≡ Some (at k)
  have_there k below =
      let indexes = range_with_len 0 n in
      let size = length-range_with_len 0 n in
      let inside : k < length indexes = omega arith in
      let same : 0 + k ≡ k = omega arith in
      slice_get-map at indexes k ∙ ap (option_map at) (slice_get-get_or indexes k 0 inside)
      ∙ ap (λ (j : ℕ). Some (at j)) (get_or-range_with_len 0 n k 0 below ∙ same)
