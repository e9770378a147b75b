-- The least number among those that were looked at.
use Rattle.std.proofs.Common.{◌≡◌, ℕ, ◌+◌, ◌<◌, ◌≤◌, ◌⊎◌, inl, inr, Some, List, length, slice_get, refl, ap, sym, subst, ◌∙◌, ⊎_elim, arith}
use Rattle.std.proofs.lemmas.Bool.{cases_eq}
use Rattle.std.proofs.lemmas.Option.{same_Some, slice_get_within}
use Rattle.capture_rules.specs.declared.arrival.HandedOn.{HandedOn}
use Rattle.capture_rules.specs.Order.{place_from}
use Rattle.capture_rules.specs.Begin.{IsFirstNumber}

module _ {T : Type 0} (kept : List (HandedOn T)) (first : HandedOn T) (stands_first : slice_get kept 0 ≡ Some first) where
  -- of the first n, and of the first one, this number is the least
  pub record IsLeastTo (n number : ℕ) : Type 0 where
    pub at : ℕ
    pub one : HandedOn T
    pub stands : slice_get kept at ≡ Some one
    pub its_number : number ≡ one.arrival.number
    pub least : (k : ℕ) (other : HandedOn T) → k < n → slice_get kept k ≡ Some other
        → place_from first.arrival.number number ≤ place_from first.arrival.number other.arrival.number

  pub least-none : IsLeastTo 0 first.arrival.number
  least-none = record {
    at = 0;
    one = first;
    stands = stands_first;
    its_number = refl;
    least = λ k other below stands. absurd (omega (arith, below));
  }

  before-or_next : (n k : ℕ) (one other : HandedOn T) → k < n + 1 → slice_get kept n ≡ Some one → slice_get kept k ≡ Some other → (k < n) ⊎ (other ≡ one)
  before-or_next n k one other below at stands =
      ⊎_elim
      (λ (same : k ≡ n). inr (same_Some other one (sym stands ∙ ap (slice_get kept) same ∙ at)))
      (λ (apart : k ≡ n → ⊥). inl (omega (arith, below, apart)))
      (cases_eq k n)

  -- the next one is less
  pub least-taken : (n number : ℕ) (one : HandedOn T) → slice_get kept n ≡ Some one
      → place_from first.arrival.number one.arrival.number < place_from first.arrival.number number → IsLeastTo n number → IsLeastTo (n + 1) one.arrival.number
  least-taken n number one at less so_far =
      let f = first.arrival.number in
      record {
        at = n;
        one = one;
        stands = at;
        its_number = refl;
        least = λ k other below stands.
            ⊎_elim
            (λ before. between (place_from f one.arrival.number) (place_from f number) (place_from f other.arrival.number) less (so_far.least k other before stands))
            (λ (same : other ≡ one). subst (λ (x : HandedOn T). place_from f one.arrival.number ≤ place_from f x.arrival.number) (sym same) (same-le (place_from f one.arrival.number)))
            (before-or_next n k one other below at stands);
      }
    where
      between : (a b c : ℕ) → a < b → b ≤ c → a ≤ c
      between a b c less most = omega (arith, less, most)

      same-le : (a : ℕ) → a ≤ a
      same-le a = omega arith

  -- it isn't
  pub least-passed_over : (n number : ℕ) (one : HandedOn T) → slice_get kept n ≡ Some one
      → place_from first.arrival.number number ≤ place_from first.arrival.number one.arrival.number → IsLeastTo n number → IsLeastTo (n + 1) number
  least-passed_over n number one at most so_far = record {
    at = so_far.at;
    one = so_far.one;
    stands = so_far.stands;
    its_number = so_far.its_number;
    least = λ k other below stands.
        ⊎_elim
        (λ before. so_far.least k other before stands)
        (λ (same : other ≡ one). subst (λ (x : HandedOn T). place_from first.arrival.number number ≤ place_from first.arrival.number x.arrival.number) (sym same) most)
        (before-or_next n k one other below at stands);
  }

  pub least-all : (n number : ℕ) → length kept ≤ n → IsLeastTo n number → IsFirstNumber kept number
  least-all n number all so_far = record {
    first = first;
    stands_first = stands_first;
    at = so_far.at;
    one = so_far.one;
    stands = so_far.stands;
    its_number = so_far.its_number;
    least = λ k other stands. so_far.least k other (let within = slice_get_within kept k other stands in omega (arith, within, all)) stands;
  }
