-- The last of the old ones among those that were looked at.
use Rattle.std.proofs.Common.{◌≡◌, ℕ, ◌+◌, ◌<◌, ◌≤◌, ◌⊎◌, inl, inr, true, false, Option, Some, None, List, length, slice_get, refl, ap, sym, subst, ◌∙◌, ⊎_elim, arith}
use Rattle.std.specs.Prelude.{IfSome}
use Rattle.std.proofs.lemmas.Bool.{cases_eq, both_ways}
use Rattle.std.proofs.lemmas.Option.{same_Some, slice_get_within}
use Rattle.reorder.specs.Number.{offset}
use Rattle.capture_rules.specs.declared.held_time.HeldTime.{HeldTime}
use Rattle.capture_rules.specs.Held.{IsLastOld, IsSkip, is_old}

module _ (wait now expected : ℕ) (held : List HeldTime) where
  -- of the first n this one is the last old one
  pub record IsLastTo (n : ℕ) (one : HeldTime) : Type 0 where
    pub at : ℕ
    pub stands : slice_get held at ≡ Some one
    pub old : is_old wait now one ≡ true
    pub last : (k : ℕ) (other : HeldTime) → k < n → slice_get held k ≡ Some other → is_old wait now other ≡ true → offset expected other.number ≤ offset expected one.number

  -- or none of them is old
  abbrev pub IsLastOldTo : ℕ → Option HeldTime → Type 0
  IsLastOldTo n (Some last) = IsLastTo n last
  IsLastOldTo n None = (k : ℕ) (one : HeldTime) → k < n → slice_get held k ≡ Some one → is_old wait now one ≡ false

  -- one of the first n + 1 is of the first n, or the next
  before-or_next : (n k : ℕ) (one other : HeldTime) → k < n + 1 → slice_get held n ≡ Some one → slice_get held k ≡ Some other → (k < n) ⊎ (other ≡ one)
  before-or_next n k one other below at stands =
      ⊎_elim
      (λ (same : k ≡ n). inr (same_Some other one (sym stands ∙ ap (slice_get held) same ∙ at)))
      (λ (apart : k ≡ n → ⊥). inl (omega (arith, below, apart)))
      (cases_eq k n)

  pub last_old-none : IsLastOldTo 0 None
  last_old-none k one below stands = absurd (omega (arith, below))

  pub last_old-passed_over : (n : ℕ) (last : Option HeldTime) (one : HeldTime) → slice_get held n ≡ Some one → is_old wait now one ≡ false → IsLastOldTo n last → IsLastOldTo (n + 1) last
  last_old-passed_over n (Some last) one at young so_far = record {
    at = so_far.at;
    stands = so_far.stands;
    old = so_far.old;
    last = λ k other below stands old.
        ⊎_elim
        (λ before. so_far.last k other before stands old)
        (λ (same : other ≡ one). absurd (both_ways (is_old wait now one) young (ap (is_old wait now) (sym same) ∙ old)))
        (before-or_next n k one other below at stands);
  }
  last_old-passed_over n None one at young so_far =
      λ k other below stands.
      ⊎_elim
      (λ before. so_far k other before stands)
      (λ (same : other ≡ one). ap (is_old wait now) same ∙ young)
      (before-or_next n k one other below at stands)

  pub last_old-taken : (n : ℕ) (last : Option HeldTime) (one then : HeldTime) → slice_get held n ≡ Some one → is_old wait now one ≡ true
      → (then ≡ one) ⊎ (last ≡ Some then) → offset expected one.number ≤ offset expected then.number
      → IfSome last (λ before. offset expected before.number ≤ offset expected then.number)
      → IsLastOldTo n last → IsLastTo (n + 1) then
  last_old-taken n None one then at old (inr none) above later so_far = absurd (cc)
  last_old-taken n None one then at old (inl same) above later so_far = record {
    at = n;
    stands = at ∙ ap (λ (x : HeldTime). Some x) (sym same);
    old = ap (is_old wait now) same ∙ old;
    last = λ k other below stands is.
        ⊎_elim
        (λ before. absurd (both_ways (is_old wait now other) (so_far k other before stands) is))
        (λ (equal : other ≡ one). subst (λ (x : HeldTime). offset expected x.number ≤ offset expected then.number) (sym equal) above)
        (before-or_next n k one other below at stands);
  }
  last_old-taken n (Some last) one then at old which above later so_far =
      let place : (p : ℕ) × (slice_get held p ≡ Some then) × (is_old wait now then ≡ true) =
      ⊎_elim
      (λ (same : then ≡ one). (n, at ∙ ap (λ (x : HeldTime). Some x) (sym same), ap (is_old wait now) same ∙ old))
      (λ (same : Some last ≡ Some then). (so_far.at, so_far.stands ∙ same, ap (is_old wait now) (sym (same_Some last then same)) ∙ so_far.old))
      which in
      record {
        at = place.0;
        stands = place.1;
        old = place.2;
        last = λ k other below stands is.
            ⊎_elim
            (λ before. let less = so_far.last k other before stands is in omega (arith, less, later))
            (λ (equal : other ≡ one). subst (λ (x : HeldTime). offset expected x.number ≤ offset expected then.number) (sym equal) above)
            (before-or_next n k one other below at stands);
      }

  pub last_old-some : (n : ℕ) (last : HeldTime) → length held ≤ n → IsLastTo n last → IsLastOld wait now expected held last.number
  last_old-some n last all so_far = record {
    at = so_far.at;
    one = last;
    stands = so_far.stands;
    old = so_far.old;
    its_number = refl;
    last = λ k other stands old. so_far.last k other (let within = slice_get_within held k other stands in omega (arith, within, all)) stands old;
  }

  pub last_old-none_is : (n : ℕ) → length held ≤ n → IsLastOldTo n None → IsSkip wait now expected held None
  last_old-none_is n all so_far k one stands = so_far k one (let within = slice_get_within held k one stands in omega (arith, within, all)) stands
