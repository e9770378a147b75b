-- The first place of a byte that passes a test, and how a search of bytes finds it.
use Rattle.std.proofs.Common.{◌≡◌, ℕ, ◌<◌, ◌≤◌, Bool, true, false, cond, List, length, get_or, Option, Some, None, refl, sym, ap, ◌∙◌, arith, nat_lt}
use Rattle.std.specs.Prelude.{position, All}
use Rattle.std.specs.List.{position_or_len}
use Rattle.std.proofs.lemmas.Bool.Decides.{nat_tests}
use Rattle.std.proofs.lemmas.List.Quantifiers.{position-Some}
use Rattle.std.proofs.lemmas.List.Sums.{position_or_len_is, fails_before_first}
use Rattle.memchr.specs.Find.{IsFirstByte}

-- a place that was found is the first one
pub position-found : (p : ℕ → Bool) (xs : List ℕ) (i : ℕ) → position p xs ≡ Some i → (position_or_len p xs ≡ i) × (i < length xs)
position-found p xs i h =
    let found = position-Some p xs i 0 h in (
      position_or_len_is p xs i 0 (omega (arith, found.0)) found.2 (λ _. found.1),
      found.0,
    )

-- a place that was not found lies past the end
past_the_end : (n len : ℕ) → cond (nat_lt n len) (Some n) None ≡ None → len ≤ n
past_the_end n len h = grind (arith, nat_tests)

-- where no place was found no element passes
pub position-none : (p : ℕ → Bool) (xs : List ℕ) → position p xs ≡ None → All (λ x. p x ≡ false) xs
position-none p xs h k d within =
    let past = past_the_end (position_or_len p xs) (length xs) h in
    fails_before_first p xs k d (omega arith)

-- a byte passes or it does not
not_both : (b : Bool) → b ≡ true → b ≡ false → ⊥
not_both b passes fails = let bad : true ≡ false = sym passes ∙ fails in cc bad

-- no place was found where there is one
found_none : (p : ℕ → Bool) (xs : List ℕ) (i : ℕ) → i < length xs → p (get_or xs i 0) ≡ true → position p xs ≡ None → ⊥
found_none p xs i within passes none = not_both (p (get_or xs i 0)) passes (position-none p xs none i 0 within)

-- two first places are the same
same_place : (p : ℕ → Bool) (xs : List ℕ) (i j : ℕ) → IsFirstByte p xs (Some i) → position p xs ≡ Some j → i ≡ j
same_place p xs i j first is =
    let found = position-Some p xs j 0 is in
    let not_before : i < j → ⊥ = λ l. not_both (p (get_or xs i 0)) first.1 (found.2 i l) in
    let not_after : j < i → ⊥ = λ l. first.0.before j (omega arith) l found.1 in
    grind arith

first_is : (p : ℕ → Bool) (xs : List ℕ) (r q : Option ℕ) → IsFirstByte p xs r → position p xs ≡ q → r ≡ q
first_is p xs None None first is = refl
first_is p xs None (Some j) first is =
    let found = position-Some p xs j 0 is in
    absurd (first j (omega arith) found.0 found.1)
first_is p xs (Some i) None first is = absurd (found_none p xs i first.0.high first.1 is)
first_is p xs (Some i) (Some j) first is = ap Some (same_place p xs i j first is)

-- the first place that a search finds is the first one
pub position-first : (p : ℕ → Bool) (xs : List ℕ) (r : Option ℕ) → IsFirstByte p xs r → r ≡ position p xs
position-first p xs r first = first_is p xs r (position p xs) first refl
