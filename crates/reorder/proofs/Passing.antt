-- The expected number after any calls, and how a number that passed stands to it.
use Rattle.std.proofs.Common.{◌≡◌, ℕ, ◌+◌, ◌%◌, ◌<◌, ◌≤◌, List, [], ◌∷◌, Some, None, refl, ap, sym, ◌∙◌, arith}
use Rattle.std.proofs.lemmas.List.Sums.{sum_by-cons}
use Rattle.reorder.specs.Number.{offset, number_ahead}
use Rattle.reorder.specs.View.{WindowView, IsLawful}
use Rattle.reorder.specs.Verdicts.{IsVerdict}
use Rattle.reorder.specs.Calls.{Call, offer, take_next, declare, declare_to, skip_to, after_call, after_calls, passed_by, numbers_passed}
use Rattle.reorder.specs.declared.verdict.Verdict.{Verdict}
use Rattle.reorder.specs.declared.verdict.Verdict.TheVariants.{Late, Beyond, Repeat, Kept}
use Rattle.reorder.specs.declared.verdict.Declared.TheVariants.{NextIsHere, NothingHeld, Lost}

-- no number passed
stays_put : (e : ℕ) → e < 8192 → e ≡ (e + 0) % 8192
stays_put e h = omega arith

-- some numbers passed, and then some more
passes_on : (e a b n : ℕ) → n ≡ (e + a) % 8192 → (n + b) % 8192 ≡ (e + (a + b)) % 8192
passes_on e a b n is = omega arith

-- a number that passed lies behind while at most 4,096 others passed, itself included
behind : (e passed all n : ℕ) → e < 8192 → passed < all → all ≤ passed + 4096 → n ≡ (e + all) % 8192 → 4096 ≤ offset n (number_ahead e passed)
behind e passed all n h before few is = omega arith

-- and ahead from then on until all numbers passed
ahead : (e passed all n : ℕ) → e < 8192 → passed + 4096 < all → all ≤ passed + 8192 → n ≡ (e + all) % 8192 → offset n (number_ahead e passed) < 4096
ahead e passed all n h enough few is = omega arith

module _ {T : Type 0} where
  -- a call moves the expected number on by the numbers that it passed
  after_call-expected : (w : WindowView T) (call : Call T) → w.expected < 8192 → (after_call w call).expected ≡ (w.expected + passed_by call) % 8192
  after_call-expected w (offer number item (Late _)) h = stays_put w.expected h
  after_call-expected w (offer number item (Beyond _)) h = stays_put w.expected h
  after_call-expected w (offer number item (Repeat _)) h = stays_put w.expected h
  after_call-expected w (offer number item Kept) h = stays_put w.expected h
  after_call-expected w (take_next (Some _)) h = refl
  after_call-expected w (take_next None) h = stays_put w.expected h
  after_call-expected w (declare (Lost _)) h = refl
  after_call-expected w (declare NextIsHere) h = stays_put w.expected h
  after_call-expected w (declare NothingHeld) h = stays_put w.expected h
  after_call-expected w (declare_to number count) h = refl
  after_call-expected w (skip_to number count) h = refl

  -- a call leaves the width alone
  after_call-width : (w : WindowView T) (call : Call T) → (after_call w call).width ≡ w.width
  after_call-width w (offer number item (Late _)) = refl
  after_call-width w (offer number item (Beyond _)) = refl
  after_call-width w (offer number item (Repeat _)) = refl
  after_call-width w (offer number item Kept) = refl
  after_call-width w (take_next (Some _)) = refl
  after_call-width w (take_next None) = refl
  after_call-width w (declare (Lost _)) = refl
  after_call-width w (declare NextIsHere) = refl
  after_call-width w (declare NothingHeld) = refl
  after_call-width w (declare_to number count) = refl
  after_call-width w (skip_to number count) = refl

  -- so do all calls together
  pub after_calls-expected : (w : WindowView T) (calls : List (Call T)) → w.expected < 8192 → (after_calls w calls).expected ≡ (w.expected + numbers_passed calls) % 8192
  after_calls-expected w [] h = stays_put w.expected h
  after_calls-expected w (call ∷ calls) h =
      let first = after_call-expected w call h in
      after_calls-expected (after_call w call) calls (omega arith)
      ∙ passes_on w.expected (passed_by call) (numbers_passed calls) _ first
      ∙ ap (λ n. (w.expected + n) % 8192) (sym (sum_by-cons passed_by call calls))

  -- and so do all calls
  pub after_calls-width : (w : WindowView T) (calls : List (Call T)) → (after_calls w calls).width ≡ w.width
  after_calls-width w [] = refl
  after_calls-width w (call ∷ calls) = after_calls-width (after_call w call) calls ∙ after_call-width w call

  -- behind the expected number there is one verdict
  Late-behind : (w : WindowView T) (number : ℕ) (item : T) (verdict : Verdict T) → w.width ≤ 4096 → 4096 ≤ offset w.expected number → IsVerdict w number item verdict → verdict ≡ Late item
  Late-behind w number item (Late back) width far given = ap Late given.1
  Late-behind w number item (Beyond back) width far given = absurd (omega arith)
  Late-behind w number item (Repeat back) width far given = absurd (omega arith)
  Late-behind w number item Kept width far given = absurd (omega arith)

  module _ (w : WindowView T) (calls : List (Call T)) (passed : ℕ) (lawful : IsLawful w) where
    -- a number that passed is late
    pub passed_is_late : (item : T) (verdict : Verdict T) → passed < numbers_passed calls → numbers_passed calls ≤ passed + 4096 → IsVerdict (after_calls w calls) (number_ahead w.expected passed) item verdict → verdict ≡ Late item
    passed_is_late item verdict before few given =
        let width = after_calls-width w calls in
        let widest = lawful.width_in_range in
        Late-behind (after_calls w calls) (number_ahead w.expected passed) item verdict (omega arith) (behind w.expected passed (numbers_passed calls) _ lawful.expected_in_range before few (after_calls-expected w calls lawful.expected_in_range)) given

    -- or, once it is half way round, is not
    pub passed_lies_ahead : (item : T) → passed + 4096 < numbers_passed calls → numbers_passed calls ≤ passed + 8192 → ¬ (IsVerdict (after_calls w calls) (number_ahead w.expected passed) item (Late item))
    passed_lies_ahead item enough few given =
        let near = ahead w.expected passed (numbers_passed calls) (after_calls w calls).expected lawful.expected_in_range enough few (after_calls-expected w calls lawful.expected_in_range) in
        omega arith
