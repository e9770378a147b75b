-- What was given in all is what was given of each flow, or on each channel, added up.
use Rattle.std.proofs.Common.{◌≡◌, ℕ, zero, suc, ◌+◌, ◌<◌, ◌≤◌, ◌==◌, Bool, true, false, Option, Some, None, List, [], ◌∷◌, length, if◌then◌else◌}
use Rattle.std.proofs.Common.{ap, refl, sym, ◌∙◌, arith, inl, inr, zero-add}
use Rattle.std.specs.Prelude.{sum_by, count_by, cond, filter_map}
use Rattle.std.proofs.lemmas.Bool.{cases_eq, cases_lt}
use Rattle.std.proofs.lemmas.Bool.Decides.{nat_tests}
use Rattle.std.proofs.lemmas.List.Sums.{sum_by-cons}
use Rattle.consumer.specs.declared.given.Given.{Given}
use Rattle.consumer.specs.declared.given.Given.TheVariants.{Frame, Asked}
use Rattle.consumer.specs.Counting.{is_frame, is_request, bytes_in}
use Rattle.consumer.specs.Given.{frame_of, frames_of, request_on, requests_given}
use Rattle.uses.specs.CountedRun.{sum_below}

-- sums of the same numbers
pub sum-same : (n : ℕ) (f g : ℕ → ℕ) → ((k : ℕ) → k < n → f k ≡ g k) → sum_below n f ≡ sum_below n g
sum-same zero f g same = refl
sum-same (suc n) f g same =
    let before = sum-same n f g (λ k within. same k (omega (arith, within))) in
    let last = same n (omega arith) in
    rw (before, last) refl

sum-nothing : (n : ℕ) (f : ℕ → ℕ) → ((k : ℕ) → f k ≡ 0) → sum_below n f ≡ 0
sum-nothing zero f none = refl
sum-nothing (suc n) f none =
    let before = sum-nothing n f none in
    let last = none n in
    rw (before, last) refl

-- what is added at one place, if it is this one
abbrev added_at : ℕ → ℕ → ℕ → ℕ
added_at key w k = if key == k then w else 0

added-here : (key w : ℕ) → added_at key w key ≡ w
added-here key w = grind (arith, nat_tests, cases_eq key key)

added-nothing : (key k : ℕ) → added_at key 0 k ≡ 0
added-nothing key k = grind (arith, nat_tests, cases_eq key k)

-- what is added behind the end of a sum isn't in it
adds-behind : (n key w : ℕ) (f g : ℕ → ℕ) → n ≤ key → ((k : ℕ) → f k ≡ added_at key w k + g k) → sum_below n f ≡ sum_below n g
adds-behind zero key w f g behind each = refl
adds-behind (suc n) key w f g behind each =
    let before = adds-behind n key w f g (omega arith) each in
    let last = each n in
    grind (arith, nat_tests, cases_eq key n, before, last)

-- what is added at one place is added to the sum
adds-within : (n key w : ℕ) (f g : ℕ → ℕ) → key < n → ((k : ℕ) → f k ≡ added_at key w k + g k) → sum_below n f ≡ w + sum_below n g
adds-within zero key w f g within each = absurd (omega (arith, within))
adds-within (suc n) key w f g within each =
    let last = each n in
    elim (cases_lt key n) [
      | inl earlier ↦ let before = adds-within n key w f g earlier each in grind (arith, nat_tests, cases_eq key n, before, last)
      | inr late ↦ let before = adds-behind n key w f g late each in grind (arith, nat_tests, cases_eq key n, before, last)
    ]

-- Where each thing that is given adds to the part of its key, all together is the sum of the parts
-- below n, if there is nothing in those behind.
module _ (parts : ℕ → List Given → ℕ) (key weight : Given → ℕ) (empty : (k : ℕ) → parts k [] ≡ 0)
    (more : (k : ℕ) (x : Given) (xs : List Given) → parts k (x ∷ xs) ≡ added_at (key x) (weight x) k + parts k xs) where
  by-key : (n : ℕ) (given : List Given) → ((k : ℕ) → n ≤ k → parts k given ≡ 0) → sum_by weight given ≡ sum_below n (λ k. parts k given)
  by-key n [] none = sym (sum-nothing n (λ k. parts k []) empty)
  by-key n (x ∷ xs) none =
      let behind_too : (k : ℕ) → n ≤ k → parts k xs ≡ 0 = λ k behind. let all = none k behind in let step = more k x xs in omega (arith, all, step) in
      let rest = by-key n xs behind_too in
      let first = sum_by-cons weight x xs in
      elim (cases_lt (key x) n) [
        | inl within ↦
            let grown = adds-within n (key x) (weight x) (λ k. parts k (x ∷ xs)) (λ k. parts k xs) within (λ k. more k x xs) in
            first ∙ ap (λ m. weight x + m) rest ∙ sym grown
        | inr behind ↦
            let same = adds-behind n (key x) (weight x) (λ k. parts k (x ∷ xs)) (λ k. parts k xs) behind (λ k. more k x xs) in
            let all = none (key x) behind in
            let step = more (key x) x xs in
            let here = added-here (key x) (weight x) in
            let nothing : weight x ≡ 0 = omega (arith, all, step, here) in
            first ∙ ap (λ m. m + sum_by weight xs) nothing ∙ zero-add (sum_by weight xs) ∙ rest ∙ sym same
      ]

-- an item that is kept or not is counted or not
module _ {X A : Type 0} (pick : X → Option A) (x : X) (xs : List X) where
  kept-length : (kept : Bool) (item : A) → pick x ≡ (if kept then Some item else None)
      → length (filter_map pick (x ∷ xs)) ≡ (if kept then 1 else 0) + length (filter_map pick xs)
  kept-length true item is = rw is (omega arith)
  kept-length false item is = rw is (omega arith)

  kept-sum : (weight : A → ℕ) (kept : Bool) (item : A) → pick x ≡ (if kept then Some item else None)
      → sum_by weight (filter_map pick (x ∷ xs)) ≡ (if kept then weight item else 0) + sum_by weight (filter_map pick xs)
  kept-sum weight true item is = rw is (sum_by-cons weight item (filter_map pick xs))
  kept-sum weight false item is = rw is (omega arith)

abbrev flow_in : Given → ℕ
flow_in (Frame flow frame) = flow
flow_in (Asked request) = 0

abbrev channel_in : Given → ℕ
channel_in (Frame flow frame) = 0
channel_in (Asked request) = request.channel

nothing-more : (key k n : ℕ) → n ≡ added_at key 0 k + n
nothing-more key k n = let none = added-nothing key k in omega (arith, none)

one-frame : (k : ℕ) (x : Given) (xs : List Given) → length (frames_of k (x ∷ xs)) ≡ added_at (flow_in x) (cond (is_frame x) 1 0) k + length (frames_of k xs)
one-frame k (Frame flow frame) xs = kept-length (frame_of k) (Frame flow frame) xs (flow == k) frame refl
one-frame k (Asked request) xs = nothing-more 0 k (length (frames_of k xs))

its-bytes : (k : ℕ) (x : Given) (xs : List Given)
    → sum_by (λ bytes. length bytes) (frames_of k (x ∷ xs)) ≡ added_at (flow_in x) (bytes_in x) k + sum_by (λ bytes. length bytes) (frames_of k xs)
its-bytes k (Frame flow frame) xs = kept-sum (frame_of k) (Frame flow frame) xs (λ bytes. length bytes) (flow == k) frame refl
its-bytes k (Asked request) xs = nothing-more 0 k (sum_by (λ bytes. length bytes) (frames_of k xs))

one-request : (k : ℕ) (x : Given) (xs : List Given)
    → length (requests_given k (x ∷ xs)) ≡ added_at (channel_in x) (cond (is_request x) 1 0) k + length (requests_given k xs)
one-request k (Frame flow frame) xs = nothing-more 0 k (length (requests_given k xs))
one-request k (Asked request) xs = kept-length (request_on k) (Asked request) xs (request.channel == k) request refl

-- all frames are those of each flow, and so are their bytes
pub frames-by-flow : (n : ℕ) (given : List Given) → ((k : ℕ) → n ≤ k → frames_of k given ≡ [])
    → count_by is_frame given ≡ sum_below n (λ k. length (frames_of k given))
frames-by-flow n given none =
    by-key (λ k xs. length (frames_of k xs)) flow_in (λ x. cond (is_frame x) 1 0) (λ k. refl) one-frame n given
    (λ k behind. ap (λ (frames : List (List ℕ)). length frames) (none k behind))

pub bytes-by-flow : (n : ℕ) (given : List Given) → ((k : ℕ) → n ≤ k → frames_of k given ≡ [])
    → sum_by bytes_in given ≡ sum_below n (λ k. sum_by (λ bytes. length bytes) (frames_of k given))
bytes-by-flow n given none =
    by-key (λ k xs. sum_by (λ bytes. length bytes) (frames_of k xs)) flow_in bytes_in (λ k. refl) its-bytes n given
    (λ k behind. ap (λ (frames : List (List ℕ)). sum_by (λ bytes. length bytes) frames) (none k behind))

-- all requests are those of each channel
pub requests-by-channel : (n : ℕ) (given : List Given) → ((k : ℕ) → n ≤ k → requests_given k given ≡ [])
    → count_by is_request given ≡ sum_below n (λ k. length (requests_given k given))
requests-by-channel n given none =
    by-key (λ k xs. length (requests_given k xs)) channel_in (λ x. cond (is_request x) 1 0) (λ k. refl) one-request n given
    (λ k behind. ap (λ requests. length requests) (none k behind))
