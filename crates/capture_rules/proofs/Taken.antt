-- The numbers of what waits, as one more comes to wait and as the next one is taken out.
use Rattle.std.proofs.Common.{◌≡◌, ◌≢◌, ℕ, ◌<◌, ◌≤◌, ◌==◌, ◌&&◌, Bool, true, false, cond, ⊎_elim, Some, List, [], ◌∷◌, ◌++◌, length, slice_get, refl, ap, sym, subst, ◌∙◌, eqb-true, eq-eqb, ne_eqb, ltb-false, arith}
use Rattle.std.specs.Prelude.{All, remove, IsPermutation, nat_lt}
use Rattle.std.proofs.lemmas.Bool.{both_ways, cases_eq, cases_lt, and_from, and_left, and_parts}
use Rattle.std.proofs.lemmas.List.Sums.{sum_by-append, count_by-le-length}
use Rattle.std.proofs.lemmas.List.Sorted.{sum_by_popped, sum_by_pushed}
use Rattle.reorder.specs.Number.{number_ahead}
use Rattle.capture_rules.specs.declared.arrival.Waiting.{Waiting}
use Rattle.capture_rules.specs.declared.waiting_numbers.WaitingNumbers.{WaitingNumbers}
use Rattle.capture_rules.specs.Order.{place_from, place_of, IsNext}
use Rattle.capture_rules.specs.Inside.Round.{ComesFirst}
use Rattle.capture_rules.specs.Inside.Numbers.{numbers_on, count_among, has, count_waiting, AreNumbersOf}
use Rattle.capture_rules.proofs.Counts.{count-removed, count-some, holds-among}

-- the first number going up from a low one and round has the least place
places-le : (e a b : ℕ) → e < 8192 → a < 8192 → b < 8192 → ComesFirst (number_ahead e 4096) a b → place_from e a ≤ place_from e b
places-le e a b e_in a_in b_in first =
    ⊎_elim
    (λ up. let reached = up.0 in let least = up.1 in ⊎_elim
    (λ (below : b < number_ahead e 4096). omega (arith, e_in, a_in, b_in, reached, below))
    (λ (above : number_ahead e 4096 ≤ b). let le = least above in omega (arith, e_in, a_in, b_in, reached, above, le))
    (cases_lt b (number_ahead e 4096)))
    (λ round. let here = round.0 in let there = round.1.0 in let le = round.1.1 in omega (arith, e_in, a_in, b_in, here, there, le))
    first

places-injective : (e a b : ℕ) → e < 8192 → a < 8192 → b < 8192 → place_from e a ≡ place_from e b → a ≡ b
places-injective e a b e_in a_in b_in same = omega (arith, e_in, a_in, b_in, same)

-- the numbers of all channels but one are as they were
abbrev pub KeepsOthers : WaitingNumbers → WaitingNumbers → ℕ → Type 0
KeepsOthers old new channel = (other : ℕ) → other ≢ channel → numbers_on new other ≡ numbers_on old other

abbrev once : Bool → ℕ
once b = cond b 1 0

module _ {T : Type 0} where
  has-own : (one : Waiting T) → has one.arrival.channel one.arrival.number one ≡ true
  has-own one = and_from (one.arrival.channel == one.arrival.channel) (one.arrival.number == one.arrival.number) (eq-eqb one.arrival.channel one.arrival.channel refl) (eq-eqb one.arrival.number one.arrival.number refl)

  has-parts : (channel number : ℕ) (one : Waiting T) → has channel number one ≡ true → (one.arrival.channel ≡ channel) × (one.arrival.number ≡ number)
  has-parts channel number one there =
      let parts = and_parts (one.arrival.channel == channel) (one.arrival.number == number) there in
      (eqb-true one.arrival.channel channel parts.0, eqb-true one.arrival.number number parts.1)

  -- of its own channel a burst has the numbers that are its number, of another channel none
  has-of_channel : (one : Waiting T) (n : ℕ) → has one.arrival.channel n one ≡ (one.arrival.number == n)
  has-of_channel one n = ap (λ b. b && one.arrival.number == n) (eq-eqb one.arrival.channel one.arrival.channel refl)

  has-of_other : (one : Waiting T) (c n : ℕ) → one.arrival.channel ≢ c → has c n one ≡ false
  has-of_other one c n apart = and_left (one.arrival.channel == c) (one.arrival.number == n) (ne_eqb one.arrival.channel c apart)

  -- none is other than it was
  pub numbers-kept : (old new : WaitingNumbers) (waiting : List (Waiting T)) → AreNumbersOf old waiting → ((c : ℕ) → numbers_on new c ≡ numbers_on old c) → AreNumbersOf new waiting
  numbers-kept old new waiting were same c n = ap (count_among n) (same c) ∙ were c n

  module _ (old new : WaitingNumbers) (waiting : List (Waiting T)) (one : Waiting T) (were : AreNumbersOf old waiting) (others : KeepsOthers old new one.arrival.channel) where
    -- one more waits
    pub numbers-inserted : IsPermutation (one.arrival.number ∷ numbers_on old one.arrival.channel) (numbers_on new one.arrival.channel) → AreNumbersOf new (waiting ++ one ∷ [])
    numbers-inserted inserted c n =
        ⊎_elim
        (λ (own : c ≡ one.arrival.channel). subst (λ k. count_among n (numbers_on new k) ≡ count_waiting k n (waiting ++ one ∷ [])) (sym own) of_channel)
        (λ (apart : c ≡ one.arrival.channel → ⊥).
        let kept : count_among n (numbers_on new c) ≡ count_among n (numbers_on old c) = ap (count_among n) (others c apart) in
        let before : count_among n (numbers_on old c) ≡ count_waiting c n waiting = were c n in
        let counted = sum_by-append (λ (x : Waiting T). once (has c n x)) waiting (one ∷ []) in
        let zero_times : once (has c n one) ≡ 0 = ap once (has-of_other one c n (λ same. apart (sym same))) in
        omega (arith, kept, before, counted, zero_times))
        (cases_eq c one.arrival.channel)
      where
        of_channel : count_among n (numbers_on new one.arrival.channel) ≡ count_waiting one.arrival.channel n (waiting ++ one ∷ [])
        of_channel =
            let pushed = sum_by_pushed (λ m. once (m == n)) one.arrival.number (numbers_on old one.arrival.channel) (numbers_on new one.arrival.channel) inserted in
            let before = were one.arrival.channel n in
            let counted = sum_by-append (λ (x : Waiting T). once (has one.arrival.channel n x)) waiting (one ∷ []) in
            let same : once (has one.arrival.channel n one) ≡ once (one.arrival.number == n) = ap once (has-of_channel one n) in
            omega (arith, pushed, before, counted, same)

    -- one is taken out
    pub numbers-taken : (at : ℕ) → slice_get waiting at ≡ Some one → IsPermutation (numbers_on old one.arrival.channel) (one.arrival.number ∷ numbers_on new one.arrival.channel) → AreNumbersOf new (remove waiting at)
    numbers-taken at stands taken c n =
        ⊎_elim
        (λ (own : c ≡ one.arrival.channel). subst (λ k. count_among n (numbers_on new k) ≡ count_waiting k n (remove waiting at)) (sym own) of_channel)
        (λ (apart : c ≡ one.arrival.channel → ⊥).
        let kept : count_among n (numbers_on new c) ≡ count_among n (numbers_on old c) = ap (count_among n) (others c apart) in
        let before : count_among n (numbers_on old c) ≡ count_waiting c n waiting = were c n in
        let counted = count-removed (has c n) waiting at one stands in
        let zero_times : once (has c n one) ≡ 0 = ap once (has-of_other one c n (λ same. apart (sym same))) in
        omega (arith, kept, before, counted, zero_times))
        (cases_eq c one.arrival.channel)
      where
        of_channel : count_among n (numbers_on new one.arrival.channel) ≡ count_waiting one.arrival.channel n (remove waiting at)
        of_channel =
            let popped = sum_by_popped (λ m. once (m == n)) one.arrival.number (numbers_on old one.arrival.channel) (numbers_on new one.arrival.channel) taken in
            let before = were one.arrival.channel n in
            let counted = count-removed (has one.arrival.channel n) waiting at one stands in
            let same : once (has one.arrival.channel n one) ≡ once (one.arrival.number == n) = ap once (has-of_channel one n) in
            omega (arith, popped, before, counted, same)

  -- the same, where its channel and number are known
  pub numbers-taken-with : (old new : WaitingNumbers) (waiting : List (Waiting T)) (one : Waiting T) (channel number : ℕ) → AreNumbersOf old waiting → KeepsOthers old new channel
      → has channel number one ≡ true → (at : ℕ) → slice_get waiting at ≡ Some one → IsPermutation (numbers_on old channel) (number ∷ numbers_on new channel) → AreNumbersOf new (remove waiting at)
  numbers-taken-with old new waiting one channel number were others has_it at stands taken =
      let parts = has-parts channel number one has_it in
      let of_own = subst (λ c. IsPermutation (numbers_on old c) (number ∷ numbers_on new c)) (sym parts.0) taken in
      numbers-taken old new waiting one were (subst (KeepsOthers old new) (sym parts.0) others) at stands
      (subst (λ n. IsPermutation (numbers_on old one.arrival.channel) (n ∷ numbers_on new one.arrival.channel)) (sym parts.1) of_own)

  -- where one waits its channel has a number
  pub first-has_number : (numbers : WaitingNumbers) (waiting : List (Waiting T)) (oldest : Waiting T) → AreNumbersOf numbers waiting → slice_get waiting 0 ≡ Some oldest
      → false ≡ nat_lt 0 (length (numbers_on numbers oldest.arrival.channel)) → ⊥
  first-has_number numbers waiting oldest were stands_first none =
      let channel = oldest.arrival.channel in
      let number = oldest.arrival.number in
      let some = count-some (has channel number) waiting 0 oldest stands_first (has-own oldest) in
      let before = were channel number in
      let most = count_by-le-length (λ m. m == number) (numbers_on numbers channel) in
      let empty = ltb-false 0 (length (numbers_on numbers channel)) (sym none) in
      omega (arith, some, before, most, empty)

  -- and a burst has the number that is taken out
  pub number-waits : (numbers : WaitingNumbers) (waiting : List (Waiting T)) (channel number : ℕ) (left : List ℕ) → AreNumbersOf numbers waiting → IsPermutation (numbers_on numbers channel) (number ∷ left)
      → count_waiting channel number waiting ≡ 0 → ⊥
  number-waits numbers waiting channel number left were taken none =
      let popped = sum_by_popped (λ m. once (m == number)) number (numbers_on numbers channel) left taken in
      let before = were channel number in
      let own : once (number == number) ≡ 1 = ap once (eq-eqb number number refl) in
      omega (arith, popped, before, own, none)

  -- **The one that is handed on next** is the first that has the number which comes first on the
  -- oldest one's channel.
  module _ (numbers : WaitingNumbers) (waiting : List (Waiting T)) (oldest one : Waiting T) (number at : ℕ) (were : AreNumbersOf numbers waiting)
      (stands_first : slice_get waiting 0 ≡ Some oldest) (first : All (ComesFirst (number_ahead oldest.arrival.number 4096) number) (numbers_on numbers oldest.arrival.channel))
      (stands : slice_get waiting at ≡ Some one) (has_it : has oldest.arrival.channel number one ≡ true)
      (none_before : (k : ℕ) (other : Waiting T) → k < at → slice_get waiting k ≡ Some other → has oldest.arrival.channel number other ≡ false) where
    abbrev e : ℕ
    e = oldest.arrival.number

    is_number : one.arrival.number ≡ number
    is_number = (has-parts oldest.arrival.channel number one has_it).1

    least : (k : ℕ) (other : Waiting T) → slice_get waiting k ≡ Some other → other.arrival.channel ≡ oldest.arrival.channel → place_of oldest one ≤ place_of oldest other
    least k other there same =
        let has_other : has oldest.arrival.channel other.arrival.number other ≡ true = subst (λ c. has c other.arrival.number other ≡ true) same (has-own other) in
        let some = count-some (has oldest.arrival.channel other.arrival.number) waiting k other there has_other in
        let before = were oldest.arrival.channel other.arrival.number in
        let comes = holds-among (ComesFirst (number_ahead e 4096) number) other.arrival.number (numbers_on numbers oldest.arrival.channel) first (omega (arith, some, before)) in
        places-le e one.arrival.number other.arrival.number oldest.arrival.in_range one.arrival.in_range other.arrival.in_range (subst (λ n. ComesFirst (number_ahead e 4096) n other.arrival.number) (sym is_number) comes)

    sooner : (k : ℕ) (other : Waiting T) → k < at → slice_get waiting k ≡ Some other → other.arrival.channel ≡ oldest.arrival.channel → place_of oldest one < place_of oldest other
    sooner k other before there same =
        let most = least k other there same in
        let apart : other.arrival.number ≢ number = λ is.
        both_ways (has oldest.arrival.channel number other) (none_before k other before there)
        (and_from (other.arrival.channel == oldest.arrival.channel) (other.arrival.number == number) (eq-eqb other.arrival.channel oldest.arrival.channel same) (eq-eqb other.arrival.number number is)) in
        let distinct : place_of oldest one ≢ place_of oldest other = λ is.
        apart (sym (places-injective e one.arrival.number other.arrival.number oldest.arrival.in_range one.arrival.in_range other.arrival.in_range is) ∙ is_number) in
        omega (arith, most, distinct)

    pub next-is : IsNext waiting (record { time = oldest.came; arrival = one.arrival }) (remove waiting at)
    next-is = record {
      oldest = oldest;
      stands_first = stands_first;
      in_its_time = refl;
      at = at;
      one = one;
      stands = stands;
      itself = refl;
      of_channel = (has-parts oldest.arrival.channel number one has_it).0;
      least = least;
      first = sooner;
      others = refl;
    }
