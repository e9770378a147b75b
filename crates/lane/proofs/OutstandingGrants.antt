-- What is outstanding after one more input, and how many numbers are.
use Rattle.std.proofs.Common.{◌≡◌, ◌≢◌, ℕ, ◌+◌, ◌-◌, ◌<◌, ◌≤◌, ◌↔◌, ⊎_elim, true, false, IsTrue, Some, None, Ok, Err, List, [], ◌∷◌, ◌++◌, length, get_or, count_by, sym, ap, subst, ◌∙◌, refl, arith, append_assoc}
use Rattle.std.specs.List.{AllPairs, Contains, remove}
use Rattle.std.proofs.lemmas.Bool.{cases_eq, cases_lt, false≢true}
use Rattle.std.proofs.lemmas.List.{append-nil, length-append, get_or_default}
use Rattle.std.proofs.lemmas.List.Edits.{length-remove, get_or-remove_below, get_or-remove_above}
use Rattle.std.proofs.lemmas.List.Elements.{Contains-append_left, Contains-push, Contains-push_cases, Contains-get_or}
use Rattle.std.proofs.lemmas.List.Quantifiers.{all_pairs_push, all_pairs_remove}
use Rattle.lane.specs.declared.input.Input.{Input}
use Rattle.lane.specs.declared.input.Input.TheVariants.{Grant, Burst}
use Rattle.lane.specs.declared.refusal.Refusal.TheVariants.{NoGrant}
use Rattle.lane.specs.Inputs.{LaneSetup, Answer, AnsweredInput, IsOutstanding, IsKnown, AreOutstanding, IsAnswer, AreAnswered, number_of, is_accepted, refusal_spends, spends_its_grant, outstanding_count}
use Rattle.lane.proofs.LaneTaking.{count-no, count-yes, by-cases, spends, Leaves, granted, still-outstanding, was-outstanding, now-outstanding, answered-before, answered-last}

module _ (taken : List AnsweredInput) (one : AnsweredInput) where
  abbrev then : List AnsweredInput
  then = taken ++ one ∷ []

  -- an accepted grant is outstanding
  pub accepted : (number sid bytes : ℕ) → one.input ≡ Grant number sid bytes → one.answer ≡ Ok None → IsOutstanding then number sid bytes
  accepted number sid bytes input answer =
      let same : one ≡ granted number sid bytes =
      ap (λ i. let t : AnsweredInput = record { input = i; answer = one.answer } in t) input
      ∙ ap (λ a. let t : AnsweredInput = record { input = Grant number sid bytes; answer = a } in t) answer in
      subst (λ t. IsOutstanding (taken ++ t ∷ []) number sid bytes) (sym same) (now-outstanding taken number sid bytes)

  -- what is outstanding stays so, and nothing else becomes so
  as-before : (number sid bytes : ℕ) → Leaves number one → one ≢ granted number sid bytes
      → IsOutstanding then number sid bytes ↔ IsOutstanding taken number sid bytes
  as-before number sid bytes leaves other = (
    λ is. ⊎_elim (λ was. was.0) (λ now. absurd (other now)) (was-outstanding taken one number sid bytes is),
    λ was. still-outstanding taken one number sid bytes was leaves,
  )

  -- of the other numbers
  pub other-numbers : (number sid bytes : ℕ) → number_of one.input ≢ number
      → IsOutstanding then number sid bytes ↔ IsOutstanding taken number sid bytes
  other-numbers number sid bytes apart =
      as-before number sid bytes (λ same _. apart same) (λ same. apart (ap (λ (t : AnsweredInput). number_of t.input) same))

  -- of all numbers where nothing is accepted and nothing spent
  pub other-answers : (number sid bytes : ℕ) → ¬ (IsTrue (is_accepted one)) → ¬ (IsTrue (spends_its_grant one))
      → IsOutstanding then number sid bytes ↔ IsOutstanding taken number sid bytes
  other-answers number sid bytes unaccepted unspent =
      as-before number sid bytes (λ _ spent. unspent spent) (λ same. unaccepted (ap is_accepted same))

  -- a spent grant isn't outstanding
  pub spent : IsTrue (spends_its_grant one) → ¬ (IsKnown then (number_of one.input))
  spent spends known =
      ⊎_elim
      (λ was. was.1 refl spends)
      (λ now. false≢true (ap spends_its_grant (sym now) ∙ spends))
      (was-outstanding taken one (number_of one.input) known.0 known.1 known.2)

-- what holds of no elements, and of each list with one more at its end, holds of all lists
module _ {X : Type 0} (P : List X → Type 0) (none : P []) (more : (xs : List X) (x : X) → P xs → P (xs ++ x ∷ [])) where
  with-more : (xs ys : List X) → P xs → P (xs ++ ys)
  with-more xs [] is = subst P (sym (append-nil xs)) is
  with-more xs (y ∷ ys) is = subst P (append_assoc xs (y ∷ []) ys) (with-more (xs ++ y ∷ []) ys (more xs y is))

  pub one-by-one : (xs : List X) → P xs
  one-by-one xs = with-more [] xs none

-- numbers of which each stands once
abbrev Different : List ℕ → Type 0
Different numbers = AllPairs (λ number other. number ≢ other) numbers

module _ (numbers : List ℕ) (different : Different numbers) where
  -- with a new one at the end
  different-more : (number : ℕ) → ¬ (Contains numbers number) → Different (numbers ++ number ∷ [])
  different-more number new =
      all_pairs_push (λ (n m : ℕ). n ≢ m) numbers number different
      (λ k d within same. new (subst (Contains numbers) same (Contains-get_or numbers k d within)))

  contains-more : (number other : ℕ) → number ≢ other → Contains (numbers ++ number ∷ []) other ↔ Contains numbers other
  contains-more number other apart = (
    λ is. ⊎_elim (λ was. was) (λ same. absurd (apart same)) (Contains-push_cases numbers number other is),
    λ is. Contains-append_left numbers (number ∷ []) other is,
  )

  -- and without one of them
  module _ (k : ℕ) (within : k < length numbers) where
    -- a place of the list without it
    place-left : (j d : ℕ) → j < length (remove numbers k)
        → (i : ℕ) × (i < length numbers) × (i ≢ k) × (get_or (remove numbers k) j d ≡ get_or numbers i d)
    place-left j d inside =
        let long = length-remove numbers k within in
        ⊎_elim
        (λ (before : j < k). (j, omega arith, (λ same. omega arith), get_or-remove_below numbers k d j before within))
        (λ (after : k ≤ j). (j + 1, omega arith, (λ same. omega arith), get_or-remove_above numbers k d j after within))
        (cases_lt j k)

    place-stays : (i d : ℕ) → i < length numbers → i ≢ k
        → (j : ℕ) × (j < length (remove numbers k)) × (get_or (remove numbers k) j d ≡ get_or numbers i d)
    place-stays i d inside apart =
        let long = length-remove numbers k within in
        ⊎_elim
        (λ (before : i < k). (i, omega arith, get_or-remove_below numbers k d i before within))
        (λ (after : k ≤ i).
        let back : i - 1 + 1 ≡ i = omega arith in
        (i - 1, omega arith, get_or-remove_above numbers k d (i - 1) (omega arith) within ∙ ap (λ n. get_or numbers n d) back))
        (cases_lt i k)

    -- two places have different numbers
    apart-at : (i d : ℕ) → i < length numbers → i ≢ k → get_or numbers i d ≢ get_or numbers k d
    apart-at i d inside apart same =
        ⊎_elim
        (λ (before : i < k). different i k d before within same)
        (λ (after : k ≤ i). different k i d (omega arith) inside (sym same))
        (cases_lt i k)

    contains-left : (number other : ℕ) → get_or numbers k number ≡ number
        → Contains (remove numbers k) other ↔ (Contains numbers other × (number ≢ other))
    contains-left number other at =
        let here : get_or numbers k other ≡ number = get_or_default numbers k other number within ∙ at in (
          λ is.
              let place = place-left is.0 other is.1 in
              let there = sym place.3 ∙ is.2 in
              ((place.0, place.1, there), λ same. apart-at place.0 other place.1 place.2 (there ∙ sym same ∙ sym here)),
          λ (is, apart).
              let place = place-stays is.0 other is.1 (λ same. apart (sym here ∙ ap (λ n. get_or numbers n other) (sym same) ∙ is.2)) in
              (place.0, place.1, place.2 ∙ is.2),
        )

-- there are as many outstanding numbers as grants that were accepted and not spent
pub record IsCounted (taken : List AnsweredInput) : Type 0 where
  pub numbers : List ℕ
  pub are : AreOutstanding taken numbers
  pub count : length numbers + count_by spends_its_grant taken ≡ count_by is_accepted taken

none-counted : IsCounted []
none-counted = record {
  numbers = [];
  are = record {
    different = λ i j d before within. absurd (omega arith);
    known = λ number. (λ contains. let within = contains.1 in absurd (omega arith), λ known. let stands = known.2.stands in absurd (cc));
  };
  count = refl;
}

module _ (taken : List AnsweredInput) (one : AnsweredInput) where
  -- a number is known as it was if its grants are outstanding as they were
  known-as : (number : ℕ) → ((sid bytes : ℕ) → IsOutstanding (then taken one) number sid bytes ↔ IsOutstanding taken number sid bytes)
      → IsKnown (then taken one) number ↔ IsKnown taken number
  known-as number same = (
    λ known. (known.0, known.1, (same known.0 known.1).0 known.2),
    λ known. (known.0, known.1, (same known.0 known.1).1 known.2),
  )

  -- nothing was accepted and nothing spent
  counted-left : is_accepted one ≡ false → spends_its_grant one ≡ false → IsCounted taken → IsCounted (then taken one)
  counted-left unaccepted unspent counted =
      let accepted_before = count-no is_accepted taken one unaccepted in
      let spent_before = count-no spends_its_grant taken one unspent in
      let count = counted.count in
      record {
        numbers = counted.numbers;
        are = record {
          different = counted.are.different;
          known = λ number.
              let stays = known-as number (λ sid bytes.
              other-answers taken one number sid bytes (λ is. false≢true (sym unaccepted ∙ is)) (λ is. false≢true (sym unspent ∙ is))) in
              (λ is. stays.1 ((counted.are.known number).0 is), λ is. (counted.are.known number).1 (stays.0 is));
        };
        count = omega arith;
      }

  -- a grant was spent
  counted-spent : is_accepted one ≡ false → spends_its_grant one ≡ true → IsKnown taken (number_of one.input) → IsCounted taken
      → IsCounted (then taken one)
  counted-spent unaccepted is_spent known counted =
      let accepted_before = count-no is_accepted taken one unaccepted in
      let spent_more = count-yes spends_its_grant taken one is_spent in
      let count = counted.count in
      let place = (counted.are.known (number_of one.input)).1 known in
      let long = length-remove counted.numbers place.0 place.1 in
      record {
        numbers = remove counted.numbers place.0;
        are = record {
          different = all_pairs_remove (λ (n m : ℕ). n ≢ m) counted.numbers place.0 place.1 counted.are.different;
          known = λ number.
              let left = contains-left counted.numbers counted.are.different place.0 place.1 (number_of one.input) number place.2 in
              let stays = λ (apart : number_of one.input ≢ number). known-as number (λ sid bytes. other-numbers taken one number sid bytes apart) in (
                λ is. let was = left.0 is in (stays was.1).1 ((counted.are.known number).0 was.0),
                λ is.
                    let apart = λ (same : number_of one.input ≡ number). spent taken one is_spent (subst (IsKnown (then taken one)) (sym same) is) in
                    left.1 ((counted.are.known number).1 ((stays apart).0 is), apart),
              );
        };
        count = omega arith;
      }

-- a grant was accepted
counted-accepted : (taken : List AnsweredInput) (number sid bytes : ℕ) → ¬ (IsKnown taken number) → IsCounted taken
    → IsCounted (taken ++ granted number sid bytes ∷ [])
counted-accepted taken number sid bytes unknown counted =
    let one = granted number sid bytes in
    let accepted_more = count-yes is_accepted taken one refl in
    let spent_before = count-no spends_its_grant taken one refl in
    let count = counted.count in
    let long = length-append counted.numbers (number ∷ []) in
    record {
      numbers = counted.numbers ++ number ∷ [];
      are = record {
        different = different-more counted.numbers counted.are.different number (λ is. unknown ((counted.are.known number).0 is));
        known = λ other.
            ⊎_elim
            (λ (same : number ≡ other).
            subst (λ n. Contains (counted.numbers ++ number ∷ []) n ↔ IsKnown (taken ++ one ∷ []) n) same
            (λ _. (sid, bytes, now-outstanding taken number sid bytes), λ _. Contains-push counted.numbers number))
            (λ (apart : number ≢ other).
            let more = contains-more counted.numbers counted.are.different number other apart in
            let stays = known-as taken one other (λ s b. other-numbers taken one other s b apart) in
            (λ is. stays.1 ((counted.are.known other).0 (more.0 is)), λ is. more.1 ((counted.are.known other).1 (stays.0 is))))
            (cases_eq number other);
      };
      count = omega arith;
    }

module _ (setup : LaneSetup) where
  counted-more : (taken : List AnsweredInput) (input : Input) (answer : Answer) → IsAnswer setup taken input answer → IsCounted taken
      → IsCounted (taken ++ record { input = input; answer = answer } ∷ [])
  counted-more taken (Grant number sid bytes) (Ok None) is counted = counted-accepted taken number sid bytes is.1 counted
  counted-more taken (Grant number sid bytes) (Ok (Some admitted)) is counted = absurd is
  counted-more taken (Grant number sid bytes) (Err refusal) is counted =
      counted-left taken (record { input = Grant number sid bytes; answer = Err refusal }) refl refl counted
  counted-more taken (Burst number hcs_ok bytes) (Ok None) is counted = absurd is
  counted-more taken (Burst number hcs_ok bytes) (Ok (Some admitted)) is counted =
      counted-spent taken (record { input = Burst number hcs_ok bytes; answer = Ok (Some admitted) }) refl refl
      (is.1.sid, is.0.bytes, is.1.outstanding) counted
  counted-more taken (Burst number hcs_ok bytes) (Err refusal) is counted =
      let one : AnsweredInput = record { input = Burst number hcs_ok bytes; answer = Err refusal } in
      ⊎_elim
      (λ none. let same : refusal ≡ NoGrant = cc in counted-left taken one refl (ap refusal_spends same) counted)
      (λ some.
      counted-spent taken one refl (spends setup.channel some.0 hcs_ok bytes refusal some.2) (some.1.sid, some.0.bytes, some.1.outstanding) counted)
      (by-cases setup taken number hcs_ok bytes (Err refusal) is)

  -- of a list that is answered rightly they can be counted
  pub all-counted : (taken : List AnsweredInput) → AreAnswered setup taken → IsCounted taken
  all-counted =
      one-by-one (λ taken. AreAnswered setup taken → IsCounted taken) (λ _. none-counted)
      (λ taken one counted answered.
      counted-more taken one.input one.answer (answered-last setup taken one answered) (counted (answered-before setup taken one answered)))

  pub outstanding-numbers : (taken : List AnsweredInput) → AreAnswered setup taken
      → (numbers : List ℕ) × AreOutstanding taken numbers × (length numbers ≡ outstanding_count taken)
  outstanding-numbers taken answered =
      let counted = all-counted taken answered in
      let count = counted.count in
      (counted.numbers, counted.are, omega arith)
