-- What one more input makes of what is outstanding, and of what a lane stands for.
use Rattle.std.proofs.Common.{◌≡◌, ◌≢◌, ℕ, ◌+◌, ◌⊎◌, inl, inr, ⊎_elim, Bool, true, false, cond, IsTrue, Option, Some, None, MatchOption, is_some, Result, Ok, Err, List, [], ◌∷◌, ◌++◌, length, take, slice_get, count_by, nat_eq, sym, ap, subst, ◌∙◌, refl, arith, zero, suc}
use Rattle.std.specs.HashMap.{HashMap, get, hash_map_len}
use Rattle.std.specs.declared.hash.FoldHasher.{FoldHasher}
use Rattle.std.specs.declared.hash.BuildHasherDefault.{BuildHasherDefault}
use Rattle.std.specs.Map.{lookup}
use Rattle.std.proofs.lemmas.Bool.{cases_eq, ne_eqb, false≢true}
use Rattle.std.proofs.lemmas.Option.{slice_get_within, same_Some}
use Rattle.std.proofs.lemmas.List.{take-append-le, length-append}
use Rattle.std.proofs.lemmas.List.Sums.{sum_by_push}
use Rattle.std.proofs.Math.Seq.{take-append_seam}
use Rattle.docsis_wire.proofs.StreamPlaces.{slice_get-at}
use Rattle.lane.specs.declared.admitted.Admitted.{Admitted}
use Rattle.lane.specs.declared.input.Input.TheVariants.{Grant}
use Rattle.lane.specs.declared.grant.SidFlow.{SidFlow}
use Rattle.lane.specs.declared.grant.OutstandingGrant.{OutstandingGrant}
use Rattle.lane.specs.declared.lane.Lane.{Lane}
use Rattle.lane.specs.Inputs.{LaneSetup, AnsweredInput, IsUnknown, IsFlowOf, IsOutstanding, IsKnown, IsGrant, IsAnswer, AreAnswered, IsAnswerToBurst, number_of, outstanding_count, refusal_spends, is_accepted, spends_its_grant}
use Rattle.lane.specs.declared.refusal.Refusal.{Refusal}
use Rattle.lane.specs.declared.refusal.Refusal.TheVariants.{GrantRange, GrantKnown, UnknownSid, TooManyGrants, GrantOutOfMemory, NoGrant, TooLong, BadCheck, TooShort, PointerPast, BurstOutOfMemory}
use Rattle.lane.specs.Admission.{Fits, IsMadeOf}
use Rattle.lane.specs.Stands.{StandsFor, HasFlows, flow_at}

module _ {X : Type 0} where
  -- what stands in a list stands in one that it begins
  pub stays-behind : (xs ys : List X) (k : ℕ) (x : X) → slice_get xs k ≡ Some x → slice_get (xs ++ ys) k ≡ Some x
  stays-behind [] ys k x is = absurd (cc)
  stays-behind (y ∷ xs) ys zero x is = is
  stays-behind (y ∷ xs) ys (suc k) x is = stays-behind xs ys k x is

  -- what stands in a list with one more is of the list, or is the one more
  pub from-pushed : (xs : List X) (y : X) (k : ℕ) (x : X) → slice_get (xs ++ y ∷ []) k ≡ Some x
      → (slice_get xs k ≡ Some x) ⊎ ((k ≡ length xs) × (x ≡ y))
  from-pushed [] y zero x is = inr (refl, sym (same_Some _ _ is))
  from-pushed [] y (suc k) x is = absurd (cc)
  from-pushed (z ∷ xs) y zero x is = inl is
  from-pushed (z ∷ xs) y (suc k) x is =
      ⊎_elim (λ of. inl of) (λ last. inr (ap suc last.0, last.1)) (from-pushed xs y k x is)

  -- a count of a list with one more
  pub count-no : (p : X → Bool) (xs : List X) (x : X) → p x ≡ false → count_by p (xs ++ x ∷ []) ≡ count_by p xs
  count-no p xs x is = let pushed = sum_by_push (λ y. cond (p y) 1 0) xs x in let none : cond {A = ℕ} (p x) 1 0 ≡ 0 = ap (λ b. cond {A = ℕ} b 1 0) is in omega arith

  pub count-yes : (p : X → Bool) (xs : List X) (x : X) → p x ≡ true → count_by p (xs ++ x ∷ []) ≡ count_by p xs + 1
  count-yes p xs x is = let pushed = sum_by_push (λ y. cond (p y) 1 0) xs x in let one : cond {A = ℕ} (p x) 1 0 ≡ 1 = ap (λ b. cond {A = ℕ} b 1 0) is in omega arith

  -- what holds of an option holds of it by weaker words
  pub either-way : (P P' : Type 0) (Q Q' : X → Type 0) (o : Option X) → (P → P') → ((x : X) → Q x → Q' x) → MatchOption o P Q → MatchOption o P' Q'
  either-way P P' Q Q' None none some is = none is
  either-way P P' Q Q' (Some x) none some is = some x is

  -- there is nothing where nothing is found
  pub none-from : (o : Option X) → is_some o ≡ false → o ≡ None
  none-from None found = refl
  none-from (Some x) found = absurd (false≢true (sym found))

  -- there is what is found
  some-from : (P : Type 0) (Q : X → Type 0) (o : Option X) → is_some o ≡ true → MatchOption o P Q → (x : X) × Q x
  some-from P Q None found is = absurd (false≢true found)
  some-from P Q (Some x) found is = (x, is)

-- a grant that was accepted, with its answer
abbrev pub granted : ℕ → ℕ → ℕ → AnsweredInput
granted number sid bytes = record { input = Grant number sid bytes; answer = Ok None }

-- the input doesn't spend the grant of this number
abbrev pub Leaves : ℕ → AnsweredInput → Type 0
Leaves number one = number_of one.input ≡ number → ¬ (IsTrue (spends_its_grant one))

module _ (taken : List AnsweredInput) (one : AnsweredInput) where
  abbrev pub more : List AnsweredInput
  more = taken ++ one ∷ []

  -- a grant that isn't spent stays outstanding
  pub still-outstanding : (number sid bytes : ℕ) → IsOutstanding taken number sid bytes → Leaves number one → IsOutstanding more number sid bytes
  still-outstanding number sid bytes is leaves = record {
    at = is.at;
    stands = stays-behind taken (one ∷ []) is.at (granted number sid bytes) is.stands;
    unspent = λ j other after stands of_number spent.
        ⊎_elim
        (λ was. is.unspent j other after was of_number spent)
        (λ last. leaves (ap (λ (t : AnsweredInput). number_of t.input) (sym last.1) ∙ of_number) (subst (λ (t : AnsweredInput). IsTrue (spends_its_grant t)) last.1 spent))
        (from-pushed taken one j other stands);
  }

  -- what is outstanding was so before and isn't spent, or was accepted now
  pub was-outstanding : (number sid bytes : ℕ) → IsOutstanding more number sid bytes
      → (IsOutstanding taken number sid bytes × Leaves number one) ⊎ (one ≡ granted number sid bytes)
  was-outstanding number sid bytes is =
      ⊎_elim
      (λ (was : slice_get taken is.at ≡ Some (granted number sid bytes)).
      inl (
        record { at = is.at; stands = was; unspent = λ j other after stands of_number spent. is.unspent j other after (stays-behind taken (one ∷ []) j other stands) of_number spent },
        λ of_number spent. is.unspent (length taken) one (slice_get_within taken is.at (granted number sid bytes) was) (slice_get-at taken one []) of_number spent,
      ))
      (λ last. inr (sym last.1))
      (from-pushed taken one is.at (granted number sid bytes) is.stands)

-- an accepted grant is outstanding
pub now-outstanding : (taken : List AnsweredInput) (number sid bytes : ℕ) → IsOutstanding (taken ++ granted number sid bytes ∷ []) number sid bytes
now-outstanding taken number sid bytes = record {
  at = length taken;
  stands = slice_get-at taken (granted number sid bytes) [];
  unspent = λ j other after stands of_number spent.
      let within = slice_get_within (taken ++ granted number sid bytes ∷ []) j other stands in
      let long = length-append taken (granted number sid bytes ∷ []) in
      absurd (omega arith);
}

module _ (setup : LaneSetup) (taken : List AnsweredInput) (one : AnsweredInput) where
  abbrev then : List AnsweredInput
  then = taken ++ one ∷ []

  pub answered-more : AreAnswered setup taken → IsAnswer setup taken one.input one.answer → AreAnswered setup then
  answered-more answered is k other stands =
      ⊎_elim
      (λ (was : slice_get taken k ≡ Some other).
      let within = slice_get_within taken k other was in
      subst (λ t. IsAnswer setup t other.input other.answer) (sym (take-append-le k taken (one ∷ []) (omega arith))) (answered k other was))
      (λ last.
      let before : take k then ≡ taken = ap (λ n. take n then) last.0 ∙ take-append_seam taken (one ∷ []) in
      subst (λ (t : AnsweredInput). IsAnswer setup (take k then) t.input t.answer) (sym last.1)
      (subst (λ t. IsAnswer setup t one.input one.answer) (sym before) is))
      (from-pushed taken one k other stands)

  -- the other way round: the inputs before it were answered, and it after them
  pub answered-before : AreAnswered setup then → AreAnswered setup taken
  answered-before answered k other was =
      let within = slice_get_within taken k other was in
      subst (λ t. IsAnswer setup t other.input other.answer) (take-append-le k taken (one ∷ []) (omega arith))
      (answered k other (stays-behind taken (one ∷ []) k other was))

  pub answered-last : AreAnswered setup then → IsAnswer setup taken one.input one.answer
  answered-last answered =
      subst (λ t. IsAnswer setup t one.input one.answer) (take-append_seam taken (one ∷ []))
      (answered (length taken) one (slice_get-at taken one []))

  -- a grant that isn't spent stays
  still-granted : (number : ℕ) (grant : OutstandingGrant) → Leaves number one → IsGrant setup taken number grant → IsGrant setup then number grant
  still-granted number grant leaves is =
      record { sid = is.sid; outstanding = still-outstanding taken one number is.sid grant.bytes is.outstanding leaves; flow = is.flow }

  -- a number that isn't known becomes so by its grant alone
  still-unknown : (number : ℕ) → ((sid bytes : ℕ) → one ≢ granted number sid bytes) → ¬ (IsKnown taken number) → ¬ (IsKnown then number)
  still-unknown number other unknown known =
      ⊎_elim
      (λ was. unknown (known.0, known.1, was.0))
      (λ now. other known.0 known.1 now)
      (was-outstanding taken one number known.0 known.1 known.2)

  -- a lane stays as it is where nothing was accepted and nothing was spent
  pub stands-as-before : (lane : Lane) → is_accepted one ≡ false → spends_its_grant one ≡ false
      → IsAnswer setup taken one.input one.answer → StandsFor setup lane taken → StandsFor setup lane then
  stands-as-before lane unaccepted unspent is stands = record {
    channel = stands.channel;
    answered = answered-more stands.answered is;
    flows = stands.flows;
    grants = λ number.
        either-way (¬ (IsKnown taken number)) (¬ (IsKnown then number)) (IsGrant setup taken number) (IsGrant setup then number) (get nat_eq lane.grants number)
        (still-unknown number (λ sid bytes same. false≢true (sym unaccepted ∙ ap is_accepted same)))
        (λ grant. still-granted number grant (λ of_number spent. false≢true (sym unspent ∙ spent)))
        (stands.grants number);
    count = let count = stands.count in
        let spent = count-no spends_its_grant taken one unspent in
        let accepted = count-no is_accepted taken one unaccepted in
        omega arith;
  }

-- a lane whose grants have the same entries stands for the same
pub stands-for-same : (setup : LaneSetup) (taken : List AnsweredInput) (lane : Lane) (grants : HashMap ℕ OutstandingGrant (BuildHasherDefault FoldHasher))
    → grants.entries ≡ lane.grants.entries → StandsFor setup lane taken → StandsFor setup (record lane { grants = grants }) taken
stands-for-same setup taken lane grants same stands = record {
  channel = stands.channel;
  answered = stands.answered;
  flows = stands.flows;
  grants = λ number.
      let at = ap (lookup (nat_eq number)) same in
      let Goal : Option OutstandingGrant → Type 0 = λ o. MatchOption o (¬ (IsKnown taken number)) (IsGrant setup taken number) in
      subst Goal (sym at) (stands.grants number);
  count = let count = stands.count in let as_many = ap length same in omega arith;
}

-- one key is not at another
pub not-at : (k q : ℕ) → q ≢ k → nat_eq k q ≡ false
not-at k q apart = ne_eqb k q (λ same. apart (sym same))

module _ (setup : LaneSetup) (taken : List AnsweredInput) (lane : Lane) (grants : HashMap ℕ OutstandingGrant (BuildHasherDefault FoldHasher)) where
  -- a lane that keeps an accepted grant
  pub stands-with : (number sid : ℕ) (grant : OutstandingGrant)
      → get nat_eq grants number ≡ Some grant → ((q : ℕ) → nat_eq number q ≡ false → get nat_eq grants q ≡ get nat_eq lane.grants q)
      → hash_map_len grants ≡ hash_map_len lane.grants + 1 → IsFlowOf setup sid grant.flow
      → IsAnswer setup taken (Grant number sid grant.bytes) (Ok None) → StandsFor setup lane taken
      → StandsFor setup (record lane { grants = grants }) (taken ++ granted number sid grant.bytes ∷ [])
  stands-with number sid grant here others len flow is stands =
      let one = granted number sid grant.bytes in
      record {
        channel = stands.channel;
        answered = answered-more setup taken one stands.answered is;
        flows = stands.flows;
        grants = λ q.
            let Goal : Option OutstandingGrant → Type 0 = λ o. MatchOption o (¬ (IsKnown (taken ++ one ∷ []) q)) (IsGrant setup (taken ++ one ∷ []) q) in
            ⊎_elim
            (λ (same : q ≡ number).
            subst (λ n. MatchOption (get nat_eq grants n) (¬ (IsKnown (taken ++ one ∷ []) n)) (IsGrant setup (taken ++ one ∷ []) n)) (sym same)
            (subst (λ o. MatchOption o (¬ (IsKnown (taken ++ one ∷ []) number)) (IsGrant setup (taken ++ one ∷ []) number)) (sym here)
            (record { sid = sid; outstanding = now-outstanding taken number sid grant.bytes; flow = flow })))
            (λ (apart : q ≢ number).
            subst Goal (sym (others q (not-at number q apart)))
            (either-way (¬ (IsKnown taken q)) (¬ (IsKnown (taken ++ one ∷ []) q)) (IsGrant setup taken q) (IsGrant setup (taken ++ one ∷ []) q) (get nat_eq lane.grants q)
            (still-unknown setup taken one q (λ s b same. apart (sym (ap (λ (t : AnsweredInput). number_of t.input) same))))
            (λ grant'. still-granted setup taken one q grant' (λ of_number spent. false≢true spent))
            (stands.grants q)))
            (cases_eq q number);
        count = let count = stands.count in
            let spent = count-no spends_its_grant taken one refl in
            let accepted = count-yes is_accepted taken one refl in
            omega arith;
      }

  -- a lane that forgets a spent grant
  pub stands-without : (one : AnsweredInput) (number : ℕ) → number_of one.input ≡ number → is_accepted one ≡ false → spends_its_grant one ≡ true
      → get nat_eq grants number ≡ None → ((q : ℕ) → nat_eq number q ≡ false → get nat_eq grants q ≡ get nat_eq lane.grants q)
      → hash_map_len grants + 1 ≡ hash_map_len lane.grants
      → IsAnswer setup taken one.input one.answer → StandsFor setup lane taken
      → StandsFor setup (record lane { grants = grants }) (taken ++ one ∷ [])
  stands-without one number of_number unaccepted spent here others len is stands =
      record {
        channel = stands.channel;
        answered = answered-more setup taken one stands.answered is;
        flows = stands.flows;
        grants = λ q.
            let Goal : Option OutstandingGrant → Type 0 = λ o. MatchOption o (¬ (IsKnown (taken ++ one ∷ []) q)) (IsGrant setup (taken ++ one ∷ []) q) in
            ⊎_elim
            (λ (same : q ≡ number).
            subst Goal (sym (ap (get nat_eq grants) same ∙ here))
            (λ known.
            ⊎_elim
            (λ was. was.1 (of_number ∙ sym same) spent)
            (λ now. false≢true (sym unaccepted ∙ ap is_accepted now))
            (was-outstanding taken one q known.0 known.1 known.2)))
            (λ (apart : q ≢ number).
            subst Goal (sym (others q (not-at number q apart)))
            (either-way (¬ (IsKnown taken q)) (¬ (IsKnown (taken ++ one ∷ []) q)) (IsGrant setup taken q) (IsGrant setup (taken ++ one ∷ []) q) (get nat_eq lane.grants q)
            (still-unknown setup taken one q (λ s b same. false≢true (sym unaccepted ∙ ap is_accepted same)))
            (λ grant. still-granted setup taken one q grant (λ of_q _. apart (sym of_q ∙ of_number)))
            (stands.grants q)))
            (cases_eq q number);
        count = let count = stands.count in
            let spending = count-yes spends_its_grant taken one spent in
            let accepted = count-no is_accepted taken one unaccepted in
            omega arith;
      }

-- a lane of which nothing is outstanding stands for no inputs
pub new-stands : (setup : LaneSetup) (lane : Lane) → lane.channel ≡ setup.channel → HasFlows setup lane.flows.items → lane.grants.entries ≡ []
    → StandsFor setup lane []
new-stands setup lane channel flows empty = record {
  channel = channel;
  answered = λ k one stands. absurd (cc);
  flows = flows;
  grants = λ number.
      subst (λ o. MatchOption o (¬ (IsKnown [] number)) (IsGrant setup [] number)) (sym (ap (lookup (nat_eq number)) empty))
      (λ known. let stands = known.2.stands in absurd (cc));
  count = let none = ap length empty in omega arith;
}

module _ (setup : LaneSetup) (taken : List AnsweredInput) (lane : Lane) (stands : StandsFor setup lane taken) where
  -- what the maps say is so
  pub known-from : (number : ℕ) → is_some (get nat_eq lane.grants number) ≡ true → IsKnown taken number
  known-from number found =
      let is = some-from (¬ (IsKnown taken number)) (IsGrant setup taken number) (get nat_eq lane.grants number) found (stands.grants number) in
      (is.1.sid, is.0.bytes, is.1.outstanding)

  pub unknown-from : (number : ℕ) → get nat_eq lane.grants number ≡ None → ¬ (IsKnown taken number)
  unknown-from number none =
      let Goal : Option OutstandingGrant → Type 0 = λ o. MatchOption o (¬ (IsKnown taken number)) (IsGrant setup taken number) in
      subst Goal none (stands.grants number)

  pub grant-from : (number : ℕ) (grant : OutstandingGrant) → get nat_eq lane.grants number ≡ Some grant → IsGrant setup taken number grant
  grant-from number grant some =
      let Goal : Option OutstandingGrant → Type 0 = λ o. MatchOption o (¬ (IsKnown taken number)) (IsGrant setup taken number) in
      subst Goal some (stands.grants number)

  pub no-flow-from : (sid : ℕ) → flow_at lane.flows.items sid ≡ None → IsUnknown setup sid
  no-flow-from sid none =
      let Goal : Option SidFlow → Type 0 = λ o. MatchOption o (IsUnknown setup sid) (IsFlowOf setup sid) in
      subst Goal none (stands.flows sid)

  pub flow-from : (sid : ℕ) (flow : SidFlow) → flow_at lane.flows.items sid ≡ Some flow → IsFlowOf setup sid flow
  flow-from sid flow some =
      let Goal : Option SidFlow → Type 0 = λ o. MatchOption o (IsUnknown setup sid) (IsFlowOf setup sid) in
      subst Goal some (stands.flows sid)

  pub has-row : (sid : ℕ) (flow : SidFlow) → IsFlowOf setup sid flow → ¬ (IsUnknown setup sid)
  has-row sid flow is none = none is.k is.row is.of_row

  pub as-many : hash_map_len lane.grants ≡ outstanding_count taken
  as-many = let count = stands.count in omega arith

module _ (setup : LaneSetup) (taken : List AnsweredInput) (number : ℕ) (hcs_ok : Bool) (bytes : List ℕ) where
  -- the answer to a burst by cases
  abbrev pub ByCases : Result Admitted Refusal → Type 0
  ByCases answer =
      (¬ (IsKnown taken number) × (answer ≡ Err NoGrant))
      ⊎ ((grant : OutstandingGrant) × IsGrant setup taken number grant × IsMadeOf setup.channel grant hcs_ok bytes answer)

  pub by-cases : (answer : Result Admitted Refusal) → IsAnswerToBurst setup taken number hcs_ok bytes answer → ByCases answer
  by-cases (Err NoGrant) is = inl (is, refl)
  by-cases (Ok admitted) is = inr is
  by-cases (Err _) is = inr is

-- a refusal that is made of a burst spends its grant
pub spends : (channel : ℕ) (grant : OutstandingGrant) (hcs_ok : Bool) (bytes : List ℕ) (refusal : Refusal)
    → IsMadeOf channel grant hcs_ok bytes (Err refusal) → refusal_spends refusal ≡ true
spends channel grant hcs_ok bytes TooLong made = refl
spends channel grant hcs_ok bytes BadCheck made = refl
spends channel grant hcs_ok bytes TooShort made = refl
spends channel grant hcs_ok bytes PointerPast made = refl
spends channel grant hcs_ok bytes GrantRange made = absurd made
spends channel grant hcs_ok bytes GrantKnown made = absurd made
spends channel grant hcs_ok bytes UnknownSid made = absurd made
spends channel grant hcs_ok bytes TooManyGrants made = absurd made
spends channel grant hcs_ok bytes GrantOutOfMemory made = absurd made
spends channel grant hcs_ok bytes NoGrant made = absurd made
spends channel grant hcs_ok bytes BurstOutOfMemory made = absurd made

-- a burst that is refused doesn't fit its grant
pub refused-unfit : (channel : ℕ) (grant : OutstandingGrant) (hcs_ok : Bool) (bytes : List ℕ) (refusal : Refusal)
    → IsMadeOf channel grant hcs_ok bytes (Err refusal) → ¬ (Fits grant hcs_ok bytes)
refused-unfit channel grant hcs_ok bytes TooLong made fits = let long = made in let short = fits.0 in omega arith
refused-unfit channel grant hcs_ok bytes BadCheck made fits = made.1 fits.1
refused-unfit channel grant hcs_ok bytes TooShort made fits = let short = made.2 in let long = fits.2 in omega arith
refused-unfit channel grant hcs_ok bytes PointerPast made fits = fits.3 made.2
refused-unfit channel grant hcs_ok bytes GrantRange made fits = made
refused-unfit channel grant hcs_ok bytes GrantKnown made fits = made
refused-unfit channel grant hcs_ok bytes UnknownSid made fits = made
refused-unfit channel grant hcs_ok bytes TooManyGrants made fits = made
refused-unfit channel grant hcs_ok bytes GrantOutOfMemory made fits = made
refused-unfit channel grant hcs_ok bytes NoGrant made fits = made
refused-unfit channel grant hcs_ok bytes BurstOutOfMemory made fits = made

-- and it is the answer to the burst
pub answers-burst : (setup : LaneSetup) (taken : List AnsweredInput) (number : ℕ) (hcs_ok : Bool) (bytes : List ℕ) (grant : OutstandingGrant) (refusal : Refusal)
    → IsGrant setup taken number grant → IsMadeOf setup.channel grant hcs_ok bytes (Err refusal) → IsAnswerToBurst setup taken number hcs_ok bytes (Err refusal)
answers-burst setup taken number hcs_ok bytes grant TooLong is made = (grant, is, made)
answers-burst setup taken number hcs_ok bytes grant BadCheck is made = (grant, is, made)
answers-burst setup taken number hcs_ok bytes grant TooShort is made = (grant, is, made)
answers-burst setup taken number hcs_ok bytes grant PointerPast is made = (grant, is, made)
answers-burst setup taken number hcs_ok bytes grant GrantRange is made = absurd made
answers-burst setup taken number hcs_ok bytes grant GrantKnown is made = absurd made
answers-burst setup taken number hcs_ok bytes grant UnknownSid is made = absurd made
answers-burst setup taken number hcs_ok bytes grant TooManyGrants is made = absurd made
answers-burst setup taken number hcs_ok bytes grant GrantOutOfMemory is made = absurd made
answers-burst setup taken number hcs_ok bytes grant NoGrant is made = absurd made
answers-burst setup taken number hcs_ok bytes grant BurstOutOfMemory is made = absurd made
