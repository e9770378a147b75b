-- How many keys of a map pass a test.
use Rattle.std.proofs.Common.{◌≡◌, ◌≢◌, ℕ, suc, ◌<◌, ⊎_elim, Bool, true, false, T, ◌&&◌, Ordering, Less, Equal, Greater, is_lt, is_eq, nat_cmp, List, [], ◌∷◌, map, length, filter, count_by, All, AllPairs, Contains, get_or, Decides, refl, sym, ap, subst, ◌∙◌, arith}
use Rattle.std.specs.List.{AllByRecursion, IsDistinct}
use Rattle.std.specs.List.Sorted.{IsStrictlySortedBy}
use Rattle.std.specs.Ordering.{eq_by_cmp}
use Rattle.std.specs.Set.{is_member}
use Rattle.std.specs.FinMap.{FinMap, keys, len, entries, entries_sorted, contains_key, contains_key-keys, len-entries, nat_cmp-IsAntisymmetric}
use Rattle.std.specs.FinMap.Entries.{below_all, is_sorted}
use Rattle.std.proofs.lemmas.Bool.{false≢true, cases_eq}
use Rattle.std.proofs.lemmas.Cmp.{nat_cmp_total, eq_by_cmp_equiv}
use Rattle.std.proofs.lemmas.List.{length-map, get_or-map}
use Rattle.std.proofs.lemmas.List.Elements.{filter_passes, Contains-append_right}
use Rattle.std.proofs.lemmas.List.Kept.{AllPairs-filter, AllPairs-cons}
use Rattle.std.proofs.lemmas.List.Sums.{length-filter}
use Rattle.std.proofs.lemmas.Map.Keys.{IsDistinct-from_sorted}
use Rattle.std.proofs.lemmas.Map.Made.{AllPairs-from_IsDistinct, IsDistinct-from_AllPairs, Contains-tail, is_member-Decides, is_member-filter, length-from_same_keys}

first : (a b : Bool) → T (a && b) → T a
first true b p = tt
first false b p = p

second : (a b : Bool) → T (a && b) → T b
second true b p = p
second false b p = absurd p

is-less : (o : Ordering) → T (is_lt o) → o ≡ Less
is-less Less h = refl
is-less Equal h = absurd h
is-less Greater h = absurd h

below-keys : {X : Type 0} (x : ℕ) (es : List (ℕ × X)) → T (below_all nat_cmp x es) → AllByRecursion (λ y. nat_cmp x y ≡ Less) (map (λ e. e.0) es)
below-keys x [] h = tt
below-keys x (e ∷ es) h = (is-less (nat_cmp x e.0) (first (is_lt (nat_cmp x e.0)) (below_all nat_cmp x es) h), below-keys x es (second (is_lt (nat_cmp x e.0)) (below_all nat_cmp x es) h))

keys-rise : {X : Type 0} (es : List (ℕ × X)) → T (is_sorted nat_cmp es) → IsStrictlySortedBy nat_cmp (map (λ e. e.0) es)
unfolding IsStrictlySortedBy
keys-rise [] h = tt
keys-rise (e ∷ es) h = (below-keys e.0 es (first (below_all nat_cmp e.0 es) (is_sorted nat_cmp es) h), keys-rise es (second (below_all nat_cmp e.0 es) (is_sorted nat_cmp es) h))

-- no two keys of a map are one
pub keys-apart : {X : Type 0} (m : FinMap nat_cmp X) → IsDistinct (eq_by_cmp nat_cmp) (keys m)
keys-apart m = IsDistinct-from_sorted nat_cmp (keys m) (keys-rise (entries m) (entries_sorted m))

is-equal : (o : Ordering) → is_eq o ≡ true → o ≡ Equal
is-equal Less h = absurd (false≢true h)
is-equal Equal h = refl
is-equal Greater h = absurd (false≢true h)

pub same-number : (a b : ℕ) → Decides (eq_by_cmp nat_cmp a b) (a ≡ b)
same-number a b = (
  λ is. nat_cmp-IsAntisymmetric a b (is-equal (nat_cmp a b) is),
  λ same. subst (λ c. eq_by_cmp nat_cmp a c ≡ true) same ((eq_by_cmp_equiv nat_cmp_total).refl a),
)

-- numbers that differ stay so where no two of them are mapped to one
map-apart : (f : ℕ → ℕ) (p : ℕ → Bool) (xs : List ℕ) → ((i j : ℕ) → p i ≡ true → p j ≡ true → f i ≡ f j → i ≡ j) → All (λ x. p x ≡ true) xs
    → AllPairs (λ x y. x ≢ y) xs → AllPairs (λ x y. x ≢ y) (map f xs)
map-apart f p xs one all apart = λ i j d less within same.
    let long = length-map xs f in
    let left : i < length xs = omega arith in
    let right : j < length xs = omega arith in
    apart i j 0 less right (one (get_or xs i 0) (get_or xs j 0) (all i 0 left) (all j 0 right) (sym (get_or-map f xs i 0 d left) ∙ same ∙ get_or-map f xs j 0 d right))

both : (a b : Bool) → a ≡ true → b ≡ true → (a && b) ≡ true
both a b left right = ap (λ c. c && b) left ∙ right

alike : (a b : Bool) → (a ≡ true → b ≡ true) → (b ≡ true → a ≡ true) → a ≡ b
alike true b to from = sym (to refl)
alike false true to from = from refl
alike false false to from = refl

-- two lists without repeats that have the same numbers are as long
same-length : (xs ys : List ℕ) → AllPairs (λ x y. x ≢ y) xs → AllPairs (λ x y. x ≢ y) ys → ((q : ℕ) → Contains xs q → Contains ys q) → ((q : ℕ) → Contains ys q → Contains xs q)
    → length xs ≡ length ys
same-length xs ys apart apart' to from =
    length-from_same_keys (eq_by_cmp_equiv nat_cmp_total) xs ys (IsDistinct-from_AllPairs same-number xs apart) (IsDistinct-from_AllPairs same-number ys apart')
    (λ q. alike (is_member (eq_by_cmp nat_cmp) xs q) (is_member (eq_by_cmp nat_cmp) ys q)
    (λ is. (is_member-Decides same-number ys q).1 (to q ((is_member-Decides same-number xs q).0 is)))
    (λ is. (is_member-Decides same-number xs q).1 (from q ((is_member-Decides same-number ys q).0 is))))

module _ {X : Type 0} (m : FinMap nat_cmp X) where
  all-apart : AllPairs (λ x y. x ≢ y) (keys m)
  all-apart = AllPairs-from_IsDistinct same-number (keys m) (keys-apart m)

  has-key : (q : ℕ) → Contains (keys m) q → contains_key m q ≡ true
  has-key q is = contains_key-keys m q ∙ (is_member-Decides same-number (keys m) q).1 is

  key-has : (q : ℕ) → contains_key m q ≡ true → Contains (keys m) q
  key-has q is = (is_member-Decides same-number (keys m) q).0 (sym (contains_key-keys m q) ∙ is)

  -- the keys that pass a test, which nothing passes but keys
  module _ (p : ℕ → Bool) (there : (i : ℕ) → p i ≡ true → contains_key m i ≡ true) where
    abbrev chosen : List ℕ
    chosen = filter p (keys m)

    chosen-apart : AllPairs (λ x y. x ≢ y) chosen
    chosen-apart = AllPairs-filter (λ x y. x ≢ y) p (keys m) all-apart

    chosen-passes : (q : ℕ) → Contains chosen q → p q ≡ true
    chosen-passes q (k, within, is) = subst (λ n. p n ≡ true) is (filter_passes p (keys m) k q within)

    passes-chosen : (q : ℕ) → p q ≡ true → Contains chosen q
    passes-chosen q passes =
        (is_member-Decides same-number chosen q).0
        (is_member-filter (eq_by_cmp_equiv nat_cmp_total) p q (λ x same. ap p ((same-number q x).0 same)) (keys m)
        ∙ both (is_member (eq_by_cmp nat_cmp) (keys m) q) (p q) (sym (contains_key-keys m q) ∙ there q passes) passes)

module _ {X Y : Type 0} (m : FinMap nat_cmp X) (n : FinMap nat_cmp Y) (p : ℕ → Bool) (there : (i : ℕ) → p i ≡ true → contains_key m i ≡ true) where
  -- as many as all keys of another map, where each of these is the number of one of them
  module _ (f : ℕ → ℕ) (one : (i j : ℕ) → p i ≡ true → p j ≡ true → f i ≡ f j → i ≡ j) (to : (i : ℕ) → p i ≡ true → contains_key n (f i) ≡ true)
      (from : (k : ℕ) → contains_key n k ≡ true → (i : ℕ) × (p i ≡ true) × (f i ≡ k)) where
    number-to : (q : ℕ) → Contains (map f (chosen m p there)) q → Contains (keys n) q
    number-to q (k, inside, is) =
        let long = length-map (chosen m p there) f in
        let within : k < length (chosen m p there) = omega arith in
        let number : f (get_or (chosen m p there) k 0) ≡ q = sym (get_or-map f (chosen m p there) k 0 q within) ∙ is in
        key-has n q (subst (λ j. contains_key n j ≡ true) number (to (get_or (chosen m p there) k 0) (filter_passes p (keys m) k 0 within)))

    number-from : (q : ℕ) → Contains (keys n) q → Contains (map f (chosen m p there)) q
    number-from q is =
        let (i, passes, number) = from q (has-key n q is) in
        let (k, within, at) = passes-chosen m p there i passes in
        let long = length-map (chosen m p there) f in
        (k, omega arith, get_or-map f (chosen m p there) k i q within ∙ ap f at ∙ number)

    pub as-many : count_by p (keys m) ≡ len n
    as-many =
        sym (length-filter p (keys m)) ∙ sym (length-map (chosen m p there) f)
        ∙ same-length (map f (chosen m p there)) (keys n) (map-apart f p (chosen m p there) one (filter_passes p (keys m)) (chosen-apart m p there)) (all-apart n) number-to number-from
        ∙ length-map (entries n) (λ e. e.0) ∙ sym (len-entries n)

  module _ (q : ℕ → Bool) (there' : (i : ℕ) → q i ≡ true → contains_key n i ≡ true) where
    -- as many as the keys of another map that pass another test, where the tests say the same
    pub as-many_alike : ((i : ℕ) → p i ≡ q i) → count_by p (keys m) ≡ count_by q (keys n)
    as-many_alike same =
        sym (length-filter p (keys m))
        ∙ same-length (chosen m p there) (chosen n q there') (chosen-apart m p there) (chosen-apart n q there')
        (λ i in_p. passes-chosen n q there' i (sym (same i) ∙ chosen-passes m p there i in_p))
        (λ i in_q. passes-chosen m p there i (same i ∙ chosen-passes n q there' i in_q))
        ∙ length-filter q (keys n)

    -- and one less, where the other test passes one number more
    pub one-more : (k : ℕ) → p k ≡ false → q k ≡ true → ((i : ℕ) → i ≢ k → p i ≡ q i) → suc (count_by p (keys m)) ≡ count_by q (keys n)
    one-more k fails passes same =
        ap suc (sym (length-filter p (keys m)))
        ∙ same-length (k ∷ chosen m p there) (chosen n q there')
        (AllPairs-cons (λ x y. x ≢ y) k (chosen m p there) (λ j d within is. false≢true (sym fails ∙ ap p is ∙ filter_passes p (keys m) j d within)) (chosen-apart m p there))
        (chosen-apart n q there')
        (λ i in_p. ⊎_elim
        (λ (is : k ≡ i). passes-chosen n q there' i (subst (λ j. q j ≡ true) is passes))
        (λ (other : k ≢ i). passes-chosen n q there' i (sym (same i (λ is. other (sym is))) ∙ chosen-passes m p there i (Contains-tail k (chosen m p there) i other in_p)))
        (cases_eq k i))
        (λ i in_q. ⊎_elim
        (λ (is : k ≡ i). (0, omega arith, is))
        (λ (other : k ≢ i). Contains-append_right (k ∷ []) (chosen m p there) i
        (passes-chosen m p there i (same i (λ is. other (sym is)) ∙ chosen-passes n q there' i in_q)))
        (cases_eq k i))
        ∙ length-filter q (keys n)
