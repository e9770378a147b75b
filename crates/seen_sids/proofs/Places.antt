-- The places of SIDs when one more is seen.
use Rattle.std.proofs.Common.{◌≡◌, ℕ, ◌+◌, ◌≤◌, ◌==◌, ◌&&◌, Bool, true, false, cond, not, List, [], ◌∷◌, ◌++◌, length, Option, Some, None, Result, Ok, Err, OnOk, unwrap_or, refl, sym, ap, ◌∙◌, arith, nat_lt, length-append}
use Rattle.std.specs.Prelude.{position, IsOk}
use Rattle.std.specs.List.{position_or_len}
use Rattle.std.proofs.lemmas.Bool.{and_parts, eqb-true, eq-eqb}
use Rattle.std.proofs.lemmas.Bool.Decides.{nat_tests}
use Rattle.std.proofs.lemmas.List.Sums.{prefix_len-le-length}
use Rattle.std.proofs.lemmas.List.Folds.{position_or_len_push}
use Rattle.seen_sids.specs.declared.seen_sid.SeenSid.{SeenSid}
use Rattle.seen_sids.specs.Places.{sid_if_seen, place_of_sid}

-- where nothing passes the place is the length
by_place : (n len : ℕ) → n ≤ len → unwrap_or (cond (nat_lt n len) (Some n) None) len ≡ n
by_place n len within = grind (arith, nat_tests)

pub position-none : {X : Type 0} (p : X → Bool) (xs : List X) (found : Option ℕ) → found ≡ position p xs → found ≡ None → length xs ≡ position_or_len p xs
position-none p xs found is none =
    ap (λ o. unwrap_or o (length xs)) (sym none ∙ is) ∙ by_place (position_or_len p xs) (length xs) (prefix_len-le-length (λ x. not (p x)) xs)

-- a place that isn't one of the list's is its length
pub position_or_len-end : {X : Type 0} (p : X → Bool) (xs : List X) → length xs ≤ position_or_len p xs → position_or_len p xs ≡ length xs
position_or_len-end p xs past = omega (arith, past, prefix_len-le-length (λ x. not (p x)) xs)

-- one element more, that passes where none did, or doesn't
last_place : (n m len longer : ℕ) (b : Bool) → n ≡ len → longer ≡ len + 1 → m ≡ cond (n == len) (len + cond b 0 1) n → b ≡ true
    → cond (nat_lt m longer) (Some m) None ≡ Some len
last_place n m len longer b all long is passes =
    let m_is : m ≡ len = is ∙ ap (λ t. cond t (len + cond b 0 1) n) (eq-eqb n len all) ∙ ap (λ t. len + cond t 0 1) passes ∙ omega arith in
    grind (arith, nat_tests)

other_place : (n m len longer : ℕ) (b : Bool) → n ≤ len → longer ≡ len + 1 → m ≡ cond (n == len) (len + cond b 0 1) n → b ≡ false
    → cond (nat_lt m longer) (Some m) None ≡ cond (nat_lt n len) (Some n) None
other_place n m len longer b within long is fails =
    let m_is : m ≡ cond (n == len) (len + 1) n = is ∙ ap (λ t. cond (n == len) (len + cond t 0 1) n) fails in
    grind (arith, nat_tests)

pub position-last : {X : Type 0} (p : X → Bool) (xs : List X) (y : X) → position_or_len p xs ≡ length xs → p y ≡ true → position p (xs ++ y ∷ []) ≡ Some (length xs)
position-last p xs y all passes =
    last_place (position_or_len p xs) (position_or_len p (xs ++ y ∷ [])) (length xs) (length (xs ++ y ∷ [])) (p y) all (length-append xs (y ∷ []))
    (position_or_len_push p xs y) passes

pub position-passed : {X : Type 0} (p : X → Bool) (xs : List X) (y : X) → p y ≡ false → position p (xs ++ y ∷ []) ≡ position p xs
position-passed p xs y fails =
    other_place (position_or_len p xs) (position_or_len p (xs ++ y ∷ [])) (length xs) (length (xs ++ y ∷ [])) (p y)
    (prefix_len-le-length (λ x. not (p x)) xs) (length-append xs (y ∷ [])) (position_or_len_push p xs y) fails

-- what was ensured of what succeeded
pub ok_ensures : {A E : Type 0} (result : Result A E) (P : Type 0) → IsOk result → OnOk result P → P
ok_ensures (Ok x) P ok ensures = ensures
ok_ensures (Err e) P ok ensures = absurd cc

-- the place of each SID when one more is seen
pub sid_if_seen-push : (rows : List SeenSid) (row : SeenSid) (channel sid : ℕ) (old new : Option ℕ) → old ≡ sid_if_seen channel sid rows
    → new ≡ cond (row.channel == channel && row.sid == sid) (Some (length rows)) old → place_of_sid row.channel row.sid rows ≡ length rows
    → new ≡ sid_if_seen channel sid (rows ++ row ∷ [])
sid_if_seen-push rows row channel sid old new was now none = by_test (row.channel == channel && row.sid == sid) refl
  where
    by_test : (test : Bool) → (row.channel == channel && row.sid == sid) ≡ test → new ≡ sid_if_seen channel sid (rows ++ row ∷ [])
    by_test true same =
        let parts = and_parts (row.channel == channel) (row.sid == sid) same in
        let none_here : place_of_sid channel sid rows ≡ length rows =
        ap (λ c. place_of_sid c sid rows) (sym (eqb-true row.channel channel parts.0)) ∙ ap (λ s. place_of_sid row.channel s rows) (sym (eqb-true row.sid sid parts.1)) ∙ none
        in
        now ∙ ap (λ t. cond t (Some (length rows)) old) same
        ∙ sym (position-last (λ (one : SeenSid). one.channel == channel && one.sid == sid) rows row none_here same)
    by_test false other =
        now ∙ ap (λ t. cond t (Some (length rows)) old) other ∙ was
        ∙ sym (position-passed (λ (one : SeenSid). one.channel == channel && one.sid == sid) rows row other)
