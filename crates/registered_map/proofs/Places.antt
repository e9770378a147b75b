-- The first place at which a test passes, or the length of the list.
use Rattle.std.proofs.Common.{◌≡◌, ℕ, ◌≤◌, ◌==◌, ◌&&◌, Bool, true, false, cond, not, List, [], ◌∷◌, ◌++◌, length, Option, Some, None, Result, Ok, Err, OnOk, unwrap_or, refl, sym, ap, ◌∙◌, arith, nat_lt}
use Rattle.std.specs.Prelude.{position, find, option_map, IsOk}
use Rattle.std.specs.List.{position_or_len}
use Rattle.std.specs.Option.{option_or}
use Rattle.std.proofs.lemmas.Bool.{and_parts, eqb-true}
use Rattle.std.proofs.lemmas.Bool.Decides.{nat_tests}
use Rattle.std.proofs.lemmas.List.Sums.{prefix_len-le-length}
use Rattle.std.proofs.lemmas.List.Folds.{find-append}
use Rattle.registered_map.specs.declared.telling.RegisteredSid.{RegisteredSid}
use Rattle.registered_map.specs.Places.{owner_of}

by_place : (n len : ℕ) → n ≤ len → unwrap_or (cond (nat_lt n len) (Some n) None) len ≡ n
by_place n len within = grind (arith, nat_tests)

pub position-or_length : {X : Type 0} (p : X → Bool) (xs : List X) → unwrap_or (position p xs) (length xs) ≡ position_or_len p xs
position-or_length p xs = by_place (position_or_len p xs) (length xs) (prefix_len-le-length (λ x. not (p x)) xs)

pub position-none : {X : Type 0} (p : X → Bool) (xs : List X) (found : Option ℕ) → found ≡ position p xs → found ≡ None → length xs ≡ position_or_len p xs
position-none p xs found is none =
    ap (λ o. unwrap_or o (length xs)) (sym none ∙ is) ∙ position-or_length p xs

-- what was found first, before one more
pub find-push : {X Y : Type 0} (p : X → Bool) (f : X → Y) (xs : List X) (y : X) → option_map f (find p xs) ≡ None
    → option_map f (find p (xs ++ y ∷ [])) ≡ cond (p y) (Some (f y)) None
find-push p f xs y none = ap (option_map f) (find-append p xs (y ∷ [])) ∙ by_first (find p xs) none
  where
    by_last : (b : Bool) → option_map f (cond b (Some y) None) ≡ cond b (Some (f y)) None
    by_last true = refl
    by_last false = refl

    by_first : (found : Option _) → option_map f found ≡ None → option_map f (option_or found (find p (y ∷ []))) ≡ cond (p y) (Some (f y)) None
    by_first None none = by_last (p y)
    by_first (Some x) none = absurd cc

pub find-passed : {X Y : Type 0} (p : X → Bool) (f : X → Y) (xs : List X) (y : X) → p y ≡ false
    → option_map f (find p (xs ++ y ∷ [])) ≡ option_map f (find p xs)
find-passed p f xs y fails = ap (option_map f) (find-append p xs (y ∷ [])) ∙ by_first (find p xs)
  where
    by_first : (found : Option _) → option_map f (option_or found (find p (y ∷ []))) ≡ option_map f found
    by_first None = ap (λ b. option_map f (cond b (Some y) None)) fails
    by_first (Some x) = refl

-- what was ensured of what succeeded
pub ok_ensures : {A E : Type 0} (result : Result A E) (P : Type 0) → IsOk result → OnOk result P → P
ok_ensures (Ok x) P ok ensures = ensures
ok_ensures (Err e) P ok ensures = absurd cc

-- the flow of each SID when one more is given
pub owner_of-push : (rows : List RegisteredSid) (row : RegisteredSid) (channel sid : ℕ) (old new : Option ℕ) → old ≡ owner_of channel sid rows
    → new ≡ cond (row.channel == channel && row.sid == sid) (Some row.flow) old → owner_of row.channel row.sid rows ≡ None → new ≡ owner_of channel sid (rows ++ row ∷ [])
owner_of-push rows row channel sid old new was now none = by_test (row.channel == channel && row.sid == sid) refl
  where
    by_test : (test : Bool) → (row.channel == channel && row.sid == sid) ≡ test → new ≡ owner_of channel sid (rows ++ row ∷ [])
    by_test true same =
        let parts = and_parts (row.channel == channel) (row.sid == sid) same in
        let none_here : owner_of channel sid rows ≡ None =
        ap (λ c. owner_of c sid rows) (sym (eqb-true row.channel channel parts.0)) ∙ ap (λ s. owner_of row.channel s rows) (sym (eqb-true row.sid sid parts.1)) ∙ none
        in
        now ∙ ap (λ t. cond t (Some row.flow) old) same
        ∙ sym (find-push (λ (one : RegisteredSid). one.channel == channel && one.sid == sid) (λ one. one.flow) rows row none_here ∙ ap (λ t. cond t (Some row.flow) None) same)
    by_test false other =
        now ∙ ap (λ t. cond t (Some row.flow) old) other ∙ was
        ∙ sym (find-passed (λ (one : RegisteredSid). one.channel == channel && one.sid == sid) (λ one. one.flow) rows row other)
