-- What happened by numbered lines.
use Rattle.std.proofs.Common.{◌≡◌, ℕ, ◌+◌, ◌-◌, ◌^◌, ◌<◌, ◌≤◌, ◌⊎◌, inl, inr, min, nat_le, Bool, true, false, List, [], ◌∷◌, ◌++◌, length, drop, get_or, refl, sym, ap, subst, ◌∙◌, arith, append-nil, append_assoc, length-append, le-leb, leb-true}
use Rattle.std.specs.Prelude.{if◌then◌else◌, filter, flat_map, map}
use Rattle.std.proofs.lemmas.Bool.{cases_lt}
use Rattle.text_lines.specs.Lines.{lines_of_parts}
use Rattle.flow_selection.specs.Lines.{is_left}
use Rattle.loss_rule.specs.declared.rule.LossRule.{LossRule}
use Rattle.receiver.specs.declared.width.Width.{Width}
use Rattle.texts.specs.declared.follow.settings.FollowSettings.{FollowSettings}
use Rattle.texts.specs.declared.follow.happening.Happening.{Happening}
use Rattle.texts.specs.declared.follow.happening.Happening.TheVariants.{Gave}
use Rattle.consumer.specs.declared.given.Given.{Given}
use Rattle.texts.specs.Happening.{given_line, happening_lines}
use Rattle.texts.specs.Happened.{HappenedBy, HappenedAt, happening_of, happened_till, AreNumbered}
use Rattle.texts.specs.Follow.{flow_of_given, given_told, lines_told, told_lines}
use Rattle.engines.specs.Inside.Following.{AreWithin, all_at}

-- ---- lists

-- two lists that begin alike and are as long are the same
same_front : {A : Type 0} (a b more others : List A) → a ++ more ≡ b ++ others → length a ≡ length b → a ≡ b
same_front [] [] more others same long = refl
same_front [] (y ∷ b) more others same long = absurd (omega (arith, long))
same_front (x ∷ a) [] more others same long = absurd (omega (arith, long))
same_front (x ∷ a) (y ∷ b) more others same long =
    cons_both x y a b (ap (λ xs. get_or xs 0 x) same) (same_front a b more others (ap (λ xs. drop 1 xs) same) (omega (arith, long)))
  where
    cons_both : {A : Type 0} (x y : A) (a b : List A) → x ≡ y → a ≡ b → x ∷ a ≡ y ∷ b
    cons_both {A} x y a b first rest = ap (λ (z : A). z ∷ a) first ∙ ap (λ (c : List A). y ∷ c) rest

-- the front of a list that is no longer than another front of it
shorter_front : {A : Type 0} (a b more others : List A) → a ++ more ≡ b ++ others → length a ≤ length b → a ++ drop (length a) b ≡ b
shorter_front [] b more others same few = refl
shorter_front (x ∷ a) [] more others same few = absurd (omega (arith, few))
shorter_front (x ∷ a) (y ∷ b) more others same few =
    ap (λ xs. x ∷ xs) (shorter_front a b more others (ap (λ xs. drop 1 xs) same) (omega (arith, few)))
    ∙ ap (λ z. z ∷ b) (ap (λ xs. get_or xs 0 x) same)

-- the lists in front of two last elements
pub one_front : {A : Type 0} (a b : List A) (x y : A) → a ++ x ∷ [] ≡ b ++ y ∷ [] → a ≡ b
one_front a b x y same =
    same_front a b (x ∷ []) (y ∷ []) same (omega (arith, ap length same, length-append a (x ∷ []), length-append b (y ∷ [])))

-- one line at most has one line feed at most
pub few_parts : (first : List ℕ) (more : List (List ℕ)) → length (lines_of_parts (first ∷ more)) ≤ 1 → length more ≤ 1
few_parts first [] few = omega arith
few_parts first (next ∷ []) few = omega arith
few_parts first (next ∷ third ∷ others) few = absurd (omega (arith, few))

-- ---- things that happened by one line

of_line : (line : ℕ) (happened : List Happening) → map happening_of (all_at line happened) ≡ happened
of_line line [] = refl
of_line line (one ∷ more) = ap (λ rest. one ∷ rest) (of_line line more)

pub all_of : (told : List HappenedAt) (line : ℕ) (happened : List Happening)
    → map happening_of (told ++ all_at line happened) ≡ map happening_of told ++ happened
all_of [] line happened = of_line line happened
all_of (one ∷ told) line happened = ap (λ rest. one.happening ∷ rest) (all_of told line happened)

-- this, and then that
pub both_at : (line : ℕ) (happened more : List Happening) → all_at line (happened ++ more) ≡ all_at line happened ++ all_at line more
both_at line [] more = refl
both_at line (one ∷ happened) more = ap (λ rest. record { line = line; happening = one } ∷ rest) (both_at line happened more)

-- their lines
pub lines_at : (settings : FollowSettings) (line : ℕ) (happened : List Happening)
    → flat_map (told_lines settings) (all_at line happened) ≡ flat_map (lines_told settings line) happened
lines_at settings line [] = refl
lines_at settings line (one ∷ more) = ap (λ rest. lines_told settings line one ++ rest) (lines_at settings line more)

-- of what is given there is its line alone
no_event : (events : Bool) (line : ℕ) (given : Given) → happening_lines events line (Gave given) ≡ given_line given
no_event true line given = append-nil (given_line given)
no_event false line given = append-nil (given_line given)

-- so where it is told
given_alone : (settings : FollowSettings) (line : ℕ) (given : Given) → lines_told settings line (Gave given) ≡ given_told settings.selected given
given_alone settings line given =
    ap (λ (text : List ℕ). if is_left settings.selected (flow_of_given given) then text else []) (no_event settings.events line given)

pub lines_given : (settings : FollowSettings) (line : ℕ) (given : List Given)
    → flat_map (lines_told settings line) (map Gave given) ≡ flat_map (given_told settings.selected) given
lines_given settings line [] = refl
lines_given settings line (one ∷ more) =
    ap (λ rest. rest ++ flat_map (lines_told settings line) (map Gave more)) (given_alone settings line one)
    ∙ ap (λ rest. given_told settings.selected one ++ rest) (lines_given settings line more)

-- ---- numbers

-- none has a greater number than so many
pub within_more : (n line : ℕ) (told : List HappenedAt) (happened : List Happening) → AreWithin n told → n ≤ line → AreWithin line (told ++ all_at line happened)
within_more n line [] happened within few = at line happened where
  at : (line : ℕ) (happened : List Happening) → AreWithin line (all_at line happened)
  at line [] = tt
  at line (one ∷ more) = (omega arith, at line more)
within_more n line (one ∷ told) happened within few = (omega (arith, within.0, few), within_more n line told happened within.1 few)

within_longer : (few many : ℕ) (told : List HappenedAt) → AreWithin few told → few ≤ many → AreWithin many told
within_longer few many [] within less = tt
within_longer few many (one ∷ told) within less = (omega (arith, within.0, less), within_longer few many told within.1 less)

-- up to that one all happened
till_all : (n : ℕ) (told : List HappenedAt) → AreWithin n told → happened_till n told ≡ map happening_of told
till_all n [] within = refl
till_all n (one ∷ told) within =
    ap (λ keeps. map happening_of (if keeps then one ∷ filter (λ (one : HappenedAt). nat_le one.line n) told else filter (λ (one : HappenedAt). nat_le one.line n) told)) (le-leb one.line n within.0)
    ∙ ap (λ rest. one.happening ∷ rest) (till_all n told within.1)

-- nothing of a later line
till_later : (n line : ℕ) (happened : List Happening) → n < line → happened_till n (all_at line happened) ≡ []
till_later n line [] later = refl
till_later n line (one ∷ more) later =
    ap (λ keeps. map happening_of (if keeps then record { line = line; happening = one } ∷ filter (λ (one : HappenedAt). nat_le one.line n) (all_at line more) else filter (λ (one : HappenedAt). nat_le one.line n) (all_at line more)))
    (not_le (nat_le line n) refl) ∙ till_later n line more later
  where
    not_le : (is : Bool) → nat_le line n ≡ is → nat_le line n ≡ false
    not_le false e = e
    not_le true e = absurd (omega (arith, leb-true line n e, later))

till_both : (n : ℕ) (told more : List HappenedAt) → happened_till n (told ++ more) ≡ happened_till n told ++ happened_till n more
till_both n [] more = refl
till_both n (one ∷ told) more = by_case (nat_le one.line n) (till_both n told more) where
  by_case : (keeps : Bool) → happened_till n (told ++ more) ≡ happened_till n told ++ happened_till n more
      → map happening_of (if keeps then one ∷ filter (λ (one : HappenedAt). nat_le one.line n) (told ++ more) else filter (λ (one : HappenedAt). nat_le one.line n) (told ++ more))
      ≡ map happening_of (if keeps then one ∷ filter (λ (one : HappenedAt). nat_le one.line n) told else filter (λ (one : HappenedAt). nat_le one.line n) told) ++ happened_till n more
  by_case true both = ap (λ rest. one.happening ∷ rest) both
  by_case false both = both

till_before : (n line : ℕ) (told : List HappenedAt) (happened : List Happening) → n < line → happened_till n (told ++ all_at line happened) ≡ happened_till n told
till_before n line told happened later =
    till_both n told (all_at line happened) ∙ ap (λ rest. happened_till n told ++ rest) (till_later n line happened later) ∙ append-nil (happened_till n told)

module _ (rule : LossRule) (width : Width) where
  -- nothing happened where no line was read
  pub numbered_nothing : HappenedBy rule width [] [] → AreNumbered rule width [] []
  numbered_nothing nothing = λ above below are short. of_none above below are where
    of_none : (above below : List (List ℕ)) → [] ≡ above ++ below → HappenedBy rule width above (happened_till (length above) [])
    of_none [] below are = nothing
    of_none (line ∷ above) below are = absurd (omega (arith, ap length are))

  -- One line more at most, and what happened by the last of them: each thing happened by the line
  -- that it names.
  pub numbered_more : (lines all : List (List ℕ)) (rest others : List (List ℕ)) (told : List HappenedAt) (n line : ℕ) (happened : List Happening)
      → AreNumbered rule width lines told → AreWithin n told → n ≤ line → line ≡ min (length all) (2 ^ 64 - 1)
      → lines ++ rest ≡ all ++ others → length lines ≤ length all → length all ≤ length lines + 1
      → HappenedBy rule width all (map happening_of (told ++ all_at line happened))
      → AreNumbered rule width all (told ++ all_at line happened)
  numbered_more lines all rest others told n line happened numbered within few is same longer next by = λ above below are short.
      by_length above below are short (cases_lt (length above) (length all))
    where
      by_length : (above below : List (List ℕ)) → all ≡ above ++ below → length above < 2 ^ 64 - 1 → (length above < length all) ⊎ (length all ≤ length above)
          → HappenedBy rule width above (happened_till (length above) (told ++ all_at line happened))
      by_length above below are short (inl before) =
          let parts = shorter_front above lines (below ++ others) rest (sym (append_assoc above below others) ∙ ap (λ xs. xs ++ others) (sym are) ∙ sym same) (omega (arith, before, next)) in
          subst (λ (happened : List Happening). HappenedBy rule width above happened)
          (sym (till_before (length above) line told happened (omega (arith, is, before, short))))
          (numbered above (drop (length above) lines) (sym parts) short)
      by_length above below are short (inr whole) =
          let equal = same_front above all (below ++ []) [] (ap (λ xs. above ++ xs) (append-nil below) ∙ sym are ∙ sym (append-nil all)) (omega (arith, whole, ap length are, length-append above below)) in
          subst (λ (lines : List (List ℕ)). HappenedBy rule width lines (happened_till (length above) (told ++ all_at line happened))) (sym equal)
          (subst (λ (happened : List Happening). HappenedBy rule width all happened)
          (sym (till_all (length above) (told ++ all_at line happened) (within_longer line (length above) (told ++ all_at line happened) (within_more n line told happened within few)
          (omega (arith, is, whole))))) by)
