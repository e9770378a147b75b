-- What is known of a burst, and what is kept of what was told.
use Rattle.std.proofs.Common.{◌≡◌, ◌≢◌, ℕ, ◌+◌, ◌-◌, ◌<◌, ◌≤◌, zero, suc, Bool, true, false, eqb, cond, ◌||◌, Option, Some, None, List, [], ◌∷◌, ◌++◌, length, take, drop, refl, ap, sym, ◌∙◌, arith, length-append, eq-eqb, ne_eqb}
use Rattle.std.specs.Prelude.{unwrap_or, get_or}
use Rattle.std.specs.Option.{option_or}
use Rattle.std.specs.List.{All}
use Rattle.std.proofs.lemmas.List.{drop-append-le, drop-drop, length-drop, drop_more, drop_all, take-append-drop}
use Rattle.std.proofs.lemmas.Bool.{false≢true}
use Rattle.std.proofs.Math.Bool.{or-true}
use Rattle.std.proofs.lemmas.List.Elements.{All-head, All-tail}
use Rattle.circular_buffer.specs.Buffer.{keep_last}
use Rattle.burst_fates.specs.declared.burst_fate.BurstFate.{BurstFate}
use Rattle.burst_fates.specs.declared.burst_fate.BurstFate.TheVariants.{Kept}
use Rattle.burst_fates.specs.declared.burst_fate.ToldFate.{ToldFate}
use Rattle.burst_fates.specs.declared.missing_reason.MissingReason.{MissingReason}
use Rattle.burst_fates.specs.declared.missing_reason.MissingReason.TheVariants.{AllKept}
use Rattle.burst_fates.specs.Fates.{IsOther, told_of, told_at, last_of, is_kept, was_kept, known_of, reason_of_burst, first_reason, reason_of}

or-none : (one : Option BurstFate) → option_or one None ≡ one
or-none None = refl
or-none (Some it) = refl

or-or : (last more one : Option BurstFate) → option_or (option_or last more) one ≡ option_or last (option_or more one)
or-or None more one = refl
or-or (Some it) more one = refl

-- what was told last in two parts
pub last-append : (id : ℕ) (told more : List ToldFate) → last_of id (told ++ more) ≡ option_or (last_of id more) (last_of id told)
last-append id [] more = sym (or-none (last_of id more))
last-append id (one ∷ told) more =
    ap (λ (later : Option BurstFate). option_or later (told_of id one)) (last-append id told more)
    ∙ or-or (last_of id more) (last_of id told) (told_of id one)

any-any : (a b c : Bool) → (a || (b || c)) ≡ ((a || b) || c)
any-any true b c = refl
any-any false b c = refl

-- a burst was kept in one of two parts
pub kept-append : (id : ℕ) (told more : List ToldFate) → was_kept id (told ++ more) ≡ (was_kept id told || was_kept id more)
kept-append id [] more = refl
kept-append id (one ∷ told) more =
    ap (λ (later : Bool). is_kept (told_of id one) || later) (kept-append id told more)
    ∙ any-any (is_kept (told_of id one)) (was_kept id told) (was_kept id more)

pub kept-behind : (id : ℕ) (told more : List ToldFate) → was_kept id more ≡ true → was_kept id (told ++ more) ≡ true
kept-behind id told more kept = kept-append id told more ∙ ap (λ (later : Bool). was_kept id told || later) kept ∙ or-true (was_kept id told)

-- one that wasn't kept wasn't in a part either
second-false : (a b : Bool) → (a || b) ≡ false → b ≡ false
second-false true b is = absurd (false≢true (sym is))
second-false false b is = is

pub kept-drop : (id k : ℕ) (told : List ToldFate) → was_kept id told ≡ false → was_kept id (drop k told) ≡ false
kept-drop id zero told none = none
kept-drop id (suc k) [] none = none
kept-drop id (suc k) (one ∷ told) none = kept-drop id k told (second-false (is_kept (told_of id one)) (was_kept id told) none)

-- nothing is told of a burst in what is told of others
pub told-other : (id : ℕ) (one : ToldFate) → IsOther id one → told_of id one ≡ None
told-other id one other = ap (λ (is : Bool). cond is (Some one.fate) None) (ne_eqb one.id id other)

pub told-own : (one : ToldFate) → told_of one.id one ≡ Some one.fate
told-own one = ap (λ (is : Bool). cond is (Some one.fate) None) (eq-eqb one.id one.id refl)

pub last-other : (id : ℕ) (told : List ToldFate) → All (IsOther id) told → last_of id told ≡ None
last-other id [] others = refl
last-other id (one ∷ told) others =
    ap (λ (later : Option BurstFate). option_or later (told_of id one)) (last-other id told (All-tail (IsOther id) one told others))
    ∙ told-other id one (All-head (IsOther id) one told others)

pub kept-other : (id : ℕ) (told : List ToldFate) → All (IsOther id) told → was_kept id told ≡ false
kept-other id [] others = refl
kept-other id (one ∷ told) others =
    ap (λ (here : Option BurstFate). is_kept here || was_kept id told) (told-other id one (All-head (IsOther id) one told others))
    ∙ kept-other id told (All-tail (IsOther id) one told others)

-- what is known of a burst that was kept, and of one that wasn't
pub known-kept : (id : ℕ) (told : List ToldFate) → was_kept id told ≡ true → known_of id told ≡ Some Kept
known-kept id told kept = ap (λ (was : Bool). cond was (Some Kept) (last_of id told)) kept

pub known-last : (id : ℕ) (told : List ToldFate) → was_kept id told ≡ false → known_of id told ≡ last_of id told
known-last id told none = ap (λ (was : Bool). cond was (Some Kept) (last_of id told)) none

pub known-other : (id : ℕ) (told : List ToldFate) → All (IsOther id) told → known_of id told ≡ None
known-other id told others = known-last id told (kept-other id told others) ∙ last-other id told others

-- of one that wasn't kept before, and of which nothing is told behind
known-own : (fate : BurstFate) → cond (is_kept (Some fate)) (Some Kept) (Some fate) ≡ Some fate
known-own Kept = refl
known-own other = refl

pub known-one : (before later : List ToldFate) (one : ToldFate) → All (IsOther one.id) later → was_kept one.id before ≡ false
    → known_of one.id (before ++ one ∷ later) ≡ Some one.fate
known-one before later one others none =
    ap (λ (was : Bool). cond was (Some Kept) (last_of one.id (before ++ one ∷ later))) kept
    ∙ ap (λ (last : Option BurstFate). cond (is_kept (Some one.fate)) (Some Kept) last) last
    ∙ known-own one.fate where
      no-more : (a : Bool) → (a || false) ≡ a
      no-more true = refl
      no-more false = refl

      kept : was_kept one.id (before ++ one ∷ later) ≡ is_kept (Some one.fate)
      kept =
          kept-append one.id before (one ∷ later)
          ∙ ap (λ (was : Bool). was || was_kept one.id (one ∷ later)) none
          ∙ ap (λ (more : Bool). is_kept (told_of one.id one) || more) (kept-other one.id later others)
          ∙ no-more (is_kept (told_of one.id one))
          ∙ ap is_kept (told-own one)

      last : last_of one.id (before ++ one ∷ later) ≡ Some one.fate
      last =
          last-append one.id before (one ∷ later)
          ∙ ap (λ (more : Option BurstFate). option_or (option_or more (told_of one.id one)) (last_of one.id before)) (last-other one.id later others)
          ∙ ap (λ (here : Option BurstFate). option_or here (last_of one.id before)) (told-own one)

-- one thing more from the end on
kept-next : (id : ℕ) (told : List ToldFate) (place : ℕ) → place < length told
    → was_kept id (drop place told) ≡ (is_kept (told_at place id told) || was_kept id (drop (suc place) told))
kept-next id [] place within = absurd (omega arith)
kept-next id (one ∷ told) zero within = refl
kept-next id (one ∷ told) (suc place) within = kept-next id told place (omega arith)

last-next : (id : ℕ) (told : List ToldFate) (place : ℕ) → place < length told
    → last_of id (drop place told) ≡ option_or (last_of id (drop (suc place) told)) (told_at place id told)
last-next id [] place within = absurd (omega arith)
last-next id (one ∷ told) zero within = refl
last-next id (one ∷ told) (suc place) within = last-next id told place (omega arith)

-- it says that the burst was kept
pub kept-here : (id : ℕ) (told : List ToldFate) (place : ℕ) → place < length told → is_kept (told_at place id told) ≡ true → known_of id told ≡ Some Kept
kept-here id told place within here =
    known-kept id told
    (ap (λ (all : List ToldFate). was_kept id all) (sym (take-append-drop place told))
    ∙ kept-behind id (take place told) (drop place told)
    (kept-next id told place within ∙ ap (λ (is : Bool). is || was_kept id (drop (suc place) told)) here))

-- or it doesn't
pub not-here : (id : ℕ) (told : List ToldFate) (place left : ℕ) → left ≡ suc place → left ≤ length told
    → is_kept (told_at place id told) ≡ false → was_kept id (drop left told) ≡ false → was_kept id (drop place told) ≡ false
not-here id told place left is within here behind =
    kept-next id told place (omega arith)
    ∙ ap (λ (was : Bool). was || was_kept id (drop (suc place) told)) here
    ∙ ap (λ (n : ℕ). was_kept id (drop n told)) (sym is)
    ∙ behind

pub last-here : (id : ℕ) (told : List ToldFate) (place left : ℕ) → left ≡ suc place → left ≤ length told
    → option_or (last_of id (drop left told)) (told_at place id told) ≡ last_of id (drop place told)
last-here id told place left is within =
    ap (λ (n : ℕ). option_or (last_of id (drop n told)) (told_at place id told)) is
    ∙ sym (last-next id told place (omega arith))

-- one burst more was looked at, and was kept
pub reason-more : (told : List ToldFate) (ids : List ℕ) (i d : ℕ) → i < length ids → reason_of_burst told (get_or ids i d) ≡ None
    → first_reason AllKept told (drop (i + 1) ids) ≡ first_reason AllKept told (drop i ids)
reason-more told ids i d within kept =
    sym (ap (λ (rest : List ℕ). first_reason AllKept told rest) (drop_more ids i d within)
    ∙ ap (λ (one : Option MissingReason). unwrap_or one (first_reason AllKept told (drop (i + 1) ids))) kept)

-- or wasn't
pub reason-found : (told : List ToldFate) (ids : List ℕ) (i d : ℕ) (reason : MissingReason) → i < length ids → reason_of_burst told (get_or ids i d) ≡ Some reason
    → first_reason AllKept told (drop i ids) ≡ reason
reason-found told ids i d reason within found =
    ap (λ (rest : List ℕ). first_reason AllKept told rest) (drop_more ids i d within)
    ∙ ap (λ (one : Option MissingReason). unwrap_or one (first_reason AllKept told (drop (i + 1) ids))) found

-- all were
pub reason-none : (told : List ToldFate) (ids : List ℕ) (i : ℕ) → length ids ≤ i → first_reason AllKept told (drop i ids) ≡ AllKept
reason-none told ids i all = ap (λ (rest : List ℕ). first_reason AllKept told rest) (drop_all i ids all)

-- some are named
pub reason-named : (told : List ToldFate) (ids : List ℕ) → eqb (length ids) 0 ≡ false → reason_of told ids ≡ first_reason AllKept told ids
reason-named told [] some = absurd (false≢true (sym some))
reason-named told (id ∷ ids) some = refl

-- what is left of what is kept, with more, is what is kept of all
keep-front : (n k : ℕ) (told : List ToldFate) → k ≤ length told - n → keep_last n (drop k told) ≡ keep_last n told
keep-front n k told few =
    drop-drop (length (drop k told) - n) k told
    ∙ ap (λ (m : ℕ). drop m told) (left (length (drop k told)) (length-drop k told)) where
      left : (rest : ℕ) → rest ≡ length told - k → k + (rest - n) ≡ length told - n
      left rest is = omega arith

pub keep-more : (n : ℕ) (told : List ToldFate) (one : ToldFate) → keep_last n (keep_last n told ++ one ∷ []) ≡ keep_last n (told ++ one ∷ [])
keep-more n told one =
    ap (keep_last n) (sym (drop-append-le (length told - n) told (one ∷ []) (omega arith)))
    ∙ keep-front n (length told - n) (told ++ one ∷ []) (few (length (told ++ one ∷ [])) (length-append told (one ∷ []))) where
      few : (all : ℕ) → all ≡ length told + length (one ∷ []) → length told - n ≤ all - n
      few all is = omega arith

-- what comes last of few is kept
pub keep-behind : (n : ℕ) (before later : List ToldFate) → length later ≤ n → keep_last n (before ++ later) ≡ drop (length (before ++ later) - n) before ++ later
keep-behind n before later few =
    drop-append-le (length (before ++ later) - n) before later (within (length (before ++ later)) (length-append before later)) where
      within : (all : ℕ) → all ≡ length before + length later → all - n ≤ length before
      within all is = omega arith

-- of many nothing else is kept
pub keep-among : (n : ℕ) (before later : List ToldFate) → n ≤ length later → keep_last n (before ++ later) ≡ keep_last n later
keep-among n before later many =
    ap (λ (m : ℕ). drop m (before ++ later)) (behind (length (before ++ later)) (length-append before later))
    ∙ sym (drop-drop (length later - n) (length before) (before ++ later))
    ∙ ap (λ (rest : List ToldFate). drop (length later - n) rest) (drop-front before later) where
      behind : (all : ℕ) → all ≡ length before + length later → all - n ≡ length before + (length later - n)
      behind all is = omega arith

      drop-front : (front rest : List ToldFate) → drop (length front) (front ++ rest) ≡ rest
      drop-front [] rest = refl
      drop-front (first ∷ front) rest = drop-front front rest
