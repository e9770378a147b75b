-- Bytes cut at their line feeds: whole lines, and what follows the last line feed.
use Rattle.std.proofs.Common.{◌≡◌, ℕ, ◌+◌, ◌<◌, ◌≤◌, ◌==◌, Bool, true, false, cond, List, [], ◌∷◌, ◌++◌, length, take, drop, get_or, Option, None, Some, length-append, refl, sym, ap, subst, ◌∙◌, arith, add-one, append-nil, append_assoc, length-take}
use Rattle.std.specs.Prelude.{position}
use Rattle.std.specs.List.{slice_split, onto_first, sum_by}
use Rattle.std.proofs.lemmas.Bool.{eqb-true, ne_eqb}
use Rattle.std.proofs.lemmas.List.{get_or-take, take-append-drop}
use Rattle.std.proofs.lemmas.List.Elements.{All-nil, All-cons, All-append}
use Rattle.std.proofs.lemmas.List.Quantifiers.{position-Some}
use Rattle.std.proofs.lemmas.List.Sums.{sum_by-append, sum_by-cons, fails_before_first}
use Rattle.std.proofs.lemmas.List.Splits.{slice_split_at, slice_split_none}
use Rattle.std.proofs.Math.Seq.{drop-cons, take-append_seam}
use Rattle.text_lines.specs.Lines.{line_feed, is_line_feed, lines_of, lines_of_parts}
use Rattle.text_lines.specs.Inside.LineFeeds.{HasNoLineFeed, BeginsWithLine}
use Rattle.text_lines.proofs.FirstBytes.{position-found, position-none}

-- ---- parts

-- a split has a first part
pub slice_split_shape : (p : ℕ → Bool) (xs : List ℕ) → (first : List ℕ) × (more : List (List ℕ)) × (slice_split p xs ≡ first ∷ more)
slice_split_shape p [] = ([], [], refl)
slice_split_shape p (x ∷ xs) =
    let first = slice_split_shape p xs in
    elim (p x) as (λ b. (front : List ℕ) × (more : List (List ℕ)) × (cond b ([] ∷ slice_split p xs) (onto_first x (slice_split p xs)) ≡ front ∷ more)) [
      | true ↦ ([], slice_split p xs, refl)
      | false ↦ (x ∷ first.0, first.1, ap (onto_first x) first.2)
    ]

-- an element at which a list is cut, before others
cut_before : (xs : List ℕ) (p : ℕ → Bool) (ys : List ℕ) (front : List (List ℕ)) (last first : List ℕ) (more : List (List ℕ))
    → ((front : List (List ℕ)) (last : List ℕ) → slice_split p xs ≡ front ++ last ∷ [] → slice_split p (xs ++ ys) ≡ front ++ (last ++ first) ∷ more)
    → [] ∷ slice_split p xs ≡ front ++ last ∷ [] → [] ∷ slice_split p (xs ++ ys) ≡ front ++ (last ++ first) ∷ more
cut_before xs p ys [] last first more rest is =
    let shape = slice_split_shape p xs in
    let none : slice_split p xs ≡ [] = cc in
    let some : slice_split p xs ≡ shape.0 ∷ shape.1 = shape.2 in
    cc
cut_before xs p ys (part ∷ parts) last first more rest is =
    let empty : [] ≡ part = cc in
    let others : slice_split p xs ≡ parts ++ last ∷ [] = cc in
    let longer = rest parts last others in
    cc

-- one at which it isn't, before others
joined_before : (x : ℕ) (xs : List ℕ) (p : ℕ → Bool) (ys : List ℕ) (front : List (List ℕ)) (last first : List ℕ) (more : List (List ℕ))
    → ((front : List (List ℕ)) (last : List ℕ) → slice_split p xs ≡ front ++ last ∷ [] → slice_split p (xs ++ ys) ≡ front ++ (last ++ first) ∷ more)
    → onto_first x (slice_split p xs) ≡ front ++ last ∷ [] → onto_first x (slice_split p (xs ++ ys)) ≡ front ++ (last ++ first) ∷ more
joined_before x xs p ys [] last first more rest is =
    let shape = slice_split_shape p xs in
    let whole : (x ∷ shape.0) ∷ shape.1 ≡ last ∷ [] = sym (ap (onto_first x) shape.2) ∙ is in
    let one : slice_split p xs ≡ shape.0 ∷ [] = cc in
    let begun : x ∷ shape.0 ≡ last = cc in
    ap (onto_first x) (rest [] shape.0 one) ∙ ap (λ part. (part ++ first) ∷ more) begun
joined_before x xs p ys (part ∷ parts) last first more rest is =
    let shape = slice_split_shape p xs in
    let whole : (x ∷ shape.0) ∷ shape.1 ≡ part ∷ (parts ++ last ∷ []) = sym (ap (onto_first x) shape.2) ∙ is in
    let same : slice_split p xs ≡ shape.0 ∷ (parts ++ last ∷ []) = cc in
    let begun : x ∷ shape.0 ≡ part = cc in
    ap (onto_first x) (rest (shape.0 ∷ parts) last same) ∙ ap (λ part. part ∷ (parts ++ (last ++ first) ∷ more)) begun

-- what follows a list goes on with its last part
pub slice_split-append : (p : ℕ → Bool) (xs ys : List ℕ) (first : List ℕ) (more : List (List ℕ)) → slice_split p ys ≡ first ∷ more
    → (front : List (List ℕ)) (last : List ℕ) → slice_split p xs ≡ front ++ last ∷ [] → slice_split p (xs ++ ys) ≡ front ++ (last ++ first) ∷ more
slice_split-append p [] ys first more next [] last is =
    let empty : [] ≡ last = cc in
    next ∙ ap (λ part. (part ++ first) ∷ more) empty
slice_split-append p [] ys first more next (part ∷ []) last is = cc
slice_split-append p [] ys first more next (part ∷ other ∷ parts) last is = cc
slice_split-append p (x ∷ xs) ys first more next front last is =
    let rest : (front : List (List ℕ)) (last : List ℕ) → slice_split p xs ≡ front ++ last ∷ [] → slice_split p (xs ++ ys) ≡ front ++ (last ++ first) ∷ more = slice_split-append p xs ys first more next in
    elim (p x) as (λ b. cond b ([] ∷ slice_split p xs) (onto_first x (slice_split p xs)) ≡ front ++ last ∷ []
    → cond b ([] ∷ slice_split p (xs ++ ys)) (onto_first x (slice_split p (xs ++ ys))) ≡ front ++ (last ++ first) ∷ more) [
      | true ↦ cut_before xs p ys front last first more rest
      | false ↦ joined_before x xs p ys front last first more rest
    ] is

-- how much of a list a part is, with the element at which it is cut off
abbrev size : List ℕ → ℕ
size part = length part + 1

-- the parts are all of the list, and one element more
sizes_of_parts : (p : ℕ → Bool) (xs : List ℕ) → sum_by size (slice_split p xs) ≡ length xs + 1
sizes_of_parts p [] = refl
sizes_of_parts p (x ∷ xs) =
    let shape = slice_split_shape p xs in
    let rest : sum_by size (slice_split p xs) ≡ length xs + 1 = sizes_of_parts p xs in
    elim (p x) as (λ b. sum_by size (cond b ([] ∷ slice_split p xs) (onto_first x (slice_split p xs))) ≡ length (x ∷ xs) + 1) [
      | true ↦ omega (arith, sum_by-cons size [] (slice_split p xs))
      | false ↦
          let parts = sum_by-cons size shape.0 shape.1 in
          let longer = sum_by-cons size (x ∷ shape.0) shape.1 in
          let whole : sum_by size (shape.0 ∷ shape.1) ≡ length xs + 1 = rw (← shape.2) rest in
          rw shape.2 (omega arith)
    ]

-- there are no more parts than that
length-sizes : (parts : List (List ℕ)) → length parts ≤ sum_by size parts
length-sizes [] = omega arith
length-sizes (part ∷ parts) =
    let rest = length-sizes parts in
    omega (arith, sum_by-cons size part parts)

-- before the last part there are fewer parts than elements, if there is something in it
pub fewer_parts : (p : ℕ → Bool) (xs : List ℕ) (front : List (List ℕ)) (last : List ℕ) → slice_split p xs ≡ front ++ last ∷ [] → length front + length last ≤ length xs
fewer_parts p xs front last is =
    let all = sizes_of_parts p xs in
    let split = sum_by-append size front (last ∷ []) in
    let one = sum_by-cons size last [] in
    let none : sum_by size [] ≡ 0 = refl in
    let same : sum_by size (slice_split p xs) ≡ sum_by size (front ++ last ∷ []) = ap (sum_by size) is in
    omega (arith, length-sizes front)

-- ---- lines

-- a part before other parts is a line
lines_of_parts-cons : (part : List ℕ) (parts : List (List ℕ)) → (first : List ℕ) × (more : List (List ℕ)) × (parts ≡ first ∷ more)
    → lines_of_parts (part ∷ parts) ≡ part ∷ lines_of_parts parts
lines_of_parts-cons part parts shape = rw shape.2 refl

-- and so are several
pub lines_of_parts-append : (front : List (List ℕ)) (first : List ℕ) (more : List (List ℕ)) → lines_of_parts (front ++ first ∷ more) ≡ front ++ lines_of_parts (first ∷ more)
lines_of_parts-append [] first more = refl
lines_of_parts-append (part ∷ []) first more = refl
lines_of_parts-append (part ∷ other ∷ parts) first more = ap (λ lines. part ∷ lines) (lines_of_parts-append (other ∷ parts) first more)

-- a line that a line feed ends comes first
pub lines_of-line : (line rest : List ℕ) → HasNoLineFeed line → lines_of (line ++ line_feed ∷ rest) ≡ line ∷ lines_of rest
lines_of-line line rest none =
    ap lines_of_parts (slice_split_at is_line_feed line line_feed rest none refl)
    ∙ lines_of_parts-cons line (slice_split is_line_feed rest) (slice_split_shape is_line_feed rest)

-- something in which there is no line feed is one line
lines_of_parts-one : (line : List ℕ) → 0 < length line → lines_of_parts (line ∷ []) ≡ line ∷ []
lines_of_parts-one line some =
    let full : (length line == 0) ≡ false = ne_eqb (length line) 0 (λ e. omega arith) in
    rw full refl

-- so is a text without a line feed
pub lines_of-one : (text : List ℕ) → 0 < length text → HasNoLineFeed text → lines_of text ≡ text ∷ []
lines_of-one text some none = ap lines_of_parts (slice_split_none is_line_feed text none) ∙ lines_of_parts-one text some

-- a text begins with what stands before its first line feed
pub BeginsWithLine-at : (text : List ℕ) (end : ℕ) → position is_line_feed text ≡ Some end → BeginsWithLine text (take end text) (drop (end + 1) text)
BeginsWithLine-at text end is =
    let found = position-Some is_line_feed text end 0 is in
    let first = position-found is_line_feed text end is in
    let within : end < length text = found.0 in
    let feed : get_or text end 0 ≡ line_feed = eqb-true (get_or text end 0) line_feed found.1 in
    let at : drop end text ≡ line_feed ∷ drop (end + 1) text = rw (add-one, drop-cons text end 0, feed) refl in
    record {
      spelled = sym (take-append-drop end text) ∙ ap (λ rest. take end text ++ rest) at;
      none = λ k d before.
          let below : k < end = omega (arith, length-take end text) in
          rw (get_or-take end text k d below) (fails_before_first is_line_feed text k d (omega (arith, first.0)));
    }

-- ---- a text of one line at most

-- a text without a line feed
few_of_one : (text : List ℕ) → HasNoLineFeed text → length (lines_of text) ≤ 1
few_of_one [] none = omega arith
few_of_one (byte ∷ text) none = omega (arith, ap length (lines_of-one (byte ∷ text) (omega arith) none))

pub few_without : (text : List ℕ) → position is_line_feed text ≡ None → length (lines_of text) ≤ 1
few_without text none = few_of_one text (position-none is_line_feed text none)

-- a line with its line feed
pub few_of_line : (text : List ℕ) (end : ℕ) → position is_line_feed text ≡ Some end → length (lines_of (take (end + 1) text)) ≤ 1
few_of_line text end is = omega (arith, ap (λ bytes. length (lines_of bytes)) front, ap length (lines_of-line (take end text) [] begins.none)) where
  begins : BeginsWithLine text (take end text) (drop (end + 1) text)
  begins = BeginsWithLine-at text end is

  line : List ℕ
  line = take end text ++ line_feed ∷ []

  long : length line ≡ end + 1
  long =
      let found = position-Some is_line_feed text end 0 is in
      omega (arith, found.0, length-append (take end text) (line_feed ∷ []), length-take end text)

  front : take (end + 1) text ≡ line
  front =
      let rest = drop (end + 1) text in
      ap (λ bytes. take (end + 1) bytes) (begins.spelled ∙ sym (append_assoc (take end text) (line_feed ∷ []) rest))
      ∙ ap (λ n. take n (line ++ rest)) (sym long) ∙ take-append_seam line rest

-- ---- bytes that come one after another

module _ (bytes : List ℕ) (lines : List (List ℕ)) (unfinished : List ℕ) (parts : slice_split is_line_feed bytes ≡ lines ++ unfinished ∷ []) where
  -- the unfinished line goes on
  pub parts-longer : (more : List ℕ) → HasNoLineFeed more → slice_split is_line_feed (bytes ++ more) ≡ lines ++ (unfinished ++ more) ∷ []
  parts-longer more none = slice_split-append is_line_feed bytes more more [] (slice_split_none is_line_feed more none) lines unfinished parts

  -- it ends
  parts-ended : (more : List ℕ) → slice_split is_line_feed (bytes ++ line_feed ∷ more) ≡ lines ++ unfinished ∷ slice_split is_line_feed more
  parts-ended more =
      slice_split-append is_line_feed bytes (line_feed ∷ more) [] (slice_split is_line_feed more) refl lines unfinished parts
      ∙ ap (λ line. lines ++ line ∷ slice_split is_line_feed more) (append-nil unfinished)

  -- and the next one begins
  pub parts-next : slice_split is_line_feed (bytes ++ line_feed ∷ []) ≡ (lines ++ unfinished ∷ []) ++ [] ∷ []
  parts-next = parts-ended [] ∙ sym (append_assoc lines (unfinished ∷ []) ([] ∷ []))

  -- then it is a line, whatever follows
  pub lines_of-ended : (more : List ℕ) → lines_of (bytes ++ line_feed ∷ more) ≡ lines ++ unfinished ∷ lines_of more
  lines_of-ended more =
      ap lines_of_parts (parts-ended more)
      ∙ lines_of_parts-append lines unfinished (slice_split is_line_feed more)
      ∙ ap (λ below. lines ++ below) (lines_of_parts-cons unfinished (slice_split is_line_feed more) (slice_split_shape is_line_feed more))

  -- where nothing follows it is one if there is something in it
  pub lines_of-last : 0 < length unfinished → lines_of bytes ≡ lines ++ unfinished ∷ []
  lines_of-last some = ap lines_of_parts parts ∙ lines_of_parts-append lines unfinished [] ∙ ap (λ below. lines ++ below) (lines_of_parts-one unfinished some)

  -- and none if there is nothing
  pub lines_of-none : unfinished ≡ [] → lines_of bytes ≡ lines
  lines_of-none none =
      ap lines_of_parts parts
      ∙ lines_of_parts-append lines unfinished []
      ∙ ap (λ line. lines ++ lines_of_parts (line ∷ [])) none
      ∙ append-nil lines

-- a text in which there is something has a line
some_line : (text : List ℕ) → 0 < length text → (cut : Option ℕ) → position is_line_feed text ≡ cut → 1 ≤ length (lines_of text)
some_line text some None none = omega (arith, ap length (lines_of-one text some (position-none is_line_feed text none)))
some_line text some (Some end) is =
    let begins = BeginsWithLine-at text end is in
    omega (arith, ap (λ text. length (lines_of text)) begins.spelled, ap length (lines_of-line (take end text) (drop (end + 1) text) begins.none))

-- where something follows its first line feed, it has two
two_lines : (line rest : List ℕ) → HasNoLineFeed line → 0 < length rest → 2 ≤ length (lines_of (line ++ line_feed ∷ rest))
two_lines line rest none some = omega (arith, ap length (lines_of-line line rest none), some_line rest some (position is_line_feed rest) refl)

-- so in a text of one line at most nothing follows it
few_before : (text : List ℕ) → length (lines_of text) ≤ 1 → (front : List ℕ) (last : ℕ) → text ≡ front ++ last ∷ [] → (cut : Option ℕ) → position is_line_feed front ≡ cut
    → HasNoLineFeed front
few_before text few front last is None none = position-none is_line_feed front none
few_before text few front last is (Some end) found =
    let begins = BeginsWithLine-at front end found in
    let line = take end front in
    let rest = drop (end + 1) front in
    let are : text ≡ line ++ line_feed ∷ (rest ++ last ∷ []) =
    is ∙ ap (λ front. front ++ last ∷ []) begins.spelled ∙ append_assoc line (line_feed ∷ rest) (last ∷ []) in
    absurd (omega (arith, ap (λ text. length (lines_of text)) are, two_lines line (rest ++ last ∷ []) begins.none (omega (arith, length-append rest (last ∷ [])))))

-- it begins with the line that the line feed at its end ends
pub begins_whole : (text : List ℕ) → length (lines_of text) ≤ 1 → (line : List ℕ) (last : ℕ) → text ≡ line ++ last ∷ [] → last ≡ line_feed → BeginsWithLine text line []
begins_whole text few line last is feed = record {
  spelled = is ∙ ap (λ last. line ++ last ∷ []) feed;
  none = few_before text few line last is (position is_line_feed line) refl;
}

-- or has no line feed, where none is at its end
pub none_without_last : (text : List ℕ) → length (lines_of text) ≤ 1 → (front : List ℕ) (last : ℕ) → text ≡ front ++ last ∷ [] → ¬ (last ≡ line_feed) → HasNoLineFeed text
none_without_last text few front last is other =
    let front_none = few_before text few front last is (position is_line_feed front) refl in
    let not_feed : is_line_feed last ≡ false = ne_eqb last line_feed other in
    let none : ℕ → Type 0 = λ byte. is_line_feed byte ≡ false in
    subst HasNoLineFeed (sym is) (All-append none front (last ∷ []) front_none (All-cons none last [] not_feed (All-nil none)))
