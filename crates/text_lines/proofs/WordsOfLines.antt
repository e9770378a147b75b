-- The first word of a line, split off.
use Rattle.std.proofs.Common.{◌≡◌, ℕ, zero, suc, ◌+◌, ◌<◌, true, false, not, List, [], ◌∷◌, length, take, drop, get_or, Some, None, refl, sym, ap, ◌∙◌, arith, nat_lt, add-one, add-zero, length-take, length-drop, get_or-drop, inl, inr}
use Rattle.std.specs.Prelude.{All, filter, position}
use Rattle.std.specs.List.{slice_split, position_or_len}
use Rattle.std.proofs.lemmas.Grind.{common_steps}
use Rattle.std.proofs.lemmas.Bool.{lt-ltb, not-false, not-true, cases_eq}
use Rattle.std.proofs.lemmas.List.Quantifiers.{position-Some}
use Rattle.std.proofs.Math.Seq.{drop-cons}
use Rattle.std.proofs.lemmas.List.Splits.{slice_split_first, slice_split_none, slice_split-cons_yes}
use Rattle.text_lines.specs.Lines.{words_of, is_separator}
use Rattle.text_lines.proofs.FirstBytes.{position-found, position-none}

-- a byte that separates words is no part of one
words_of-separator : (b : ℕ) (rest : List ℕ) → is_separator b ≡ true → words_of (b ∷ rest) ≡ words_of rest
words_of-separator b rest h = ap (filter (λ part. nat_lt 0 (length part))) (slice_split-cons_yes is_separator b rest h)

-- nor are several such bytes
words_of-separators : (n : ℕ) (line : List ℕ) → ((k : ℕ) → k < n → is_separator (get_or line k 0) ≡ true) → words_of line ≡ words_of (drop n line)
words_of-separators zero line h = refl
words_of-separators (suc n) [] h = refl
words_of-separators (suc n) (b ∷ rest) h =
    words_of-separator b rest (h 0 (omega arith)) ∙ words_of-separators n rest (λ k below. h (suc k) (omega arith))

-- what begins at the first byte of a word
pub record BeginsWord (line words : List ℕ) : Type 0 where
  pub same : words_of line ≡ words_of words
  pub some : 0 < length words
  pub first : is_separator (get_or words 0 0) ≡ false

pub BeginsWord-at : (line words : List ℕ) (start : ℕ) → position (λ byte. not (is_separator byte)) line ≡ Some start → words ≡ drop start line → BeginsWord line words
BeginsWord-at line words start h is =
    let found = position-Some (λ byte. not (is_separator byte)) line start 0 h in
    record {
      same = words_of-separators start line (λ k below. not-false (is_separator (get_or line k 0)) (found.2 k below)) ∙ ap words_of (sym is);
      some = rw (is, length-drop) (omega (arith, found.0));
      first = rw (is, get_or-drop start line 0 0, add-zero) (not-true (is_separator (get_or line start 0)) found.1);
    }

-- a line of bytes that separate words has none
pub words_of-none : (line : List ℕ) → position (λ byte. not (is_separator byte)) line ≡ None → words_of line ≡ []
words_of-none line h =
    let none = position-none (λ byte. not (is_separator byte)) line h in
    let end : drop (length line) line ≡ [] = grind (arith, common_steps) in
    words_of-separators (length line) line (λ k below. not-false (is_separator (get_or line k 0)) (none k 0 below)) ∙ ap words_of end

-- a part with something in it is a word
words_of_parts-cons : (part : List ℕ) (parts : List (List ℕ)) → 0 < length part
    → filter (λ part. nat_lt 0 (length part)) (part ∷ parts) ≡ part ∷ filter (λ part. nat_lt 0 (length part)) parts
words_of_parts-cons part parts some = rw (lt-ltb 0 (length part) some) refl

-- it does not end where it begins
word-ends : (words : List ℕ) (end : ℕ) → is_separator (get_or words 0 0) ≡ false → position is_separator words ≡ Some end → 0 < end
word-ends words end first h =
    let found = position-Some is_separator words end 0 h in
    elim (cases_eq end 0) [
      | inl at ↦
          let bad : is_separator (get_or words 0 0) ≡ true = rw at at found.1 in
          let no : true ≡ false = sym bad ∙ first in
          absurd (cc no)
      | inr past ↦ omega arith
    ]

-- a word ends before the first byte that separates words
pub words_of-word : (line words : List ℕ) (end : ℕ) → BeginsWord line words → position is_separator words ≡ Some end
    → words_of line ≡ take end words ∷ words_of (drop end words)
words_of-word line words end begins h =
    let found = position-Some is_separator words end 0 h in
    let some : 0 < end = word-ends words end begins.first h in
    let at : position_or_len is_separator words ≡ end = (position-found is_separator words end h).0 in
    let below : end < length words = found.0 in
    let within : position_or_len is_separator words < length words = omega arith in
    let parts : slice_split is_separator words ≡ take end words ∷ slice_split is_separator (drop (end + 1) words) =
    rw at at (slice_split_first is_separator words 0 within) in
    let long : 0 < length (take end words) = simp length-take (omega arith) in
    let more : drop end words ≡ get_or words end 0 ∷ drop (end + 1) words = rw (add-one, drop-cons words end 0) refl in
    let skipped : words_of (drop end words) ≡ words_of (drop (end + 1) words) =
    ap words_of more ∙ words_of-separator (get_or words end 0) (drop (end + 1) words) found.1 in
    begins.same
    ∙ ap (filter (λ part. nat_lt 0 (length part))) parts
    ∙ words_of_parts-cons (take end words) (slice_split is_separator (drop (end + 1) words)) long
    ∙ ap (λ more. take end words ∷ more) (sym skipped)

-- or at the line's end
pub words_of-last : (line words : List ℕ) → BeginsWord line words → position is_separator words ≡ None → words_of line ≡ words ∷ []
words_of-last line words begins h =
    begins.same
    ∙ ap (filter (λ part. nat_lt 0 (length part))) (slice_split_none is_separator words (position-none is_separator words h))
    ∙ words_of_parts-cons words [] begins.some

-- behind a space, bytes that separate no words are one
pub words_of-one : (word : List ℕ) → 0 < length word → All (λ byte. is_separator byte ≡ false) word → words_of (32 ∷ word) ≡ word ∷ []
words_of-one word some none =
    words_of-separator 32 word refl
    ∙ ap (filter (λ part. nat_lt 0 (length part))) (slice_split_none is_separator word none)
    ∙ words_of_parts-cons word [] some
