-- The second word, the words behind it, and a word that asks for help.
use Rattle.std.proofs.Common.{◌≡◌, ◌⊎◌, ℕ, zero, suc, ◌+◌, ◌-◌, ◌<◌, ◌≤◌, inl, inr, Some, List, [], ◌∷◌, ◌++◌, length, get_or, slice_get, take, drop, ap, sym, ◌∙◌, subst, arith}
use Rattle.std.proofs.lemmas.Bool.{cases_lt}
use Rattle.std.proofs.lemmas.List.{length-map, length-take, take_all}
use Rattle.std.proofs.lemmas.Option.{same_Some, slice_get_within}
use Rattle.std.specs.Prelude.{map, ◌↔◌}
use Rattle.command_line.specs.declared.command.Command.{Command}
use Rattle.command_line.specs.declared.command.Command.TheVariants.{Join, Cut, Replay, Run, Follow, Map, Help}
use Rattle.command_line.specs.Inside.Command.{AsksWithOptions}
use Rattle.command_line.specs.Command.{IsCommandAlone, IsCommand, options_in, AsksForAnEngine, HasWord, IsHelpWord, HasNoHelpWord, StandsBeforeHelp}

-- of two words the second is a command's alone
pub IsCommandAlone-two : {X : Type 0} (command : List ℕ) (text : X → List ℕ) (words : List X) (word : X) → 2 ≤ length words → length words < 3 → word ≡ get_or words 1 word
    → (text word ≡ command) ↔ IsCommandAlone command (map text words)
IsCommandAlone-two command text [] word some few is = absurd (omega arith)
IsCommandAlone-two command text (name ∷ []) word some few is = absurd (omega arith)
IsCommandAlone-two command text (name ∷ second ∷ []) word some few is = (λ e. ap text (sym is) ∙ e, λ e. ap text is ∙ e)
IsCommandAlone-two command text (name ∷ second ∷ third ∷ more) word some few is = absurd (omega arith)

-- words begin with a command where the second is the command's
pub IsCommand-second : {X : Type 0} (command : List ℕ) (text : X → List ℕ) (words : List X) (word : X) → 2 ≤ length words → word ≡ get_or words 1 word
    → (text word ≡ command) ↔ IsCommand command (map text words)
IsCommand-second command text [] word some is = absurd (omega arith)
IsCommand-second command text (name ∷ []) word some is = absurd (omega arith)
IsCommand-second command text (name ∷ second ∷ more) word some is = (λ e. ap text (sym is) ∙ e, λ e. ap text is ∙ e)

-- there is a second word where words begin with a command
pub IsCommand-long : {X : Type 0} (command : List ℕ) (text : X → List ℕ) (words : List X) → length words < 2 → IsCommand command (map text words) → ⊥
IsCommand-long command text [] few is = is
IsCommand-long command text (name ∷ []) few is = is
IsCommand-long command text (name ∷ second ∷ more) few is = omega arith

-- the options are the words from the third one on
pub options_behind : {X : Type 0} (text : X → List ℕ) (words : List X) → 2 ≤ length words
    → options_in (map text words) ≡ map text (take (length words - 2) (drop 2 words))
options_behind text [] some = absurd (omega arith)
options_behind text (name ∷ []) some = absurd (omega arith)
options_behind text (name ∷ second ∷ more) some = ap (map text) (sym (take_all (length (name ∷ second ∷ more) - 2) more (omega arith)))

-- one of some words is this one if the first is, or one of those behind it
pub HasWord-first : {X : Type 0} (wanted : List ℕ) (text : X → List ℕ) (words : List X) (word : X) (shown : List ℕ) → 1 ≤ length words → word ≡ get_or words 0 word
    → shown ≡ text word → HasWord wanted (map text words) ↔ ((shown ≡ wanted) ⊎ HasWord wanted (map text (take (length words - 1) (drop 1 words))))
HasWord-first wanted text [] word shown some first shows = absurd (omega arith)
HasWord-first wanted text (one ∷ more) word shown some first shows =
    let whole = take_all (length (one ∷ more) - 1) more (omega arith) in
    let same : shown ≡ text one = shows ∙ ap text first in (
      λ has. elim has [
        | inl is ↦ inl (same ∙ is)
        | inr behind ↦ inr (subst (λ rest. HasWord wanted (map text rest)) (sym whole) behind)
      ],
      λ has. elim has [
        | inl is ↦ inl (sym same ∙ is)
        | inr behind ↦ inr (subst (λ rest. HasWord wanted (map text rest)) whole behind)
      ],
    )

-- none of no words is
pub HasWord-none : {X : Type 0} (wanted : List ℕ) (text : X → List ℕ) (words : List X) → length words < 1 → HasWord wanted (map text words) → ⊥
HasWord-none wanted text [] none has = has
HasWord-none wanted text (one ∷ more) none has = omega (arith, none)

-- none of the words after the name and before this place asks for help
abbrev pub HasNoneBefore : List (List ℕ) → ℕ → Type 0
HasNoneBefore words place = (k : ℕ) (word : List ℕ) → 0 < k → k < place → slice_get words k ≡ Some word → ¬ IsHelpWord word

-- the text of the word at a place
text_at : {X : Type 0} (text : X → List ℕ) (words : List X) (place : ℕ) (word : X) → place < length words → word ≡ get_or words place word
    → slice_get (map text words) place ≡ Some (text word)
text_at text [] place word within is = absurd (omega arith)
text_at text (first ∷ more) zero word within is = ap (λ w. Some (text w)) (sym is)
text_at text (first ∷ more) (suc place) word within is = text_at text more place word (omega arith) is

-- a word of a front is a word of the whole, and stands before the front's end
in_front : {X : Type 0} (text : X → List ℕ) (words : List X) (place k : ℕ) (word : List ℕ) → slice_get (map text (take place words)) k ≡ Some word
    → (k < place) × (slice_get (map text words) k ≡ Some word)
in_front text [] zero k word e = absurd cc
in_front text [] (suc place) k word e = absurd cc
in_front text (first ∷ more) zero k word e = absurd cc
in_front text (first ∷ more) (suc place) zero word e = (omega arith, e)
in_front text (first ∷ more) (suc place) (suc k) word e = let found = in_front text more place k word e in (omega (arith, found.0), found.1)

-- one word further none asks for help
pub HasNoneBefore-more : {X : Type 0} (text : X → List ℕ) (words : List X) (place : ℕ) (word : X) (shown : List ℕ) → place < length words → word ≡ get_or words place word
    → shown ≡ text word → ¬ IsHelpWord shown → HasNoneBefore (map text words) place → HasNoneBefore (map text words) (place + 1)
HasNoneBefore-more text words place word shown within is text_is other none k found later before at =
    elim (cases_lt k place) [
      | inl early ↦ none k found later early at
      | inr late ↦
          let here : k ≡ place = omega (arith, late, before) in
          let same : found ≡ shown = same_Some found shown (sym at ∙ ap (slice_get (map text words)) here ∙ text_at text words place word within is ∙ ap Some (sym text_is)) in
          let P : List ℕ → Type 0 = λ w. ¬ IsHelpWord w in
          subst P (sym same) other
    ]

-- where the place is after all words none asks for help
pub HasNoHelpWord-all : {X : Type 0} (text : X → List ℕ) (words : List X) (place : ℕ) → length words ≤ place → HasNoneBefore (map text words) place → HasNoHelpWord (map text words)
HasNoHelpWord-all text words place all none k word later at = none k word later (omega (arith, all, slice_get_within (map text words) k word at, length-map words text)) at

-- the words at a place: those before, the word itself and those after it
split_at : {X : Type 0} (text : X → List ℕ) (words : List X) (place : ℕ) (word : X) → place < length words → word ≡ get_or words place word
    → (after : List (List ℕ)) × (map text words ≡ map text (take place words) ++ text word ∷ after)
split_at text [] place word within is = absurd (omega arith)
split_at text (first ∷ more) zero word within is = (map text more, ap (λ w. text w ∷ map text more) (sym is))
split_at text (first ∷ more) (suc place) word within is =
    let found = split_at text more place word (omega arith) is in
    (found.0, ap (λ words. text first ∷ words) found.1)

-- the words before the first one that asks for help
pub StandsBeforeHelp-at : {X : Type 0} (text : X → List ℕ) (words : List X) (place : ℕ) (word : X) (shown : List ℕ) → place < length words → word ≡ get_or words place word
    → shown ≡ text word → IsHelpWord shown → 0 < place → HasNoneBefore (map text words) place → StandsBeforeHelp (map text (take place words)) (map text words)
StandsBeforeHelp-at text words place word shown within is text_is help later none =
    let split = split_at text words place word within is in
    record {
      word = text word;
      after = split.0;
      are = split.1;
      named = omega (arith, within, later, length-map (take place words) text, length-take place words);
      help = subst IsHelpWord text_is help;
      first = λ k found later at. let in_whole = in_front text words place k found at in none k found later in_whole.0 in_whole.1;
    }

-- words that are read with options ask for an engine
pub AsksForAnEngine-with_options : (words : List (List ℕ)) (command : Command) → AsksWithOptions words command → AsksForAnEngine words
AsksForAnEngine-with_options words Join asks = absurd asks
AsksForAnEngine-with_options words (Cut first fill) asks = inr (inl asks.0)
AsksForAnEngine-with_options words (Replay rule selected) asks = inr (inr (inl (rule, selected, asks)))
AsksForAnEngine-with_options words (Run rule mailbox ring) asks = inr (inr (inr (inl (rule, asks.0))))
AsksForAnEngine-with_options words (Follow rule channels events selected) asks = inr (inr (inr (inr (inl (rule, channels, asks.0)))))
AsksForAnEngine-with_options words Map asks = absurd asks
AsksForAnEngine-with_options words (Help text) asks = absurd asks

-- what some options are told to ask for, words are told to ask for that have them behind a command
pub of_command : {A : Type 0} (command : List ℕ) (words options : List (List ℕ)) (Asks : List (List ℕ) → Type 0)
    → IsCommand command words × (options_in words ≡ options) → A ↔ Asks options → A ↔ (IsCommand command words × Asks (options_in words))
of_command command words options Asks found told =
    (λ a. (found.0, subst Asks (sym found.1) (told.0 a)), λ asks. told.1 (subst Asks found.1 asks.1))
