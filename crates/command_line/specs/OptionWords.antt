-- An option with a value among words: the value is in the option's own word, behind `=`, or is the
-- word behind it.
use Rattle.std.specs.Prelude.{◌≡◌, ◌⊎◌, ℕ, List, [], ◌∷◌, ◌++◌, All, codes}

-- the word of an option that has its value too
abbrev pub with_value : List ℕ → List ℕ → List ℕ
with_value option value = option ++ codes "=" ++ value

-- the word is this option, without its value or with it
abbrev pub IsOption : List ℕ → List ℕ → Type 0
IsOption option word = (word ≡ option) ⊎ ((value : List ℕ) × (word ≡ with_value option value))

-- none of these words is
abbrev pub HasNoOption : List ℕ → List (List ℕ) → Type 0
HasNoOption option = All (λ word. ¬ IsOption option word)

-- the value of an option without one: the first of the words behind it, and no letter where there
-- is none
abbrev pub value_behind : List (List ℕ) → List ℕ
value_behind [] = []
value_behind (word ∷ more) = word

-- the first of these words that is this option has this value, and these words stand behind the
-- option
abbrev pub HasFirstValue : List ℕ → List (List ℕ) → List ℕ → List (List ℕ) → Type 0
HasFirstValue option [] value behind = ⊥
HasFirstValue option (word ∷ more) value behind =
    ((word ≡ option) × (value ≡ value_behind more) × (behind ≡ more)) ⊎ ((word ≡ with_value option value) × (behind ≡ more))
    ⊎ (¬ IsOption option word × HasFirstValue option more value behind)

-- just one of these words is this option, and it has this value
abbrev pub HasOneValue : List ℕ → List (List ℕ) → List ℕ → Type 0
HasOneValue option words value = (behind : List (List ℕ)) × HasFirstValue option words value behind × HasNoOption option behind

-- two of these words are this option
abbrev pub HasItTwice : List ℕ → List (List ℕ) → Type 0
HasItTwice option words =
    (value : List ℕ) × (behind : List (List ℕ)) × HasFirstValue option words value behind
    × ((other : List ℕ) × (rest : List (List ℕ)) × HasFirstValue option behind other rest)
