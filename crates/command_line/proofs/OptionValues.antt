-- The value of an option among words: there is one at most.
use Rattle.std.proofs.Common.{◌≡◌, inl, inr, ℕ, ◌-◌, ◌≤◌, List, [], ◌∷◌, ◌++◌, length, get_or, take, drop, ap, sym, subst, ◌∙◌, arith}
use Rattle.std.specs.Prelude.{map, codes}
use Rattle.std.proofs.lemmas.List.{take_all, length-append, append_cancel_left}
use Rattle.std.proofs.lemmas.List.Elements.{All-cons, All-head, All-tail}
use Rattle.command_line.specs.OptionWords.{with_value, IsOption, HasNoOption, value_behind, HasFirstValue, HasOneValue}

module _ (option : List ℕ) where
  -- the option without a value is not the one with a value
  without_value : (value : List ℕ) → option ≡ with_value option value → ⊥
  without_value value e = omega (arith, ap length e, length-append (option ++ codes "=") value, length-append option (codes "="))

  -- a word has one value
  one_value : (value other : List ℕ) → with_value option value ≡ with_value option other → value ≡ other
  one_value value other e = append_cancel_left (option ++ codes "=") value other e

  -- the first option has one value, and the same words stand behind it
  pub HasFirstValue-one : (words : List (List ℕ)) (value other : List ℕ) (behind others : List (List ℕ)) → HasFirstValue option words value behind
      → HasFirstValue option words other others → (value ≡ other) × (behind ≡ others)
  HasFirstValue-one [] value other behind others is are = absurd is
  HasFirstValue-one (word ∷ more) value other behind others (inl is) (inl are) = (is.1 ∙ sym are.1, is.2 ∙ sym are.2)
  HasFirstValue-one (word ∷ more) value other behind others (inl is) (inr (inl are)) = absurd (without_value other (sym is.0 ∙ are.0))
  HasFirstValue-one (word ∷ more) value other behind others (inl is) (inr (inr are)) = absurd (are.0 (inl is.0))
  HasFirstValue-one (word ∷ more) value other behind others (inr (inl is)) (inl are) = absurd (without_value value (sym are.0 ∙ is.0))
  HasFirstValue-one (word ∷ more) value other behind others (inr (inl is)) (inr (inl are)) = (one_value value other (sym is.0 ∙ are.0), is.1 ∙ sym are.1)
  HasFirstValue-one (word ∷ more) value other behind others (inr (inl is)) (inr (inr are)) = absurd (are.0 (inr (value, is.0)))
  HasFirstValue-one (word ∷ more) value other behind others (inr (inr is)) (inl are) = absurd (is.0 (inl are.0))
  HasFirstValue-one (word ∷ more) value other behind others (inr (inr is)) (inr (inl are)) = absurd (is.0 (inr (other, are.0)))
  HasFirstValue-one (word ∷ more) value other behind others (inr (inr is)) (inr (inr are)) = HasFirstValue-one more value other behind others is.1 are.1

  -- and there is none where no word is the option
  pub no_first : (words : List (List ℕ)) (value : List ℕ) (behind : List (List ℕ)) → HasNoOption option words → HasFirstValue option words value behind → ⊥
  no_first [] value behind none is = is
  no_first (word ∷ more) value behind none (inl is) = All-head (λ w. ¬ IsOption option w) word more none (inl is.0)
  no_first (word ∷ more) value behind none (inr (inl is)) = All-head (λ w. ¬ IsOption option w) word more none (inr (value, is.0))
  no_first (word ∷ more) value behind none (inr (inr is)) = no_first more value behind (All-tail (λ w. ¬ IsOption option w) word more none) is.1

  -- options have one value
  pub HasOneValue-one : (words : List (List ℕ)) (value other : List ℕ) → HasOneValue option words value → HasOneValue option words other → value ≡ other
  HasOneValue-one words value other is are = (HasFirstValue-one words value other is.0 are.0 is.1 are.1).0

  -- the first word is the option, which has its value in the word behind it
  pub HasFirstValue-behind : {X : Type 0} (text : X → List ℕ) (words : List X) (word : X) (shown value : List ℕ) → 1 ≤ length words → word ≡ get_or words 0 word
      → shown ≡ text word → shown ≡ option → value ≡ value_behind (map text (take (length words - 1) (drop 1 words)))
      → HasFirstValue option (map text words) value (map text (take (length words - 1) (drop 1 words)))
  HasFirstValue-behind text [] word shown value some first shows is value_is = absurd (omega arith)
  HasFirstValue-behind text (one ∷ more) word shown value some first shows is value_is =
      let whole = take_all (length (one ∷ more) - 1) more (omega arith) in
      inl (ap text (sym first) ∙ sym shows ∙ is, value_is ∙ ap (λ rest. value_behind (map text rest)) whole, ap (map text) whole)

  -- behind a word that is not the option the words say what all say
  pub HasFirstValue-rest : {X : Type 0} (text : X → List ℕ) (words : List X) (word : X) (shown value : List ℕ) (behind : List (List ℕ)) → 1 ≤ length words
      → word ≡ get_or words 0 word → shown ≡ text word → ¬ IsOption option shown
      → HasFirstValue option (map text (take (length words - 1) (drop 1 words))) value behind → HasFirstValue option (map text words) value behind
  HasFirstValue-rest text [] word shown value behind some first shows other is = absurd (omega arith)
  HasFirstValue-rest text (one ∷ more) word shown value behind some first shows other is =
      let whole = take_all (length (one ∷ more) - 1) more (omega arith) in
      let same : shown ≡ text one = shows ∙ ap text first in
      inr (inr (subst (λ w. ¬ IsOption option w) same other, subst (λ rest. HasFirstValue option (map text rest) value behind) whole is))

  pub HasNoOption-rest : {X : Type 0} (text : X → List ℕ) (words : List X) (word : X) (shown : List ℕ) → 1 ≤ length words → word ≡ get_or words 0 word
      → shown ≡ text word → ¬ IsOption option shown → HasNoOption option (map text (take (length words - 1) (drop 1 words))) → HasNoOption option (map text words)
  HasNoOption-rest text [] word shown some first shows other none = absurd (omega arith)
  HasNoOption-rest text (one ∷ more) word shown some first shows other none =
      let whole = take_all (length (one ∷ more) - 1) more (omega arith) in
      let same : shown ≡ text one = shows ∙ ap text first in
      All-cons (λ w. ¬ IsOption option w) (text one) (map text more) (subst (λ w. ¬ IsOption option w) same other) (subst (λ rest. HasNoOption option (map text rest)) whole none)
