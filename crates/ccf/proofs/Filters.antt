-- The items at whose index a fact holds, over lists joined end to end.
use Rattle.std.proofs.Common.{◌≡◌, ℕ, ◌+◌, ◌<◌, ◌≤◌, ◌⊎◌, List, [], ◌∷◌, ◌++◌, length, refl, sym, ap, ◌∙◌, subst, inl, inr, arith}
use Rattle.ccf.specs.Filter.{FiltersFrom}

-- the items of two lists, from those of each
pub FiltersFrom-append : {X : Type 0} (P : ℕ → Type 0) (k m : ℕ) (xs ys chosen more : List X) → k + length xs ≡ m
    → FiltersFrom P k xs chosen → FiltersFrom P m ys more → FiltersFrom P k (xs ++ ys) (chosen ++ more)
FiltersFrom-append P k m [] ys chosen more e h g =
    let Q : ℕ → Type 0 = λ n. FiltersFrom P n ys (chosen ++ more) in
    let start : m ≡ k = omega arith in
    subst Q start (let R : List _ → Type 0 = λ t. FiltersFrom P m ys (t ++ more) in subst R (sym h) g)
FiltersFrom-append P k m (x ∷ xs) ys chosen more e (inl h) g =
    inl (h.0, h.1 ++ more, ap (λ t. t ++ more) h.2, FiltersFrom-append P (k + 1) m xs ys h.1 more (omega arith) h.3 g)
FiltersFrom-append P k m (x ∷ xs) ys chosen more e (inr h) g =
    inr (h.0, FiltersFrom-append P (k + 1) m xs ys chosen more (omega arith) h.1 g)

-- where the fact holds of no index, no item is chosen
pub FiltersFrom-none : {X : Type 0} (P : ℕ → Type 0) (k : ℕ) (xs : List X) → ((j : ℕ) → k ≤ j → j < k + length xs → P j → ⊥) → FiltersFrom P k xs []
FiltersFrom-none P k [] none = refl
FiltersFrom-none P k (x ∷ xs) none =
    inr (none k (omega arith) (omega arith), FiltersFrom-none P (k + 1) xs (λ j from to. none j (omega arith) (omega arith)))

-- where the fact holds of every index, all items are chosen
pub FiltersFrom-all : {X : Type 0} (P : ℕ → Type 0) (k : ℕ) (xs : List X) → ((j : ℕ) → k ≤ j → j < k + length xs → P j) → FiltersFrom P k xs xs
FiltersFrom-all P k [] all = refl
FiltersFrom-all P k (x ∷ xs) all =
    inl (all k (omega arith) (omega arith), xs, refl, FiltersFrom-all P (k + 1) xs (λ j from to. all j (omega arith) (omega arith)))

-- the same items are chosen by a fact that means the same of their indexes
pub FiltersFrom-same : {X : Type 0} (P Q : ℕ → Type 0) (k : ℕ) (xs chosen : List X) → ((j : ℕ) → k ≤ j → j < k + length xs → P j → Q j)
    → ((j : ℕ) → k ≤ j → j < k + length xs → Q j → P j) → FiltersFrom P k xs chosen → FiltersFrom Q k xs chosen
FiltersFrom-same P Q k [] chosen to from h = h
FiltersFrom-same P Q k (x ∷ xs) chosen to from (inl h) =
    inl (
      to k (omega arith) (omega arith) h.0,
      h.1,
      h.2,
      FiltersFrom-same P Q (k + 1) xs h.1 (λ j low high. to j (omega arith) (omega arith)) (λ j low high. from j (omega arith) (omega arith)) h.3,
    )
FiltersFrom-same P Q k (x ∷ xs) chosen to from (inr h) =
    inr (
      λ q. h.0 (from k (omega arith) (omega arith) q),
      FiltersFrom-same P Q (k + 1) xs chosen (λ j low high. to j (omega arith) (omega arith)) (λ j low high. from j (omega arith) (omega arith)) h.1,
    )

-- where the fact holds of no index, what is chosen is empty
pub FiltersFrom-nothing : {X : Type 0} (P : ℕ → Type 0) (k : ℕ) (xs chosen : List X) → ((j : ℕ) → k ≤ j → P j → ⊥) → FiltersFrom P k xs chosen → chosen ≡ []
FiltersFrom-nothing P k [] chosen none h = h
FiltersFrom-nothing P k (x ∷ xs) chosen none (inl h) = absurd (none k (omega arith) h.0)
FiltersFrom-nothing P k (x ∷ xs) chosen none (inr h) = FiltersFrom-nothing P (k + 1) xs chosen (λ j from. none j (omega arith)) h.1

-- neither of two
neither : (P Q : Type 0) → (P → ⊥) → (Q → ⊥) → P ⊎ Q → ⊥
neither P Q p q (inl h) = p h
neither P Q p q (inr h) = q h

-- Where one fact holds only of earlier indexes than another, the items of either are those of the
-- one and then those of the other.
pub FiltersFrom-either : {X : Type 0} (P Q : ℕ → Type 0) (k : ℕ) (xs chosen more : List X) → ((i j : ℕ) → i ≤ j → Q i → P j → ⊥)
    → FiltersFrom P k xs chosen → FiltersFrom Q k xs more → FiltersFrom (λ j. P j ⊎ Q j) k xs (chosen ++ more)
FiltersFrom-either P Q k [] chosen more apart h g = ap (λ t. t ++ more) h ∙ g
FiltersFrom-either P Q k (x ∷ xs) chosen more apart (inl h) (inl g) = absurd (apart k k (omega arith) g.0 h.0)
FiltersFrom-either P Q k (x ∷ xs) chosen more apart (inl h) (inr g) =
    inl (inl h.0, h.1 ++ more, ap (λ t. t ++ more) h.2, FiltersFrom-either P Q (k + 1) xs h.1 more apart h.3 g.1)
FiltersFrom-either P Q k (x ∷ xs) chosen more apart (inr h) (inl g) =
    let nothing = FiltersFrom-nothing P (k + 1) xs chosen (λ j from p. apart k j (omega arith) g.0 p) h.1 in
    inl (inr g.0, chosen ++ g.1, ap (λ t. t ++ more) nothing ∙ g.2 ∙ ap (λ t. x ∷ t ++ g.1) (sym nothing), FiltersFrom-either P Q (k + 1) xs chosen g.1 apart h.1 g.3)
FiltersFrom-either P Q k (x ∷ xs) chosen more apart (inr h) (inr g) =
    inr (neither (P k) (Q k) h.0 g.0, FiltersFrom-either P Q (k + 1) xs chosen more apart h.1 g.1)

-- the items at whose index the fact holds are these and no others
pub FiltersFrom-once : {X : Type 0} (P : ℕ → Type 0) (k : ℕ) (xs chosen others : List X) → FiltersFrom P k xs chosen → FiltersFrom P k xs others → chosen ≡ others
FiltersFrom-once P k [] chosen others h g = h ∙ sym g
FiltersFrom-once P k (x ∷ xs) chosen others (inl h) (inl g) =
    h.2 ∙ ap (λ t. x ∷ t) (FiltersFrom-once P (k + 1) xs h.1 g.1 h.3 g.3) ∙ sym g.2
FiltersFrom-once P k (x ∷ xs) chosen others (inl h) (inr g) = absurd (g.0 h.0)
FiltersFrom-once P k (x ∷ xs) chosen others (inr h) (inl g) = absurd (h.0 g.0)
FiltersFrom-once P k (x ∷ xs) chosen others (inr h) (inr g) = FiltersFrom-once P (k + 1) xs chosen others h.1 g.1
