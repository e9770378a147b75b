-- The first field of a line, and the fields after it.
use Rattle.std.proofs.Common.{◌≡◌, ℕ, List, [], ◌∷◌, sym, ◌∙◌}

-- no fields are none
pub none_or_some : (fields : List (List ℕ)) (word : List ℕ) (more : List (List ℕ)) → fields ≡ [] → fields ≡ word ∷ more → ⊥
none_or_some fields word more a b = let no : [] ≡ word ∷ more = sym a ∙ b in cc no

-- fields have one first word
pub one_word : (fields : List (List ℕ)) (word other : List ℕ) (more others : List (List ℕ)) → fields ≡ word ∷ more → fields ≡ other ∷ others → word ≡ other
one_word fields word other more others a b = let same : word ∷ more ≡ other ∷ others = sym a ∙ b in cc same

-- and the same after it
pub same_after : (fields : List (List ℕ)) (word other : List ℕ) (more others : List (List ℕ)) → fields ≡ word ∷ more → fields ≡ other ∷ others → more ≡ others
same_after fields word other more others a b = let same : word ∷ more ≡ other ∷ others = sym a ∙ b in cc same
