use Rattle.std.specs.Prelude.{◌≡◌, ℕ, ◌+◌, ◌⊎◌, List, [], ◌∷◌}

-- from the k-th item on
abbrev pub FiltersFrom : {X : Type 0} → (ℕ → Type 0) → ℕ → List X → List X → Type 0
FiltersFrom P k [] chosen = chosen ≡ []
FiltersFrom {X} P k (x ∷ xs) chosen =
    (P k × (rest : List X) × (chosen ≡ x ∷ rest) × FiltersFrom P (k + 1) xs rest) ⊎ (¬ P k × FiltersFrom P (k + 1) xs chosen)

-- these are the items at whose index the fact holds, in their order
abbrev pub FiltersTo : {X : Type 0} → (ℕ → Type 0) → List X → List X → Type 0
FiltersTo P items chosen = FiltersFrom P 0 items chosen
