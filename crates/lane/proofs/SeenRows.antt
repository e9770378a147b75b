-- What a table of service identifiers has after one more is put in.
use Rattle.std.proofs.Common.{◌≡◌, ◌≢◌, ℕ, zero, suc, ◌+◌, ◌<◌, ◌≤◌, Some, slice_get, ◌⊎◌, ◌↔◌, inl, inr, ⊎_elim, Bool, true, false, IsTrue, List, [], ◌∷◌, length, slice_index_or, slice_set, sym, ap, subst, ◌∙◌, refl, arith, replicate}
use Rattle.std.proofs.lemmas.Bool.{cases_eq, cases_lt}
use Rattle.std.proofs.lemmas.Option.{same_Some}
use Rattle.std.proofs.lemmas.List.{get_or-set_same, get_or-set_other}
use Rattle.lane.specs.declared.sids.SidRow.{SidRow}
use Rattle.lane.specs.Limits.{sid_limit}
use Rattle.lane.specs.Rows.{IsOutOfRangeWithin, IsSidRepeated}

-- this place of the table is set
abbrev pub IsSet : List (List Bool) → ℕ → ℕ → Type 0
IsSet table i j = IsTrue (slice_index_or (slice_index_or table i []) j false)

module _ (table : List (List Bool)) (i j : ℕ) (i_within : i < length table) (j_within : j < length (slice_index_or table i [])) where
  abbrev pub after : List (List Bool)
  after = slice_set table i (slice_set (slice_index_or table i []) j true)

  abbrev pub IsSetAfter : ℕ → ℕ → Type 0
  IsSetAfter other number = IsSet table other number ⊎ ((other ≡ i) × (number ≡ j))

  -- the row that was written
  here : slice_index_or after i [] ≡ slice_set (slice_index_or table i []) j true
  here = get_or-set_same table i (slice_set (slice_index_or table i []) j true) [] i_within

  -- the others are as they were
  elsewhere : (other : ℕ) → other ≢ i → slice_index_or after other [] ≡ slice_index_or table other []
  elsewhere other apart = get_or-set_other table i other (slice_set (slice_index_or table i []) j true) [] apart

  pub put-in : (other number : ℕ) → IsSet after other number ↔ IsSetAfter other number
  put-in other number =
      ⊎_elim
      (λ (same : other ≡ i).
      subst (λ k. IsSet after k number ↔ IsSetAfter k number) (sym same)
      (⊎_elim
      (λ (there : number ≡ j). (
        λ _. inr (refl, there),
        λ _. subst (λ t. IsTrue (slice_index_or t number false)) (sym here) (subst (λ n. IsTrue (slice_index_or (slice_set (slice_index_or table i []) j true) n false)) (sym there) (get_or-set_same (slice_index_or table i []) j true false j_within)),
      ))
      (λ (off : number ≢ j).
      let is : slice_index_or (slice_index_or after i []) number false ≡ slice_index_or (slice_index_or table i []) number false =
      ap (λ t. slice_index_or t number false) here ∙ get_or-set_other (slice_index_or table i []) j number true false off in
      (λ set. inl (subst IsTrue is set), ⊎_elim (λ was. subst IsTrue (sym is) was) (λ same_place. absurd (off same_place.1))))
      (cases_eq number j)))
      (λ (apart : other ≢ i).
      let is = ap (λ t. slice_index_or t number false) (elsewhere other apart) in
      (λ set. inl (subst IsTrue is set), ⊎_elim (λ was. subst IsTrue (sym is) was) (λ same_place. absurd (apart same_place.0))))
      (cases_eq other i)

-- a row of unset places has none that is set
unset : (n j : ℕ) → slice_index_or (replicate n false) j false ≡ false
unset zero j = refl
unset (suc n) zero = refl
unset (suc n) (suc j) = unset n j

-- nothing is set in four such rows
pub none-set : (n i j : ℕ)
    → slice_index_or (slice_index_or (replicate n false ∷ replicate n false ∷ replicate n false ∷ replicate n false ∷ []) i []) j false ≡ false
none-set n zero j = unset n j
none-set n (suc zero) j = unset n j
none-set n (suc (suc zero)) j = unset n j
none-set n (suc (suc (suc zero))) j = unset n j
none-set n (suc (suc (suc (suc i)))) j = refl

-- the channel and the identifier stand in one of the first n rows
abbrev pub IsAmongFirst : List SidRow → ℕ → ℕ → ℕ → Type 0
IsAmongFirst rows n channel sid =
    (j : ℕ) × (j < n) × (row : SidRow) × (slice_get rows j ≡ Some row) × (row.channel ≡ channel) × (row.sid ≡ sid)

module _ (rows : List SidRow) (k : ℕ) (row : SidRow) (at : slice_get rows k ≡ Some row) where
  pub in-range : (channels : ℕ) → ((j : ℕ) → ¬ (IsOutOfRangeWithin channels rows j)) → (row.channel < channels) × (row.sid < sid_limit)
  in-range channels ranges = (
    ⊎_elim (λ (below : row.channel < channels). below) (λ (not_below : channels ≤ row.channel). absurd (ranges k (row, at, inl not_below))) (cases_lt row.channel channels),
    ⊎_elim (λ (below : row.sid < sid_limit). below) (λ (not_below : sid_limit ≤ row.sid). absurd (ranges k (row, at, inr not_below))) (cases_lt row.sid sid_limit),
  )

  pub repeated : IsAmongFirst rows k row.channel row.sid → IsSidRepeated rows k
  repeated among = (among.0, among.1, row, among.2, at, among.3, among.4, among.5)

  pub unrepeated : ¬ (IsAmongFirst rows k row.channel row.sid) → ¬ (IsSidRepeated rows k)
  unrepeated not_among is =
      let same : is.2 ≡ row = same_Some _ _ (sym is.4 ∙ at) in
      not_among (is.0, is.1, is.3, is.5, is.6 ∙ ap (λ (one : SidRow). one.channel) same, is.7 ∙ ap (λ (one : SidRow). one.sid) same)

  pub among-more : (channel sid : ℕ) → IsAmongFirst rows (k + 1) channel sid ↔ (IsAmongFirst rows k channel sid ⊎ ((channel ≡ row.channel) × (sid ≡ row.sid)))
  among-more channel sid = (
    λ among. ⊎_elim
        (λ (below : among.0 < k). inl (among.0, below, among.2, among.3, among.4, among.5))
        (λ (here : k ≤ among.0).
        let place : among.0 ≡ k = let within = among.1 in omega arith in
        let same : among.2 ≡ row = same_Some _ _ (sym among.3 ∙ ap (slice_get rows) place ∙ at) in
        inr (sym among.4 ∙ ap (λ (one : SidRow). one.channel) same, sym among.5 ∙ ap (λ (one : SidRow). one.sid) same))
        (cases_lt among.0 k),
    ⊎_elim
        (λ among. (among.0, (let below = among.1 in omega arith), among.2, among.3, among.4, among.5))
        (λ is. (k, omega arith, row, at, sym is.0, sym is.1)),
  )
