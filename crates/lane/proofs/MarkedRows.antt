-- What a table of the service identifiers of many channels has after one more is put in.
use Rattle.std.proofs.Common.{◌≡◌, ◌≢◌, ℕ, zero, suc, ◌+◌, ◌*◌, ◌<◌, ◌≤◌, ◌⊎◌, ◌↔◌, inl, inr, ⊎_elim, Bool, true, false, IsTrue, List, length, slice_index_or, slice_set, sym, ap, subst, ◌∙◌, refl, arith, replicate}
use Rattle.std.proofs.lemmas.Bool.{cases_eq, cases_lt}
use Rattle.std.proofs.lemmas.List.{get_or-set_same, get_or-set_other}
use Rattle.lane.specs.Limits.{sid_limit}

-- this place of the table is set
abbrev pub IsSet : List Bool → ℕ → Type 0
IsSet places place = IsTrue (slice_index_or places place false)

-- the place of a service identifier of a channel
abbrev pub place_in : ℕ → ℕ → ℕ
place_in channel sid = channel * sid_limit + sid

-- two identifiers have two places
one-place : (channel sid other number : ℕ) → sid < sid_limit → number < sid_limit → place_in other number ≡ place_in channel sid
    → (other ≡ channel) × (number ≡ sid)
one-place channel sid other number sid_small number_small same =
    ⊎_elim
    (λ (below : other < channel). absurd (omega arith))
    (λ (from : channel ≤ other).
    ⊎_elim
    (λ (above : channel < other). absurd (omega arith))
    (λ (to : other ≤ channel). let one : other ≡ channel = omega arith in (one, omega arith))
    (cases_lt channel other))
    (cases_lt other channel)

module _ (places : List Bool) (channel sid : ℕ) (sid_small : sid < sid_limit) (within : place_in channel sid < length places) where
  abbrev pub after : List Bool
  after = slice_set places (place_in channel sid) true

  pub put-in : (other number : ℕ) → number < sid_limit
      → IsSet after (place_in other number) ↔ (IsSet places (place_in other number) ⊎ ((other ≡ channel) × (number ≡ sid)))
  put-in other number number_small =
      ⊎_elim
      (λ (same : place_in other number ≡ place_in channel sid). (
        λ _. inr (one-place channel sid other number sid_small number_small same),
        λ _. subst (λ place. IsSet after place) (sym same) (get_or-set_same places (place_in channel sid) true false within),
      ))
      (λ (apart : place_in other number ≢ place_in channel sid).
      let is = get_or-set_other places (place_in channel sid) (place_in other number) true false apart in (
        λ set. inl (subst IsTrue is set),
        ⊎_elim
            (λ was. subst IsTrue (sym is) was)
            (λ one. absurd (apart (ap (λ n. place_in n number) one.0 ∙ ap (place_in channel) one.1))),
      ))
      (cases_eq (place_in other number) (place_in channel sid))

-- nothing is set in a table of unset places
pub unset : (n place : ℕ) → slice_index_or (replicate n false) place false ≡ false
unset zero place = refl
unset (suc n) zero = refl
unset (suc n) (suc place) = unset n place
