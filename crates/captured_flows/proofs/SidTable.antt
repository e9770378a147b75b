-- One row more in a table of flows.
use Rattle.std.proofs.Common.{◌≡◌, ℕ, ◌<◌, ◌≤◌, ◌⊎◌, ◌==◌, inl, inr, true, false, Option, Some, None, List, [], ◌∷◌, ◌++◌, length, get_or, set, ◌≢◌, refl, ap, sym, subst, ◌∙◌, ⊎_elim, arith}
use Rattle.std.specs.Prelude.{find, option_map, is_some}
use Rattle.std.specs.Option.{option_or}
use Rattle.std.proofs.lemmas.Bool.{cases_eq, cond-true, cond-false, and_left, and_right, and_from, ne_eqb, eq-eqb}
use Rattle.std.proofs.lemmas.List.Folds.{find-append}
use Rattle.std.proofs.lemmas.List.{get_or-set_same, get_or-set_other, length-set}
use Rattle.capture_map.specs.declared.map.MapSid.{MapSid}
use Rattle.captured_flows.specs.Sids.{is_row, row_flow, place_of, IsTableOf}

-- a row that isn't asked for, behind others
not-asked : (rows : List MapSid) (row : MapSid) (channel sid : ℕ) → is_row channel sid row ≡ false → row_flow (rows ++ row ∷ []) channel sid ≡ row_flow rows channel sid
not-asked rows row channel sid isnt =
    ap (option_map (λ (r : MapSid). r.flow)) (find-append (is_row channel sid) rows (row ∷ []))
    ∙ ap (λ (o : Option MapSid). option_map (λ (r : MapSid). r.flow) (option_or (find (is_row channel sid) rows) o)) (cond-false (is_row channel sid row) (Some row) None isnt)
    ∙ ap (option_map (λ (r : MapSid). r.flow)) (or-none (find (is_row channel sid) rows))
  where
    or-none : (o : Option MapSid) → option_or o None ≡ o
    or-none (Some x) = refl
    or-none None = refl

-- one that is asked for, behind others of which one is
asked-before : (rows : List MapSid) (row : MapSid) (channel sid flow : ℕ) → row_flow rows channel sid ≡ Some flow → row_flow (rows ++ row ∷ []) channel sid ≡ Some flow
asked-before rows row channel sid flow there =
    ap (option_map (λ (r : MapSid). r.flow)) (find-append (is_row channel sid) rows (row ∷ [])) ∙ first (find (is_row channel sid) rows) there
  where
    first : (o : Option MapSid) → option_map (λ (r : MapSid). r.flow) o ≡ Some flow → option_map (λ (r : MapSid). r.flow) (option_or o (find (is_row channel sid) (row ∷ []))) ≡ Some flow
    first (Some x) is = is
    first None is = absurd (cc)

-- and behind others of which none is
asked-first : (rows : List MapSid) (row : MapSid) (channel sid : ℕ) → row_flow rows channel sid ≡ None → is_row channel sid row ≡ true → row_flow (rows ++ row ∷ []) channel sid ≡ Some row.flow
asked-first rows row channel sid none is_so =
    ap (option_map (λ (r : MapSid). r.flow)) (find-append (is_row channel sid) rows (row ∷ [])) ∙ last (find (is_row channel sid) rows) none
  where
    last : (o : Option MapSid) → option_map (λ (r : MapSid). r.flow) o ≡ None → option_map (λ (r : MapSid). r.flow) (option_or o (find (is_row channel sid) (row ∷ []))) ≡ Some row.flow
    last (Some x) is = absurd (cc)
    last None is = ap (option_map (λ (r : MapSid). r.flow)) (cond-true (is_row channel sid row) (Some row) None is_so)

-- a row of another channel or service identifier isn't asked for
of_another : (row : MapSid) (channel sid : ℕ) → (row.channel ≡ channel → row.sid ≡ sid → ⊥) → is_row channel sid row ≡ false
of_another row channel sid apart =
    ⊎_elim
    (λ (same : row.channel ≡ channel). and_right (row.channel == channel) (row.sid == sid) (ne_eqb row.sid sid (λ equal. apart same equal)))
    (λ (other : row.channel ≡ channel → ⊥). and_left (row.channel == channel) (row.sid == sid) (ne_eqb row.channel channel other))
    (cases_eq row.channel channel)

-- a place tells its channel and service identifier
one-place : (c d s t : ℕ) → s < 16384 → t < 16384 → place_of c s ≡ place_of d t → (c ≡ d) × (s ≡ t)
one-place c d s t below under same = (omega (arith, below, under, same), omega (arith, below, under, same))

module _ (rows : List MapSid) (table : List (Option ℕ)) (is_table : IsTableOf rows table) (row : MapSid) where
  -- a row that is out of range, or whose place is taken, changes nothing
  pub table-out_of_range : (16 ≤ row.channel) ⊎ (16384 ≤ row.sid) → IsTableOf (rows ++ row ∷ []) table
  table-out_of_range out = record {
    many = is_table.many;
    each = λ channel sid c s. is_table.each channel sid c s ∙ sym (not-asked rows row channel sid (of_another row channel sid (λ same equal.
        elim out [ inl over ↦ omega (arith, over, same, c) | inr over ↦ omega (arith, over, equal, s) ])));
  }

  -- whether a row of this channel and service identifier is asked for
  asked-or_not : (channel sid : ℕ) → ((row.channel ≡ channel) × (row.sid ≡ sid)) ⊎ (row.channel ≡ channel → row.sid ≡ sid → ⊥)
  asked-or_not channel sid =
      ⊎_elim
      (λ (same : row.channel ≡ channel). ⊎_elim
      (λ (equal : row.sid ≡ sid). inl (same, equal))
      (λ (other : row.sid ≡ sid → ⊥). inr (λ _ equal. other equal))
      (cases_eq row.sid sid))
      (λ (other : row.channel ≡ channel → ⊥). inr (λ same _. other same))
      (cases_eq row.channel channel)

  pub table-taken : (flow : ℕ) → row.channel < 16 → row.sid < 16384 → get_or table (place_of row.channel row.sid) None ≡ Some flow → IsTableOf (rows ++ row ∷ []) table
  table-taken flow in_range below there = record {
    many = is_table.many;
    each = λ channel sid c s. elim (asked-or_not channel sid) [
      | inl same ↦
          let before : row_flow rows row.channel row.sid ≡ Some flow = sym (is_table.each row.channel row.sid in_range below) ∙ there in
          let own : get_or table (place_of row.channel row.sid) None ≡ row_flow (rows ++ row ∷ []) row.channel row.sid =
          there ∙ sym (asked-before rows row row.channel row.sid flow before) in
          subst (λ n. get_or table (place_of channel n) None ≡ row_flow (rows ++ row ∷ []) channel n) same.1
          (subst (λ n. get_or table (place_of n row.sid) None ≡ row_flow (rows ++ row ∷ []) n row.sid) same.0 own)
      | inr apart ↦ is_table.each channel sid c s ∙ sym (not-asked rows row channel sid (of_another row channel sid apart))
    ];
  }

  pub table-put : row.channel < 16 → row.sid < 16384 → get_or table (place_of row.channel row.sid) None ≡ None
      → IsTableOf (rows ++ row ∷ []) (set table (place_of row.channel row.sid) (Some row.flow))
  table-put in_range below none = record {
    many = length-set table (place_of row.channel row.sid) (Some row.flow) ∙ is_table.many;
    each = λ channel sid c s. elim (asked-or_not channel sid) [
      | inl same ↦
          let before : row_flow rows row.channel row.sid ≡ None = sym (is_table.each row.channel row.sid in_range below) ∙ none in
          let many = is_table.many in
          let within : place_of row.channel row.sid < length table = omega (arith, in_range, below, many) in
          let own : get_or (set table (place_of row.channel row.sid) (Some row.flow)) (place_of row.channel row.sid) None ≡ row_flow (rows ++ row ∷ []) row.channel row.sid =
          get_or-set_same table (place_of row.channel row.sid) (Some row.flow) None within
          ∙ sym (asked-first rows row row.channel row.sid before (and_from (row.channel == row.channel) (row.sid == row.sid) (eq-eqb row.channel row.channel refl) (eq-eqb row.sid row.sid refl))) in
          let put = set table (place_of row.channel row.sid) (Some row.flow) in
          subst (λ n. get_or put (place_of channel n) None ≡ row_flow (rows ++ row ∷ []) channel n) same.1
          (subst (λ n. get_or put (place_of n row.sid) None ≡ row_flow (rows ++ row ∷ []) n row.sid) same.0 own)
      | inr apart ↦
          let elsewhere : place_of channel sid ≢ place_of row.channel row.sid =
          λ same. let both = one-place row.channel channel row.sid sid below s (sym same) in apart both.0 both.1 in
          get_or-set_other table (place_of row.channel row.sid) (place_of channel sid) (Some row.flow) None elsewhere
          ∙ is_table.each channel sid c s ∙ sym (not-asked rows row channel sid (of_another row channel sid apart))
    ];
  }

-- a table before the first row
pub table-none : (table : List (Option ℕ)) → length table ≡ 262144 → ((k : ℕ) → get_or table k None ≡ None) → IsTableOf [] table
table-none table many none = record { many = many; each = λ channel sid c s. none (place_of channel sid) }

-- what is no flow, and what is one
pub is-none : (o : Option ℕ) → is_some o ≡ false → o ≡ None
is-none None is = refl
is-none (Some x) is = absurd (cc)

pub is-some : (o : Option ℕ) → is_some o ≡ true → (flow : ℕ) × (o ≡ Some flow)
is-some None is = absurd (cc)
is-some (Some x) is = (x, refl)
