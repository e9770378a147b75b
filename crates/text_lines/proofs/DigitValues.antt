-- The table has the value of each digit, and by it pairs of digits are read.
use Rattle.std.proofs.Common.{◌≡◌, ℕ, zero, suc, ◌+◌, ◌*◌, ◌%◌, ◌<◌, ◌≤◌, ◌==◌, ◌&&◌, ◌⊎◌, inl, inr, nat_lt, Bool, true, Option, Some, None, List, [], ◌∷◌, ◌++◌, length, drop, get_or, slice_index, Ok, Err, refl, sym, ap, subst, ◌∙◌, arith}
use Rattle.std.proofs.lemmas.Bool.{and_parts, eqb-true, cases_lt}
use Rattle.std.proofs.lemmas.Bool.Decides.{nat_tests}
use Rattle.hex.specs.declared.error.FromHexError.{FromHexError}
use Rattle.hex.specs.declared.error.FromHexError.TheVariants.{InvalidHexCharacter}
use Rattle.hex.specs.Hex.{hex_digit_value, digit_or_error, value_at, pair_value, decode_pairs}
use Rattle.hex.proofs.Pairs.{prepend, drop-pair, decode_pairs-ok_pair, decode_pairs-err_pair, prepend-cons_byte, cons_byte}
use Rattle.text_lines.specs.declared.digits.TheConstants.{DIGIT_VALUES}
use Rattle.text_lines.specs.Inside.Digits.{IsValueOr16, IsDigitEntry, SpellsNothing}

-- whether an entry is the value of a digit, or 16 where there is none
is_value : ℕ → Option ℕ → Bool
is_value entry (Some value) = entry == value && nat_lt value 16
is_value entry None = entry == 16

-- whether a table has the value of each byte, from this one on
are_values : ℕ → List ℕ → Bool
are_values byte [] = true
are_values byte (entry ∷ table) = is_value entry (hex_digit_value byte) && are_values (suc byte) table

value_at-place : (byte : ℕ) (table : List ℕ) → are_values byte table ≡ true → (i : ℕ) → i < length table
    → is_value (get_or table i 0) (hex_digit_value (byte + i)) ≡ true
unfolding are_values
value_at-place byte [] all i within = absurd (omega arith)
value_at-place byte (entry ∷ table) all zero within =
    let same : byte ≡ byte + 0 = omega arith in
    subst (λ b. is_value entry (hex_digit_value b) ≡ true) same (and_parts (is_value entry (hex_digit_value byte)) (are_values (suc byte) table) all).0
value_at-place byte (entry ∷ table) all (suc i) within =
    let same : suc byte + i ≡ byte + suc i = omega arith in
    subst (λ b. is_value (get_or table i 0) (hex_digit_value b) ≡ true) same
    (value_at-place (suc byte) table (and_parts (is_value entry (hex_digit_value byte)) (are_values (suc byte) table) all).1 i (omega arith))

-- the table has them, by computing
all_values : are_values 0 DIGIT_VALUES ≡ true
unfolding are_values is_value
all_values = refl

-- what such an entry says
entry-says : (value : Option ℕ) (entry : ℕ) → is_value entry value ≡ true → IsValueOr16 value entry
unfolding is_value
entry-says (Some value) entry is =
    let parts = and_parts (entry == value) (nat_lt value 16) is in
    (eqb-true entry value parts.0, (let test = parts.1 in grind (arith, nat_tests)))
entry-says None entry is = eqb-true entry 16 is

pub entry-of : (byte : ℕ) → byte < 256 → IsDigitEntry byte (get_or DIGIT_VALUES byte 0)
entry-of byte small =
    let size : 256 ≡ length DIGIT_VALUES = refl in
    let same : 0 + byte ≡ byte = omega arith in
    entry-says (hex_digit_value byte) (get_or DIGIT_VALUES byte 0)
    (subst (λ b. is_value (get_or DIGIT_VALUES byte 0) (hex_digit_value b) ≡ true) same (value_at-place 0 DIGIT_VALUES all_values byte (omega arith)))

-- an entry is 16 at most
pub most-by : (value : Option ℕ) (entry : ℕ) → IsValueOr16 value entry → entry ≤ 16
most-by (Some value) entry is = let same = is.0 in let small = is.1 in omega arith
most-by None entry is = omega (arith, is)

-- what it says of a byte, at whatever place that stands
digit-by : (value : Option ℕ) (c i entry : ℕ) → IsValueOr16 value entry → entry < 16 → digit_or_error c i value ≡ Ok entry
digit-by (Some value) c i entry is small = ap Ok (sym is.0)
digit-by None c i entry is small = absurd (omega (arith, is))

none-by : (value : Option ℕ) (c i entry : ℕ) → IsValueOr16 value entry → 16 ≤ entry
    → (e : FromHexError) × (digit_or_error c i value ≡ Err e)
none-by (Some value) c i entry is great = absurd (let same = is.0 in let small = is.1 in omega arith)
none-by None c i entry is great = (InvalidHexCharacter c i, refl)

pub pair-ok : (a b i x y : ℕ) → IsDigitEntry a x → IsDigitEntry b y → x < 16 → y < 16 → pair_value a b i ≡ Ok (x * 16 + y)
pair-ok a b i x y is_x is_y small_x small_y =
    let first : value_at a i ≡ Ok x = digit-by (hex_digit_value a) a i x is_x small_x in
    let second : value_at b (i + 1) ≡ Ok y = digit-by (hex_digit_value b) b (i + 1) y is_y small_y in
    rw (first, second) refl

pub pair-none : (a b i x y : ℕ) → IsDigitEntry a x → IsDigitEntry b y → (16 ≤ x) ⊎ (16 ≤ y) → (e : FromHexError) × (pair_value a b i ≡ Err e)
pair-none a b i x y is_x is_y great = elim (cases_lt x 16) [
  | inr from ↦
      let first = none-by (hex_digit_value a) a i x is_x from in
      let at : value_at a i ≡ Err first.0 = first.1 in
      (first.0, rw at refl)
  | inl small ↦
      let from : 16 ≤ y = elim great [ inl g ↦ absurd (omega arith) | inr g ↦ g ] in
      let first : value_at a i ≡ Ok x = digit-by (hex_digit_value a) a i x is_x small in
      let second = none-by (hex_digit_value b) b (i + 1) y is_y from in
      let at : value_at b (i + 1) ≡ Err second.0 = second.1 in
      (second.0, rw (first, at) refl)
]

-- one pair more
pub spelled-more : (s front : List ℕ) (i v : ℕ) → 2 * i + 1 < length s → pair_value (slice_index s (2 * i)) (slice_index s (2 * i + 1)) (2 * i) ≡ Ok v
    → decode_pairs 0 s ≡ prepend front (decode_pairs (2 * i) (drop (2 * i) s))
    → decode_pairs 0 s ≡ prepend (front ++ v ∷ []) (decode_pairs (2 * (i + 1)) (drop (2 * (i + 1)) s))
spelled-more s front i v fits ok so_far =
    let rest : List ℕ = drop (2 * (i + 1)) s in
    let two : 2 * i + 2 ≡ 2 * (i + 1) = omega arith in
    let pair = ap (decode_pairs (2 * i)) (drop-pair s i fits) ∙ decode_pairs-ok_pair (2 * i) _ _ v rest ok
    ∙ ap (λ (k : ℕ). cons_byte v (decode_pairs k rest)) two in
    so_far ∙ ap (prepend front) pair ∙ prepend-cons_byte front v _

-- a pair of which one is no digit
pub nothing-spelled : (s front : List ℕ) (i : ℕ) → 2 * i + 1 < length s
    → (e : FromHexError) × (pair_value (slice_index s (2 * i)) (slice_index s (2 * i + 1)) (2 * i) ≡ Err e)
    → decode_pairs 0 s ≡ prepend front (decode_pairs (2 * i) (drop (2 * i) s)) → SpellsNothing s
nothing-spelled s front i fits bad so_far =
    (bad.0, so_far ∙ ap (prepend front) (ap (decode_pairs (2 * i)) (drop-pair s i fits) ∙ decode_pairs-err_pair (2 * i) _ _ bad.0 _ bad.1))

-- A pair is read by its entries. The greatest entry so far was g, and is h with these.
module _ (s front more : List ℕ) (i x y g h : ℕ) (fits : 2 * i + 1 < length s)
    (high : IsDigitEntry (slice_index s (2 * i)) x) (low : IsDigitEntry (slice_index s (2 * i + 1)) y)
    (appended : more ≡ front ++ (x % 16 * 16 + y % 16) ∷ [])
    (so_far : g < 16 → decode_pairs 0 s ≡ prepend front (decode_pairs (2 * i) (drop (2 * i) s))) where
  -- all are digits
  pub digits-on : g ≤ h → x ≤ h → y ≤ h → h < 16 → decode_pairs 0 s ≡ prepend more (decode_pairs (2 * (i + 1)) (drop (2 * (i + 1)) s))
  digits-on from_g from_x from_y small =
      let byte : x % 16 * 16 + y % 16 ≡ x * 16 + y = omega arith in
      subst (λ (m : List ℕ). decode_pairs 0 s ≡ prepend m (decode_pairs (2 * (i + 1)) (drop (2 * (i + 1)) s))) (sym (appended ∙ ap (λ v. front ++ v ∷ []) byte))
      (spelled-more s front i (x * 16 + y) fits (pair-ok (slice_index s (2 * i)) (slice_index s (2 * i + 1)) (2 * i) x y high low (omega arith) (omega arith)) (so_far (omega arith)))

  -- one is none
  pub no_digit-on : (16 ≤ g → SpellsNothing s) → (h ≡ g) ⊎ ((h ≡ x) ⊎ (h ≡ y)) → 16 ≤ h → SpellsNothing s
  no_digit-on before is great = elim (cases_lt g 16) [
    | inr from ↦ before from
    | inl small ↦
        let one : (16 ≤ x) ⊎ (16 ≤ y) = elim is [
          | inl same ↦ absurd (omega arith)
          | inr (inl same) ↦ inl (omega arith)
          | inr (inr same) ↦ inr (omega arith)
        ] in
        nothing-spelled s front i fits (pair-none (slice_index s (2 * i)) (slice_index s (2 * i + 1)) (2 * i) x y high low one) (so_far small)
  ]
