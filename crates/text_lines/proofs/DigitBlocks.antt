-- Thirty-two digits at once: two vectors of every other digit spell what the digits spell, and
-- blocks one after the other what all do.
use Rattle.std.proofs.Common.{◌≡◌, ℕ, zero, suc, ◌+◌, ◌-◌, ◌*◌, ◌%◌, ◌^◌, ◌<◌, ◌≤◌, ◌⊎◌, inl, inr, ◌&&◌, Bool, true, false, ltb, Option, Some, None, unwrap_or, List, [], ◌∷◌, ◌++◌, map, length, take, drop, replicate, Ok, Err, Result, refl, sym, ap, subst, ◌∙◌, append_assoc, length-append, length-drop, length-take-le, arith}
use Rattle.std.proofs.lemmas.Bool.{and_parts, ltb-true, ltb-false}
use Rattle.std.proofs.lemmas.Bool.Decides.{nat_tests}
use Rattle.std.proofs.lemmas.List.{take-append-drop, drop-drop}
use Rattle.std.specs.Simd.Lanes.{zip2, pick_l, chunk}
use Rattle.hex.specs.declared.error.FromHexError.{FromHexError}
use Rattle.hex.specs.Hex.{hex_digit_value, digit_or_error, pair_value, decode_pairs, ◌>>=◌}
use Rattle.hex.proofs.Pairs.{decode_pairs-ok_pair, decode_pairs-err_pair, cons_byte}
use Rattle.text_lines.specs.Inside.Digits.{IsValueOr16, IsDigitEntry, SpellsPairs, SpellsNothing}
use Rattle.text_lines.specs.Inside.DigitBlocks.{paired, value_or_16, are_below_16, behind, SpellsFront}
use Rattle.text_lines.proofs.DigitLanes.{plus}
use Rattle.text_lines.proofs.DigitValues.{pair-ok, pair-none}

-- every other byte of thirty-two, and the others
pub split_is : (s : List ℕ) → length s ≡ 32
    → s ≡ paired (pick_l 0 (chunk 0 16 (take 16 s) ++ chunk 0 16 (take 16 (drop 16 s))) (0 ∷ 2 ∷ 4 ∷ 6 ∷ 8 ∷ 10 ∷ 12 ∷ 14 ∷ 16 ∷ 18 ∷ 20 ∷ 22 ∷ 24 ∷ 26 ∷ 28 ∷ 30 ∷ []))
    (pick_l 0 (chunk 0 16 (take 16 s) ++ chunk 0 16 (take 16 (drop 16 s))) (1 ∷ 3 ∷ 5 ∷ 7 ∷ 9 ∷ 11 ∷ 13 ∷ 15 ∷ 17 ∷ 19 ∷ 21 ∷ 23 ∷ 25 ∷ 27 ∷ 29 ∷ 31 ∷ []))
split_is (d0 ∷ d1 ∷ d2 ∷ d3 ∷ d4 ∷ d5 ∷ d6 ∷ d7 ∷ d8 ∷ d9 ∷ d10 ∷ d11 ∷ d12 ∷ d13 ∷ d14 ∷ d15 ∷ d16 ∷ d17 ∷ d18 ∷ d19 ∷ d20 ∷ d21 ∷ d22 ∷ d23 ∷ d24 ∷ d25 ∷ d26 ∷ d27 ∷ d28 ∷ d29 ∷ d30 ∷ d31 ∷ []) size = refl
split_is s size = absurd (omega arith)

-- the value of a byte, or 16, is what the table has
value_is_entry : (c : ℕ) → IsDigitEntry c (value_or_16 c)
value_is_entry c = go (hex_digit_value c) refl
  where
    go : (value : Option ℕ) → hex_digit_value c ≡ value → IsValueOr16 value (unwrap_or value 16)
    go (Some value) e = (refl, grind (arith, nat_tests, e))
    go None e = refl

-- a byte of its upper and lower four bits, as the code computes it
abbrev byte_of : ℕ → ℕ → ℕ
byte_of high low = plus ((high * 16) % 256) low

-- nothing of it passes 255
byte_is : (x y : ℕ) → x < 16 → y < 16 → x * 16 + y ≡ byte_of x y
byte_is x y small_x small_y = omega arith

-- all are digits
pub block_spelled : (n : ℕ) (firsts seconds : List ℕ) (i : ℕ) → length firsts ≡ n → length seconds ≡ n
    → are_below_16 (map value_or_16 firsts) ≡ true → are_below_16 (map value_or_16 seconds) ≡ true
    → decode_pairs i (paired firsts seconds) ≡ Ok (zip2 plus (zip2 (λ a b. (a * b) % 2 ^ 8) (map value_or_16 firsts) (replicate n 16)) (map value_or_16 seconds))
unfolding decode_pairs
block_spelled zero [] [] i p q small_firsts small_seconds = refl
block_spelled zero (a ∷ firsts) seconds i p q small_firsts small_seconds = absurd (omega arith)
block_spelled zero [] (b ∷ seconds) i p q small_firsts small_seconds = absurd (omega arith)
block_spelled (suc n) [] seconds i p q small_firsts small_seconds = absurd (omega arith)
block_spelled (suc n) (a ∷ firsts) [] i p q small_firsts small_seconds = absurd (omega arith)
block_spelled (suc n) (a ∷ firsts) (b ∷ seconds) i p q small_firsts small_seconds =
    let x = value_or_16 a in
    let y = value_or_16 b in
    let first = and_parts (ltb x 16) (are_below_16 (map value_or_16 firsts)) small_firsts in
    let second = and_parts (ltb y 16) (are_below_16 (map value_or_16 seconds)) small_seconds in
    let small_x : x < 16 = ltb-true x 16 first.0 in
    let small_y : y < 16 = ltb-true y 16 second.0 in
    let pair : pair_value a b i ≡ Ok (byte_of x y) = pair-ok a b i x y (value_is_entry a) (value_is_entry b) small_x small_y ∙ ap Ok (byte_is x y small_x small_y) in
    decode_pairs-ok_pair i a b (byte_of x y) (paired firsts seconds) pair
    ∙ ap (cons_byte (byte_of x y)) (block_spelled n firsts seconds (i + 2) (omega arith) (omega arith) first.1 second.1)

-- of one pair and others: one is none
pair_refused : (a b i : ℕ) (others : List ℕ) (all_firsts all_seconds : Bool)
    → (all_firsts && all_seconds ≡ false → (fault : FromHexError) × (decode_pairs (i + 2) others ≡ Err fault))
    → ((ltb (value_or_16 a) 16 && all_firsts) && (ltb (value_or_16 b) 16 && all_seconds)) ≡ false
    → (fault : FromHexError) × (decode_pairs i (a ∷ b ∷ others) ≡ Err fault)
pair_refused a b i others all_firsts all_seconds more none = go (ltb (value_or_16 a) 16) refl (ltb (value_or_16 b) 16) refl
  where
    refused : (16 ≤ value_or_16 a) ⊎ (16 ≤ value_or_16 b) → (fault : FromHexError) × (decode_pairs i (a ∷ b ∷ others) ≡ Err fault)
    refused great =
        let bad = pair-none a b i (value_or_16 a) (value_or_16 b) (value_is_entry a) (value_is_entry b) great in
        (bad.0, decode_pairs-err_pair i a b bad.0 others bad.1)

    go : (x : Bool) → ltb (value_or_16 a) 16 ≡ x → (y : Bool) → ltb (value_or_16 b) 16 ≡ y → (fault : FromHexError) × (decode_pairs i (a ∷ b ∷ others) ≡ Err fault)
    go false is y also = refused (inl (ltb-false (value_or_16 a) 16 is))
    go true is false also = refused (inr (ltb-false (value_or_16 b) 16 also))
    go true is true also =
        let pair : pair_value a b i ≡ Ok (value_or_16 a * 16 + value_or_16 b) =
        pair-ok a b i (value_or_16 a) (value_or_16 b) (value_is_entry a) (value_is_entry b) (ltb-true (value_or_16 a) 16 is) (ltb-true (value_or_16 b) 16 also) in
        let bad = more (rw (is, also) at none) in
        (bad.0, decode_pairs-ok_pair i a b (value_or_16 a * 16 + value_or_16 b) others pair ∙ ap (cons_byte (value_or_16 a * 16 + value_or_16 b)) bad.1)

-- one of all pairs is none
pub block_refused : (n : ℕ) (firsts seconds : List ℕ) (i : ℕ) → length firsts ≡ n → length seconds ≡ n
    → (are_below_16 (map value_or_16 firsts) && are_below_16 (map value_or_16 seconds)) ≡ false
    → (fault : FromHexError) × (decode_pairs i (paired firsts seconds) ≡ Err fault)
block_refused zero [] [] i p q none = absurd (cc none)
block_refused zero (a ∷ firsts) seconds i p q none = absurd (omega arith)
block_refused zero [] (b ∷ seconds) i p q none = absurd (omega arith)
block_refused (suc n) [] seconds i p q none = absurd (omega arith)
block_refused (suc n) (a ∷ firsts) [] i p q none = absurd (omega arith)
block_refused (suc n) (a ∷ firsts) (b ∷ seconds) i p q none =
    pair_refused a b i (paired firsts seconds) (are_below_16 (map value_or_16 firsts)) (are_below_16 (map value_or_16 seconds))
    (λ others. block_refused n firsts seconds (i + 2) (omega arith) (omega arith) others) none

-- what the vectors say of the block
module _ (digits firsts seconds high low : List ℕ) (split : digits ≡ paired firsts seconds) (high_is : high ≡ map value_or_16 firsts) (low_is : low ≡ map value_or_16 seconds)
    (some : length firsts ≡ 16) (also : length seconds ≡ 16) where
  -- all are digits
  pub block-ok : (are_below_16 high && are_below_16 low) ≡ true → SpellsPairs digits (zip2 plus (zip2 (λ a b. (a * b) % 2 ^ 8) high (replicate 16 16)) low)
  block-ok all =
      let both = and_parts (are_below_16 high) (are_below_16 low) all in
      let front : are_below_16 (map value_or_16 firsts) ≡ true = ap are_below_16 (sym high_is) ∙ both.0 in
      let back : are_below_16 (map value_or_16 seconds) ≡ true = ap are_below_16 (sym low_is) ∙ both.1 in
      let spelled = block_spelled 16 firsts seconds 0 some also front back in
      rw (split, high_is, low_is) spelled

  -- one is none
  pub block-none : (are_below_16 high && are_below_16 low) ≡ false → SpellsNothing digits
  block-none none =
      let same : (are_below_16 (map value_or_16 firsts) && are_below_16 (map value_or_16 seconds)) ≡ false =
      ap (λ l. are_below_16 l && are_below_16 (map value_or_16 seconds)) (sym high_is) ∙ ap (λ l. are_below_16 high && are_below_16 l) (sym low_is) ∙ none in
      let bad = block_refused 16 firsts seconds 0 some also same in
      (bad.0, ap (decode_pairs 0) split ∙ bad.1)

-- a pair is read as it is wherever it stands
pair_elsewhere : (a b i j v : ℕ) → pair_value a b i ≡ Ok v → pair_value a b j ≡ Ok v
pair_elsewhere a b i j v = go (hex_digit_value a) (hex_digit_value b)
  where
    go : (x y : Option ℕ) → (digit_or_error a i x >>= (λ h. digit_or_error b (i + 1) y >>= (λ l. Ok (h * 16 + l)))) ≡ Ok v
        → (digit_or_error a j x >>= (λ h. digit_or_error b (j + 1) y >>= (λ l. Ok (h * 16 + l)))) ≡ Ok v
    go (Some x) (Some y) ok = ok
    go (Some x) None ok = cc ok
    go None y ok = cc ok

-- one byte more stands before others
behind-cons : (byte : ℕ) (bytes : List ℕ) (others : Result (List ℕ) FromHexError) → cons_byte byte (behind bytes others) ≡ behind (byte ∷ bytes) others
behind-cons byte bytes (Ok others) = refl
behind-cons byte bytes (Err fault) = refl

-- nothing stands before others
pub behind-none : (others : Result (List ℕ) FromHexError) → others ≡ behind [] others
behind-none (Ok others) = refl
behind-none (Err fault) = refl

-- what stands before other digits
module _ (rest : List ℕ) where
  -- Some digits spell these bytes, and behind them stand what the others do.
  abbrev IsFront : List ℕ → List ℕ → ℕ → Type 0
  IsFront front bytes j = (decode_pairs j (front ++ rest) ≡ behind bytes (decode_pairs (j + 2 * length bytes) rest)) × (length front ≡ 2 * length bytes)

  -- one pair, and others that are such a front
  pair_in_front : (a b : ℕ) (front bytes : List ℕ) (i j : ℕ) → ((others : List ℕ) → decode_pairs (i + 2) front ≡ Ok others → IsFront front others (j + 2))
      → decode_pairs i (a ∷ b ∷ front) ≡ Ok bytes → IsFront (a ∷ b ∷ front) bytes j
  pair_in_front a b front bytes i j more ok = go (pair_value a b i) refl (decode_pairs (i + 2) front) refl
    where
      go : (pair : Result ℕ FromHexError) → pair_value a b i ≡ pair → (others : Result (List ℕ) FromHexError) → decode_pairs (i + 2) front ≡ others → IsFront (a ∷ b ∷ front) bytes j
      go (Ok v) is (Ok others) also =
          let same : Ok (v ∷ others) ≡ Ok bytes = sym (decode_pairs-ok_pair i a b v front is ∙ ap (cons_byte v) also) ∙ ok in
          let bytes_are : v ∷ others ≡ bytes = cc same in
          let rest_is = more others also in
          let place : j + 2 + 2 * length others ≡ j + 2 * length (v ∷ others) = omega arith in
          let here = decode_pairs-ok_pair j a b v (front ++ rest) (pair_elsewhere a b i j v is) ∙ ap (cons_byte v) rest_is.0
          ∙ behind-cons v others (decode_pairs (j + 2 + 2 * length others) rest) ∙ ap (λ (k : ℕ). behind (v ∷ others) (decode_pairs k rest)) place in
          let size : length (a ∷ b ∷ front) ≡ 2 * length (v ∷ others) = (let below = rest_is.1 in omega arith) in
          subst (λ (all : List ℕ). IsFront (a ∷ b ∷ front) all j) bytes_are (here, size)
      go (Ok v) is (Err fault) also =
          let same : Err fault ≡ Ok bytes = sym (decode_pairs-ok_pair i a b v front is ∙ ap (cons_byte v) also) ∙ ok in cc same
      go (Err fault) is others also =
          let same : Err fault ≡ Ok bytes = sym (decode_pairs-err_pair i a b fault front is) ∙ ok in cc same

  -- whatever digits spell bytes are such a front, at any place
  pub front-ok : (front bytes : List ℕ) (i j : ℕ) → decode_pairs i front ≡ Ok bytes → IsFront front bytes j
  unfolding decode_pairs
  front-ok [] bytes i j ok =
      let none : [] ≡ bytes = cc ok in
      let place : j ≡ j + 2 * length {A = ℕ} [] = omega arith in
      subst (λ (all : List ℕ). IsFront [] all j) none (behind-none (decode_pairs j rest) ∙ ap (λ (k : ℕ). behind [] (decode_pairs k rest)) place, refl)
  front-ok (a ∷ []) bytes i j ok = cc ok
  front-ok (a ∷ b ∷ front) bytes i j ok = pair_in_front a b front bytes i j (λ others spelled. front-ok front others (i + 2) (j + 2) spelled) ok

-- two lists of bytes stand before others
behind-behind : (front more : List ℕ) (others : Result (List ℕ) FromHexError) → behind front (behind more others) ≡ behind (front ++ more) others
behind-behind front more (Ok others) = ap Ok (sym (append_assoc front more others))
behind-behind front more (Err fault) = refl

-- One block more, where the digits before it spell these bytes.
module _ (digits bytes rest block others : List ℕ) (rest_is : rest ≡ drop (2 * length bytes) digits) (block_is : block ≡ take 32 rest) (others_are : others ≡ drop 32 rest)
    (long : length others + 32 ≡ length rest) (so_far : SpellsFront digits bytes) where
  -- a block has thirty-two digits
  size : length block ≡ 32
  size = ap length block_is ∙ length-take-le 32 rest (omega arith)

  -- it and the others are what wasn't read yet
  whole : block ++ others ≡ drop (2 * length bytes) digits
  whole = ap (λ (t : List ℕ). t ++ others) block_is ∙ ap (λ (t : List ℕ). take 32 rest ++ t) others_are ∙ take-append-drop 32 rest ∙ rest_is

  -- so far digits were read
  here : decode_pairs 0 digits ≡ behind bytes (decode_pairs (2 * length bytes) (block ++ others))
  here = so_far ∙ ap (λ (t : List ℕ). behind bytes (decode_pairs (2 * length bytes) t)) (sym whole)

  -- the others are what isn't read then
  pub block_more-rest : (spelled : List ℕ) → SpellsPairs block spelled → others ≡ drop (2 * length (bytes ++ spelled)) digits
  block_more-rest spelled ok =
      let count = (front-ok others block spelled 0 0 ok).1 in
      let place : 2 * length bytes + 32 ≡ 2 * length (bytes ++ spelled) = omega (arith, length-append bytes spelled, size) in
      others_are ∙ ap (drop 32) rest_is ∙ drop-drop 32 (2 * length bytes) digits ∙ ap (λ (k : ℕ). drop k digits) place

  -- the block was read too
  pub block_more : (spelled : List ℕ) → SpellsPairs block spelled → SpellsFront digits (bytes ++ spelled)
  block_more spelled ok =
      let front = front-ok others block spelled 0 (2 * length bytes) ok in
      let place : 2 * length bytes + 2 * length spelled ≡ 2 * length (bytes ++ spelled) = omega (arith, length-append bytes spelled) in
      here ∙ ap (behind bytes) front.0 ∙ behind-behind bytes spelled _ ∙ ap (λ (k : ℕ). behind (bytes ++ spelled) (decode_pairs k others)) place
      ∙ ap (λ (t : List ℕ). behind (bytes ++ spelled) (decode_pairs (2 * length (bytes ++ spelled)) t)) (block_more-rest spelled ok)

  -- no more bytes than digits for them
  pub block_more-within : (spelled : List ℕ) → SpellsPairs block spelled → 2 * length bytes ≤ length digits → 2 * length (bytes ++ spelled) ≤ length digits
  block_more-within spelled ok within =
      let count = (front-ok others block spelled 0 0 ok).1 in
      let left : length rest ≡ length digits - 2 * length bytes = ap length rest_is ∙ length-drop (2 * length bytes) digits in
      omega (arith, length-append bytes spelled, size)
