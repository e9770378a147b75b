-- A division in parts: what the first coefficients leave goes on, and the coefficients behind them
-- come down unchanged.
use Rattle.std.proofs.Common.{◌≡◌, ℕ, zero, suc, ◌+◌, ◌*◌, ◌/◌, ◌-◌, ◌%◌, ◌^◌, ◌<◌, ◌≤◌, Bool, true, false, ◌==◌, if◌then◌else◌, List, [], ◌∷◌, length, get_or, take, drop, fold, bit_xor, refl, sym, ap, ◌∙◌, arith, zero-add, add-one, drop-cons, lit<, length-drop}
use Rattle.std.proofs.Math.Nat.{pow-suc, mul_assoc, suc-add}
use Rattle.std.proofs.lemmas.Nat.{xor_comm, xor_shr, xor_mod}
use Rattle.std.specs.Int.Bits.{xor_assoc, xor_shifted, xor_zero_r}
use Rattle.std.proofs.lemmas.List.{take_all, take-append-drop, get_or-drop, length-take-le}
use Rattle.std.proofs.lemmas.List.Sums.{fold-append}
use Rattle.docsis_wire.specs.Division.{message, divide_once, remainder_after}
use Rattle.docsis_wire.specs.Checks.{sequence_by}

-- the leading coefficient of a sum whose second part has 0 there
leading-xor : (a b : ℕ) → bit_xor a (b * 2) % 2 ≡ a % 2
leading-xor a b =
    let none : b * 2 % 2 ≡ 0 = omega arith in
    xor_mod a (b * 2) 1 ∙ ap (bit_xor (a % 2)) none ∙ xor_zero_r (a % 2)

-- the other coefficients of such a sum
others-xor : (a b : ℕ) → bit_xor a (b * 2) / 2 ≡ bit_xor (a / 2) b
others-xor a b =
    let half : b * 2 / 2 ≡ b = omega arith in
    xor_shr a (b * 2) 1 ∙ ap (bit_xor (a / 2)) half

-- the order of two subtractions
pub xor_swap : (a b c : ℕ) → bit_xor (bit_xor a b) c ≡ bit_xor (bit_xor a c) b
xor_swap a b c = xor_assoc a b c ∙ ap (bit_xor a) (xor_comm b c) ∙ sym (xor_assoc a c b)

-- a step on such a sum, where the divisor is subtracted and where not
halved-xor : (subtracted : Bool) (divisor a b : ℕ)
    → (if subtracted then bit_xor (bit_xor a (b * 2)) divisor else bit_xor a (b * 2)) / 2 ≡ bit_xor ((if subtracted then bit_xor a divisor else a) / 2) b
halved-xor true divisor a b = ap (λ n. n / 2) (xor_swap a (b * 2) divisor) ∙ others-xor (bit_xor a divisor) b
halved-xor false divisor a b = others-xor a b

-- a step leaves the second part of such a sum alone
pub divide_once-xor : (divisor a b : ℕ) → divide_once divisor (bit_xor a (b * 2)) ≡ bit_xor (divide_once divisor a) b
divide_once-xor divisor a b =
    ap (λ leading. (if leading == 1 then bit_xor (bit_xor a (b * 2)) divisor else bit_xor a (b * 2)) / 2) (leading-xor a b)
    ∙ halved-xor (a % 2 == 1) divisor a b

-- So do many steps: the coefficients from the n-th on come down unchanged.
pub remainder_after-xor : (n divisor a b : ℕ) → remainder_after divisor n (bit_xor a (b * 2 ^ n)) ≡ bit_xor (remainder_after divisor n a) b
unfolding remainder_after
remainder_after-xor zero divisor a b =
    let whole : b * 2 ^ 0 ≡ b = omega arith in
    ap (bit_xor a) whole
remainder_after-xor (suc n) divisor a b =
    let twice : b * 2 ^ suc n ≡ b * 2 ^ n * 2 = ap (λ m. b * m) (pow-suc 2 n) ∙ sym (mul_assoc b (2 ^ n) 2) in
    ap (λ m. remainder_after divisor n (divide_once divisor (bit_xor a m))) twice
    ∙ ap (remainder_after divisor n) (divide_once-xor divisor a (b * 2 ^ n))
    ∙ remainder_after-xor n divisor (divide_once divisor a) b

-- no step
remainder_after-none : (divisor n : ℕ) → remainder_after divisor 0 n ≡ n
unfolding remainder_after
remainder_after-none divisor n = refl

-- some steps, and then some more
pub remainder_after-add : (j k divisor n : ℕ) → remainder_after divisor (j + k) n ≡ remainder_after divisor k (remainder_after divisor j n)
unfolding remainder_after
remainder_after-add zero k divisor n = ap (λ m. remainder_after divisor m n) (zero-add k)
remainder_after-add (suc j) k divisor n =
    ap (λ m. remainder_after divisor m n) (suc-add j k) ∙ remainder_after-add j k divisor (divide_once divisor n)

-- a byte and the message behind it, as a sum
message-xor : (byte rest : ℕ) → byte < 256 → byte + 256 * rest ≡ bit_xor byte (rest * 2 ^ 8)
message-xor byte rest small =
    let turned : byte + 256 * rest ≡ rest * 256 + byte = omega arith in
    turned ∙ sym (xor_shifted rest 8 byte small) ∙ xor_comm (rest * 2 ^ 8) byte

-- what is left after one byte more
abbrev pub after_byte : ℕ → ℕ → ℕ → ℕ
after_byte divisor remainder byte = remainder_after divisor 8 (bit_xor remainder byte)

-- a message is divided byte by byte
pub remainder_by-bytes : (divisor remainder : ℕ) (bytes : List ℕ) → ((i : ℕ) → get_or bytes i 0 < 256)
    → remainder_after divisor (8 * length bytes) (bit_xor remainder (message bytes)) ≡ fold (after_byte divisor) remainder bytes
remainder_by-bytes divisor remainder [] small = remainder_after-none divisor (bit_xor remainder 0) ∙ xor_zero_r remainder
remainder_by-bytes divisor remainder (byte ∷ bytes) small =
    let rest = message bytes in
    let steps : 8 * length (byte ∷ bytes) ≡ 8 + 8 * length bytes = omega arith in
    let apart : bit_xor remainder (byte + 256 * rest) ≡ bit_xor (bit_xor remainder byte) (rest * 2 ^ 8) =
    ap (bit_xor remainder) (message-xor byte rest (small 0)) ∙ sym (xor_assoc remainder byte (rest * 2 ^ 8)) in
    ap (λ n. remainder_after divisor n (bit_xor remainder (byte + 256 * rest))) steps
    ∙ ap (remainder_after divisor (8 + 8 * length bytes)) apart
    ∙ remainder_after-add 8 (8 * length bytes) divisor (bit_xor (bit_xor remainder byte) (rest * 2 ^ 8))
    ∙ ap (remainder_after divisor (8 * length bytes)) (remainder_after-xor 8 divisor (bit_xor remainder byte) rest)
    ∙ remainder_by-bytes divisor (after_byte divisor remainder byte) bytes (λ i. small (suc i))

-- After some bytes this is left, and these bytes are still to be divided.
pub record IsLeftOf (divisor first : ℕ) (bytes : List ℕ) (remainder : ℕ) (rest : List ℕ) : Type 0 where
  pub small : (i : ℕ) → get_or rest i 0 < 256
  pub same : fold (after_byte divisor) remainder rest ≡ fold (after_byte divisor) first bytes

-- bytes at the front of bytes
small_front : (n : ℕ) (xs : List ℕ) → ((i : ℕ) → get_or xs i 0 < 256) → (i : ℕ) → get_or (take n xs) i 0 < 256
small_front zero xs small i = lit< tt
small_front (suc n) [] small i = lit< tt
small_front (suc n) (x ∷ xs) small zero = small 0
small_front (suc n) (x ∷ xs) small (suc i) = small_front n xs (λ j. small (suc j)) i

-- an item and those behind it
drop-cons-at : (xs : List ℕ) (k : ℕ) → k < length xs → drop k xs ≡ get_or xs k 0 ∷ drop (k + 1) xs
drop-cons-at xs k within = drop-cons xs k 0 within ∙ ap (λ n. get_or xs k 0 ∷ drop n xs) (sym (add-one k))

-- some bytes at the front are divided at once
divided_front : (divisor remainder n : ℕ) (rest : List ℕ) → ((i : ℕ) → get_or rest i 0 < 256) → n ≤ length rest
    → fold (after_byte divisor) (remainder_after divisor (8 * n) (bit_xor remainder (message (take n rest)))) (drop n rest) ≡ fold (after_byte divisor) remainder rest
divided_front divisor remainder n rest small enough =
    let front = take n rest in
    let size : n ≡ length front = sym (length-take-le n rest enough) in
    ap (λ m. fold (after_byte divisor) (remainder_after divisor (8 * m) (bit_xor remainder (message front))) (drop n rest)) size
    ∙ ap (λ m. fold (after_byte divisor) m (drop n rest)) (remainder_by-bytes divisor remainder front (small_front n rest small))
    ∙ sym (fold-append (after_byte divisor) remainder front (drop n rest))
    ∙ ap (fold (after_byte divisor) remainder) (take-append-drop n rest)

-- Some bytes at the front are divided at once, and those behind them are left.
pub front_is_left : (divisor first remainder n : ℕ) (bytes rest front behind : List ℕ) → IsLeftOf divisor first bytes remainder rest → n ≤ length rest
    → front ≡ take n rest → behind ≡ drop n rest → IsLeftOf divisor first bytes (remainder_after divisor (8 * n) (bit_xor remainder (message front))) behind
front_is_left divisor first remainder n bytes rest front behind left enough front_is behind_is =
    let P : List ℕ → List ℕ → Type 0 = λ f b. IsLeftOf divisor first bytes (remainder_after divisor (8 * n) (bit_xor remainder (message f))) b in
    let whole : P (take n rest) (drop n rest) = record {
      small = λ i. rw get_or-drop (left.small (n + i));
      same = divided_front divisor remainder n rest left.small enough ∙ left.same;
    } in
    rw (front_is, behind_is) whole

-- So are sixteen, eight and then eight.
pub sixteen_are_left : (divisor first remainder next : ℕ) (bytes rest low high behind : List ℕ) → IsLeftOf divisor first bytes remainder rest → 16 ≤ length rest
    → low ≡ take 8 rest → high ≡ take 8 (drop 8 rest) → behind ≡ drop 8 (drop 8 rest)
    → next ≡ remainder_after divisor 64 (bit_xor (remainder_after divisor 64 (bit_xor remainder (message low))) (message high)) → IsLeftOf divisor first bytes next behind
sixteen_are_left divisor first remainder next bytes rest low high behind left enough low_is high_is behind_is next_is =
    let size = length-drop 8 rest in
    let more : 8 ≤ length (drop 8 rest) = omega arith in
    let between = front_is_left divisor first remainder 8 bytes rest low (drop 8 rest) left (omega arith) low_is refl in
    rw next_is (front_is_left divisor first (remainder_after divisor 64 (bit_xor remainder (message low))) 8 bytes (drop 8 rest) high behind between more high_is behind_is)

-- One byte is divided, and those behind it are left.
pub byte_is_left : (divisor first remainder k next : ℕ) (bytes rest : List ℕ) → IsLeftOf divisor first bytes remainder (drop k rest) → k < length rest
    → next ≡ remainder_after divisor 8 (bit_xor remainder (get_or rest k 0)) → IsLeftOf divisor first bytes next (drop (k + 1) rest)
byte_is_left divisor first remainder k next bytes rest left within next_is =
    let front : drop k rest ≡ get_or rest k 0 ∷ drop (k + 1) rest = drop-cons-at rest k within in
    record {
      small = λ i. let h = left.small (suc i) in let e = ap (λ xs. get_or xs (suc i) 0) front in omega arith;
      same = ap (λ m. fold (after_byte divisor) m (drop (k + 1) rest)) next_is ∙ sym (ap (fold (after_byte divisor) remainder) front) ∙ left.same;
    }

-- so the check sequence is what is left of byte after byte, inverted
pub sequence_by-rest : (degree generator remainder : ℕ) (bytes : List ℕ) → ((i : ℕ) → get_or bytes i 0 < 256)
    → remainder ≡ fold (after_byte generator) (2 ^ degree - 1) bytes → bit_xor remainder (2 ^ degree - 1) ≡ sequence_by degree generator bytes
sequence_by-rest degree generator remainder bytes small left =
    let ones = 2 ^ degree - 1 in
    ap (λ m. bit_xor m ones) (left ∙ sym (remainder_by-bytes generator ones bytes small))

-- the same of the first bytes, where they are all
pub sequence_by-bytes : (degree generator remainder n : ℕ) (bytes : List ℕ) → ((i : ℕ) → get_or bytes i 0 < 256) → length bytes ≤ n
    → remainder ≡ fold (after_byte generator) (2 ^ degree - 1) (take n bytes) → bit_xor remainder (2 ^ degree - 1) ≡ sequence_by degree generator bytes
sequence_by-bytes degree generator remainder n bytes small all left =
    sequence_by-rest degree generator remainder bytes small (left ∙ ap (fold (after_byte generator) (2 ^ degree - 1)) (take_all n bytes all))
