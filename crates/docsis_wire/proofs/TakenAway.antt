-- Words are taken away from the front of a message, and what is left of the message stays.
use Rattle.std.proofs.Common.{◌≡◌, ℕ, ◌+◌, ◌*◌, ◌^◌, ◌<◌, ◌≤◌, List, length, take, drop, get_or, bit_xor, refl, sym, ap, subst, ◌∙◌, arith, length-drop}
use Rattle.std.proofs.lemmas.List.{drop-drop}
use Rattle.std.specs.Int.Bits.{xor_assoc, xor_zero_l, xor_zero_r}
use Rattle.docsis_wire.specs.Division.{message, remainder_after}
use Rattle.docsis_wire.specs.Checks.{frame_generator}
use Rattle.docsis_wire.specs.Inside.Pending.{whole_remainder}
use Rattle.docsis_wire.proofs.Dividing.{IsLeftOf, front_is_left, remainder_by-bytes, remainder_after-add, remainder_after-xor, xor_swap}
use Rattle.docsis_wire.proofs.Digits.{remainder_after-sum}

-- What is added to the front of a message may be exchanged for what leaves the same.
same_left : (a b n other : ℕ) → remainder_after frame_generator n a ≡ remainder_after frame_generator n b
    → remainder_after frame_generator n (bit_xor a other) ≡ remainder_after frame_generator n (bit_xor b other)
same_left a b n other same =
    remainder_after-sum n frame_generator a other ∙ ap (λ m. bit_xor m (remainder_after frame_generator n other)) same
    ∙ sym (remainder_after-sum n frame_generator b other)

-- Two words are taken away.
pub pair_taken_away : (first q next words : ℕ) (bytes rest : List ℕ) → IsLeftOf frame_generator first bytes q rest → 64 ≤ length rest
    → words ≡ message (take 16 rest)
    → ((n : ℕ) → 269 ≤ n → remainder_after frame_generator n next ≡ remainder_after frame_generator (128 + n) (bit_xor q words))
    → IsLeftOf frame_generator first bytes next (drop 16 rest)
pair_taken_away first q next words bytes rest left enough words_are taken =
    let size = length-drop 16 rest in
    let steps = 8 * length (drop 16 rest) in
    let many : 269 ≤ steps = omega arith in
    let divided = remainder_after frame_generator 128 (bit_xor q (message (take 16 rest))) in
    let old : IsLeftOf frame_generator first bytes divided (drop 16 rest) =
    front_is_left frame_generator first q 16 bytes rest (take 16 rest) (drop 16 rest) left (omega arith) refl refl in
    let same : remainder_after frame_generator steps next ≡ remainder_after frame_generator steps divided =
    taken steps many ∙ ap (λ m. remainder_after frame_generator (128 + steps) (bit_xor q m)) words_are
    ∙ remainder_after-add 128 steps frame_generator (bit_xor q (message (take 16 rest))) in
    record {
      small = old.small;
      same = sym (remainder_by-bytes frame_generator next (drop 16 rest) old.small)
          ∙ same_left next divided steps (message (drop 16 rest)) same
          ∙ remainder_by-bytes frame_generator divided (drop 16 rest) old.small ∙ old.same;
    }

-- Two words are divided, where this is added to them and to those behind them.
pub pair_divided : (first remainder pair behind next words q : ℕ) (bytes rest : List ℕ) → IsLeftOf frame_generator first bytes q rest → 16 ≤ length rest
    → q ≡ bit_xor remainder (bit_xor pair (behind * 2 ^ 128)) → words ≡ message (take 16 rest)
    → next ≡ remainder_after frame_generator 128 (bit_xor remainder (bit_xor pair words)) → IsLeftOf frame_generator first bytes (bit_xor next behind) (drop 16 rest)
pair_divided first remainder pair behind next words q bytes rest left enough q_is words_are next_is =
    let P : ℕ → Type 0 = λ m. IsLeftOf frame_generator first bytes m (drop 16 rest) in
    let sums : bit_xor q words ≡ bit_xor (bit_xor remainder (bit_xor pair words)) (behind * 2 ^ 128) =
    ap (λ m. bit_xor m words) (q_is ∙ sym (xor_assoc remainder pair (behind * 2 ^ 128)))
    ∙ xor_swap (bit_xor remainder pair) (behind * 2 ^ 128) words
    ∙ ap (λ m. bit_xor m (behind * 2 ^ 128)) (xor_assoc remainder pair words) in
    let divided : remainder_after frame_generator 128 (bit_xor q (message (take 16 rest))) ≡ bit_xor next behind =
    ap (λ m. remainder_after frame_generator 128 (bit_xor q m)) (sym words_are) ∙ ap (remainder_after frame_generator 128) sums
    ∙ remainder_after-xor 128 frame_generator (bit_xor remainder (bit_xor pair words)) behind ∙ ap (λ m. bit_xor m behind) (sym next_is) in
    subst P divided (front_is_left frame_generator first q 16 bytes rest (take 16 rest) (drop 16 rest) left enough refl refl)

-- two words, one behind the other
pub by_pair : (remainder low high : ℕ)
    → remainder_after frame_generator 64 (bit_xor (remainder_after frame_generator 64 (bit_xor remainder low)) high)
    ≡ remainder_after frame_generator 128 (bit_xor remainder (bit_xor low (high * 2 ^ 64)))
by_pair remainder low high =
    ap (remainder_after frame_generator 64) (sym (remainder_after-xor 64 frame_generator (bit_xor remainder low) high))
    ∙ sym (remainder_after-add 64 64 frame_generator (bit_xor (bit_xor remainder low) (high * 2 ^ 64)))
    ∙ ap (remainder_after frame_generator 128) (xor_assoc remainder low (high * 2 ^ 64))

-- What is left of all bytes, from byte to byte.
pub left_by-rest : (first remainder : ℕ) (bytes rest : List ℕ) → ((i : ℕ) → get_or bytes i 0 < 256) → IsLeftOf frame_generator first bytes remainder rest
    → whole_remainder remainder rest ≡ whole_remainder first bytes
left_by-rest first remainder bytes rest small left =
    remainder_by-bytes frame_generator remainder rest left.small ∙ left.same ∙ sym (remainder_by-bytes frame_generator first bytes small)

-- Three pairs are divided, and nothing more is to be added.
pub three_pairs_divided : (first second third r1 r2 r3 m1 m2 m3 added : ℕ) (bytes behind : List ℕ) → ((i : ℕ) → get_or bytes i 0 < 256) → 48 ≤ length bytes
    → added ≡ bit_xor first (bit_xor second (third * 2 ^ 128) * 2 ^ 128)
    → m1 ≡ message (take 16 bytes) → m2 ≡ message (take 16 (drop 16 bytes)) → m3 ≡ message (take 16 (drop 32 bytes))
    → r1 ≡ remainder_after frame_generator 128 (bit_xor 0 (bit_xor first m1))
    → r2 ≡ remainder_after frame_generator 128 (bit_xor r1 (bit_xor second m2))
    → r3 ≡ remainder_after frame_generator 128 (bit_xor r2 (bit_xor third m3))
    → behind ≡ drop 48 bytes → whole_remainder r3 behind ≡ whole_remainder added bytes
three_pairs_divided first second third r1 r2 r3 m1 m2 m3 added bytes behind small enough added_is m1_is m2_is m3_is r1_is r2_is r3_is behind_is =
    let later = bit_xor second (third * 2 ^ 128) in
    let Left : ℕ → List ℕ → Type 0 = IsLeftOf frame_generator added bytes in
    let size = length-drop 16 bytes in
    let size2 = length-drop 32 bytes in
    let twice : drop 16 (drop 16 bytes) ≡ drop 32 bytes = drop-drop 16 16 bytes in
    let thrice : drop 16 (drop 32 bytes) ≡ behind = drop-drop 16 32 bytes ∙ sym behind_is in
    let all : Left added bytes = record { small = small; same = refl } in
    let after1 : Left (bit_xor r1 later) (drop 16 bytes) =
    pair_divided added 0 first later r1 m1 added bytes bytes all (omega arith) (added_is ∙ sym (xor_zero_l (bit_xor first (later * 2 ^ 128)))) m1_is r1_is in
    let after2 : Left (bit_xor r2 third) (drop 16 (drop 16 bytes)) =
    pair_divided added r1 second third r2 m2 (bit_xor r1 later) bytes (drop 16 bytes) after1 (omega arith) refl m2_is r2_is in
    let last : bit_xor r2 third ≡ bit_xor r2 (bit_xor third 0) = ap (bit_xor r2) (sym (xor_zero_r third)) in
    let after3 : Left (bit_xor r3 0) (drop 16 (drop 32 bytes)) =
    pair_divided added r2 third 0 r3 m3 (bit_xor r2 third) bytes (drop 32 bytes) (subst (Left (bit_xor r2 third)) twice after2) (omega arith) last m3_is r3_is in
    let P : ℕ → Type 0 = λ m. Left m (drop 16 (drop 32 bytes)) in
    left_by-rest added r3 bytes behind small (subst (Left r3) thrice (subst P (xor_zero_r r3) after3))
