-- The fields of a 16-bit word, by masks and shifts, against their sums.
use Rattle.std.proofs.Common.{◌≡◌, ℕ, suc, zero, ◌+◌, ◌*◌, ◌/◌, ◌%◌, ◌<◌, nat_eq, Bool, true, false, All, List, [], ◌∷◌, ◌++◌, length, take, get_or, Option, Some, None, IsSome, IfSome, refl, ap, ◌∙◌, subst, arith, bit_and, bit_or, ◌≤◌, ◌↔◌}
use Rattle.std.specs.Int.{w16, from_be_bytes, to_be_bytes, byte_at}
use Rattle.std.proofs.lemmas.Bool.{eq-eqb, ne_eqb, false≢true}
use Rattle.std.proofs.lemmas.List.{take_all}
use Rattle.std.proofs.lemmas.Nat.{and_mask, or_shifted}
use Rattle.std.proofs.lemmas.Nat.Bits.{and_pow}
use Rattle.std.proofs.Props.{props}
use mathlib.Core.Bool.{not}
use Rattle.docsis_wire.specs.declared.header.SegmentHeader.{SegmentHeader}
use Rattle.docsis_wire.specs.Words.{bit, two_bytes}
use Rattle.docsis_wire.specs.Header.{header_bytes}

-- whether a bit in its place is not 0, as a number
bit-not_zero : (m b p : ℕ) → m ≡ b * suc p → b < 2 → bit (not (nat_eq m 0)) ≡ b
bit-not_zero m zero p e small = ap (λ t. bit (not t)) (eq-eqb m 0 (omega arith))
bit-not_zero m (suc zero) p e small = ap (λ t. bit (not t)) (ne_eqb m 0 (λ z. omega arith))
bit-not_zero m (suc (suc b)) p e small = absurd (omega arith)

-- the first word of a segment header: one bit, one bit and fourteen
first_word : (w : ℕ) → w < 65536 → bit (not (nat_eq (bit_and w 32768) 0)) * 32768 + bit (not (nat_eq (bit_and w 16384) 0)) * 16384 + bit_and w 16383 ≡ w
first_word w h =
    let pfi = bit-not_zero (bit_and w 32768) (w / 32768 % 2) 32767 (and_pow w 15) (omega arith) in
    let reserved = bit-not_zero (bit_and w 16384) (w / 16384 % 2) 16383 (and_pow w 14) (omega arith) in
    omega (arith, pfi, reserved, and_mask w 14)

-- the second word of a segment header: thirteen bits and three
second_word : (w : ℕ) → w / 8 * 8 + bit_and w 7 ≡ w
second_word w = omega (arith, and_mask w 3)

-- a word that was read from two bytes is written as them
two_bytes-read : (w high low : ℕ) → high < 256 → low < 256 → w ≡ from_be_bytes w16 (high ∷ low ∷ []) → two_bytes w ≡ high ∷ low ∷ []
two_bytes-read w high low h l e =
    let front : w / 256 ≡ high = omega (arith, e) in
    let back : w % 256 ≡ low = omega (arith, e) in
    ap (λ n. n ∷ w % 256 ∷ []) front ∙ ap (λ n. high ∷ n ∷ []) back

-- a word that was read from two bytes fits
word_lt : (w high low : ℕ) → high < 256 → low < 256 → w ≡ from_be_bytes w16 (high ∷ low ∷ []) → w < 65536
word_lt w high low h l e = omega (arith, e)

-- eight bytes are the four words that were read from them
pub four_words : (bytes : List ℕ) (w0 w1 w2 w3 : ℕ) → length bytes ≡ 8 → ((i : ℕ) → i < 8 → get_or bytes i 0 < 256)
    → w0 ≡ from_be_bytes w16 (get_or bytes 0 0 ∷ get_or bytes 1 0 ∷ [])
    → w1 ≡ from_be_bytes w16 (get_or bytes 2 0 ∷ get_or bytes 3 0 ∷ [])
    → w2 ≡ from_be_bytes w16 (get_or bytes 4 0 ∷ get_or bytes 5 0 ∷ [])
    → w3 ≡ from_be_bytes w16 (get_or bytes 6 0 ∷ get_or bytes 7 0 ∷ [])
    → (w0 < 65536) × (two_bytes w0 ++ two_bytes w1 ++ two_bytes w2 ++ two_bytes w3 ≡ bytes)
four_words (a ∷ b ∷ c ∷ d ∷ e ∷ f ∷ g ∷ h ∷ []) w0 w1 w2 w3 size in_range e0 e1 e2 e3 = (
  word_lt w0 a b (in_range 0 (omega arith)) (in_range 1 (omega arith)) e0,
  ap (λ t. t ++ two_bytes w1 ++ two_bytes w2 ++ two_bytes w3) (two_bytes-read w0 a b (in_range 0 (omega arith)) (in_range 1 (omega arith)) e0)
      ∙ ap (λ t. a ∷ b ∷ t ++ two_bytes w2 ++ two_bytes w3) (two_bytes-read w1 c d (in_range 2 (omega arith)) (in_range 3 (omega arith)) e1)
      ∙ ap (λ t. a ∷ b ∷ c ∷ d ∷ t ++ two_bytes w3) (two_bytes-read w2 e f (in_range 4 (omega arith)) (in_range 5 (omega arith)) e2)
      ∙ ap (λ t. a ∷ b ∷ c ∷ d ∷ e ∷ f ∷ t) (two_bytes-read w3 g h (in_range 6 (omega arith)) (in_range 7 (omega arith)) e3),
)
four_words _ w0 w1 w2 w3 size in_range e0 e1 e2 e3 = absurd (omega (arith, size))

-- the words of a header whose fields were read from them by masks and shifts are its bytes
pub words_of-fields : (w0 w1 w2 w3 : ℕ) → w0 < 65536
    → two_bytes (bit (not (nat_eq (bit_and w0 32768) 0)) * 32768 + bit (not (nat_eq (bit_and w0 16384) 0)) * 16384 + bit_and w0 16383)
    ++ two_bytes (w1 / 8 * 8 + bit_and w1 7) ++ two_bytes w2 ++ two_bytes w3
    ≡ two_bytes w0 ++ two_bytes w1 ++ two_bytes w2 ++ two_bytes w3
words_of-fields w0 w1 w2 w3 h =
    ap (λ n. two_bytes n ++ two_bytes (w1 / 8 * 8 + bit_and w1 7) ++ two_bytes w2 ++ two_bytes w3) (first_word w0 h)
    ∙ ap (λ n. two_bytes w0 ++ two_bytes n ++ two_bytes w2 ++ two_bytes w3) (second_word w1)

-- eight bytes are those of the header whose fields are read from them
pub header_of-bytes : (bytes : List ℕ) → length bytes ≡ 8 → All (λ byte. byte < 256) bytes → (head : SegmentHeader) × (header_bytes head ≡ bytes)
header_of-bytes bytes size small =
    let word : ℕ → ℕ = λ i. from_be_bytes w16 (get_or bytes i 0 ∷ get_or bytes (i + 1) 0 ∷ []) in
    let in_range = λ (i : ℕ) (within : i < 8). small i 0 (omega arith) in
    let words = four_words bytes (word 0) (word 2) (word 4) (word 6) size in_range refl refl refl refl in
    let second : word 2 < 65536 = word_lt (word 2) (get_or bytes 2 0) (get_or bytes 3 0) (in_range 2 (omega arith)) (in_range 3 (omega arith)) refl in (
      record {
        pfi = not (nat_eq (bit_and (word 0) 32768) 0);
        reserved = not (nat_eq (bit_and (word 0) 16384) 0);
        pointer = bit_and (word 0) 16383;
        sequence = word 2 / 8;
        cluster = bit_and (word 2) 7;
        request = word 4;
        hcs = word 6;
        pointer_in_range = omega (arith, and_mask (word 0) 14);
        sequence_in_range = omega arith;
        cluster_in_range = omega (arith, and_mask (word 2) 3);
      },
      words_of-fields (word 0) (word 2) (word 4) (word 6) words.0 ∙ words.1,
    )

-- two bytes, each by an equation
same_pair : (a b c d : ℕ) → a ≡ c → b ≡ d → a ∷ b ∷ [] ≡ c ∷ d ∷ []
same_pair a b c d front back = cc

-- the two bytes that a word is written as
pub two_bytes-written : (w : ℕ) → w < 65536 → to_be_bytes w16 w ≡ two_bytes w
two_bytes-written w h = same_pair (byte_at 1 w) (byte_at 0 w) (w / 256) (w % 256) (omega arith) (omega arith)

-- a bit is 0 or 1
bit_lt : (b : Bool) → bit b < 2
bit_lt true = omega arith
bit_lt false = omega arith

-- two bits and fourteen that are put together by `|`
pub first_word-written : (p r : Bool) (x y n : ℕ) → x ≡ bit p * 32768 → y ≡ bit r * 16384 → n < 16384 → bit_or (bit_or x y) n ≡ bit p * 32768 + bit r * 16384 + n
first_word-written p r x y n x_is y_is small =
    let upper : bit_or x y ≡ (bit p * 2 + bit r) * 16384 =
    ap (λ t. bit_or t y) x_is ∙ ap (bit_or (bit p * 32768)) y_is ∙ or_shifted (bit p) 15 (bit r * 16384) (omega (arith, bit_lt r)) ∙ omega arith in
    ap (λ t. bit_or t n) upper ∙ or_shifted (bit p * 2 + bit r) 14 n small ∙ omega arith

-- thirteen bits and three that are put together by `|`
pub second_word-written : (n m : ℕ) → n < 8192 → m < 8 → bit_or (n * 8 % 65536) m ≡ n * 8 + m
second_word-written n m fits small = ap (λ t. bit_or t m) (omega arith) ∙ or_shifted n 3 m small

-- four words that are written one after another, as two bytes each
pub four_words-written : (v0 v1 w0 w1 w2 w3 : ℕ) (b0 b1 b2 b3 : List ℕ) → v0 ≡ w0 → v1 ≡ w1
    → b0 ≡ two_bytes v0 → b1 ≡ two_bytes v1 → b2 ≡ two_bytes w2 → b3 ≡ two_bytes w3
    → get_or b0 0 0 ∷ get_or b0 1 0 ∷ get_or b1 0 0 ∷ get_or b1 1 0 ∷ get_or b2 0 0 ∷ get_or b2 1 0 ∷ get_or b3 0 0 ∷ get_or b3 1 0 ∷ []
    ≡ two_bytes w0 ++ two_bytes w1 ++ two_bytes w2 ++ two_bytes w3
four_words-written v0 v1 w0 w1 w2 w3 b0 b1 b2 b3 same0 same1 e0 e1 e2 e3 =
    let pair : List ℕ → List ℕ = λ b. get_or b 0 0 ∷ get_or b 1 0 ∷ [] in
    ap (λ b. pair b ++ pair b1 ++ pair b2 ++ pair b3) (e0 ∙ ap two_bytes same0)
    ∙ ap (λ b. two_bytes w0 ++ pair b ++ pair b2 ++ pair b3) (e1 ∙ ap two_bytes same1)
    ∙ ap (λ b. two_bytes w0 ++ two_bytes w1 ++ pair b ++ pair b3) e2
    ∙ ap (λ b. two_bytes w0 ++ two_bytes w1 ++ two_bytes w2 ++ pair b) e3

-- a bit by its number
bit-inj : (b d : Bool) → bit b ≡ bit d → b ≡ d
bit-inj true true e = refl
bit-inj true false e = absurd (omega (arith, e))
bit-inj false true e = absurd (omega (arith, e))
bit-inj false false e = refl

-- a word by its two bytes
two_bytes-inj : (v w : ℕ) → v / 256 ≡ w / 256 → v % 256 ≡ w % 256 → v ≡ w
two_bytes-inj v w front back = omega (arith, front, back)

-- the seven fields of a header
record Fields : Type 0 where
  pfi : Bool
  reserved : Bool
  pointer : ℕ
  sequence : ℕ
  cluster : ℕ
  request : ℕ
  hcs : ℕ

-- the ranges of the fields
abbrev InRange : Fields → Type 0
InRange f = (f.pointer < 16384) × (f.sequence < 8192) × (f.cluster < 8)

-- the header with these fields
abbrev header_with : (f : Fields) → InRange f → SegmentHeader
header_with f h = record {
  pfi = f.pfi;
  reserved = f.reserved;
  pointer = f.pointer;
  sequence = f.sequence;
  cluster = f.cluster;
  request = f.request;
  hcs = f.hcs;
  pointer_in_range = h.0;
  sequence_in_range = h.1;
  cluster_in_range = h.2;
}

-- headers with the same fields are the same
same_header_with : (f g : Fields) (h : InRange f) (k : InRange g) → f ≡ g → header_with f h ≡ header_with g k
same_header_with f g h k e =
    let P : Fields → Type 0 = λ t. (k : InRange t) → header_with f h ≡ header_with t k in
    let prop : IsProp (InRange f) = hlevel props in
    subst P e (λ k. ap (header_with f) (prop h k)) k

-- the fields of a header
abbrev fields_of : SegmentHeader → Fields
fields_of h = record { pfi = h.pfi; reserved = h.reserved; pointer = h.pointer; sequence = h.sequence; cluster = h.cluster; request = h.request; hcs = h.hcs }

-- a header is known by its fields
same_header : (g h : SegmentHeader) → fields_of g ≡ fields_of h → g ≡ h
same_header g h e =
    same_header_with (fields_of g) (fields_of h) (g.pointer_in_range, g.sequence_in_range, g.cluster_in_range) (h.pointer_in_range, h.sequence_in_range, h.cluster_in_range) e

-- the same, field by field
pub same_fields : (g h : SegmentHeader) → g.pfi ≡ h.pfi → g.reserved ≡ h.reserved → g.pointer ≡ h.pointer → g.sequence ≡ h.sequence → g.cluster ≡ h.cluster → g.request ≡ h.request → g.hcs ≡ h.hcs → g ≡ h
same_fields g h pfi reserved pointer sequence cluster request hcs = same_header g h cc

-- a header is known by its bytes
pub header_bytes-inj : (g h : SegmentHeader) → header_bytes g ≡ header_bytes h → g ≡ h
header_bytes-inj g h e =
    let first = two_bytes-inj (bit g.pfi * 32768 + bit g.reserved * 16384 + g.pointer) (bit h.pfi * 32768 + bit h.reserved * 16384 + h.pointer) (cc) (cc) in
    let second = two_bytes-inj (g.sequence * 8 + g.cluster) (h.sequence * 8 + h.cluster) (cc) (cc) in
    let request = two_bytes-inj g.request h.request (cc) (cc) in
    let hcs = two_bytes-inj g.hcs h.hcs (cc) (cc) in
    let g_cluster : g.cluster < 8 = g.cluster_in_range in
    let h_cluster : h.cluster < 8 = h.cluster_in_range in
    let g_pointer : g.pointer < 16384 = g.pointer_in_range in
    let h_pointer : h.pointer < 16384 = h.pointer_in_range in
    let pfi = bit-inj g.pfi h.pfi (omega (arith, bit_lt g.pfi, bit_lt h.pfi, bit_lt g.reserved, bit_lt h.reserved)) in
    let reserved = bit-inj g.reserved h.reserved (omega (arith, bit_lt g.pfi, bit_lt h.pfi, bit_lt g.reserved, bit_lt h.reserved)) in
    let pointer : g.pointer ≡ h.pointer = omega (arith, bit_lt g.pfi, bit_lt h.pfi, bit_lt g.reserved, bit_lt h.reserved) in
    let sequence : g.sequence ≡ h.sequence = omega arith in
    let cluster : g.cluster ≡ h.cluster = omega arith in
    same_header g h cc

-- what is read of a header's bytes is the header
pub read_back : (head : SegmentHeader) (answer : Option SegmentHeader) → IsSome answer ↔ (8 ≤ length (header_bytes head))
    → IfSome answer (λ read. header_bytes read ≡ take 8 (header_bytes head)) → answer ≡ Some head
read_back head None found spelled = absurd (false≢true (found.1 (omega arith)))
read_back head (Some read) found spelled = ap Some (header_bytes-inj read head spelled)

-- and what is read of eight bytes is written as them
pub written_back : (bytes : List ℕ) (answer : Option SegmentHeader) → length bytes ≡ 8 → IsSome answer ↔ (8 ≤ length bytes)
    → IfSome answer (λ read. header_bytes read ≡ take 8 bytes) → (head : SegmentHeader) × (answer ≡ Some head) × (header_bytes head ≡ bytes)
written_back bytes None eight found spelled = absurd (false≢true (found.1 (omega (arith, eight))))
written_back bytes (Some head) eight found spelled = (head, refl, spelled ∙ take_all 8 bytes (omega (arith, eight)))
