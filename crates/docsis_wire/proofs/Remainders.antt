-- The tables have what is left of each byte, and by them a byte is divided in one step.
use Rattle.std.proofs.Common.{◌≡◌, ℕ, zero, suc, ◌+◌, ◌*◌, ◌/◌, ◌%◌, ◌<◌, ◌==◌, Bool, true, ◌&&◌, List, [], ◌∷◌, length, get_or, bit_xor, refl, sym, ap, ◌∙◌, arith}
use Rattle.std.proofs.lemmas.Bool.{and_parts, eqb-true}
use Rattle.std.proofs.lemmas.Nat.{xor_comm}
use Rattle.std.specs.Int.Bits.{xor_shifted}
use Rattle.docsis_wire.specs.declared.header_sequence.TheConstants.{HEADER_REMAINDERS}
use Rattle.docsis_wire.specs.declared.frame_remainders.TheConstants.{FRAME_REMAINDERS}
use Rattle.docsis_wire.specs.Division.{remainder_after}
use Rattle.docsis_wire.specs.Checks.{header_generator, frame_generator}
use Rattle.docsis_wire.proofs.Dividing.{remainder_after-xor}

-- whether a table has what is left of each byte after so many steps, from this byte on
are_remainders : ℕ → ℕ → ℕ → List ℕ → Bool
are_remainders divisor steps byte [] = true
are_remainders divisor steps byte (entry ∷ table) = entry == remainder_after divisor steps byte && are_remainders divisor steps (suc byte) table

remainder_at : (divisor steps byte : ℕ) (table : List ℕ) → are_remainders divisor steps byte table ≡ true
    → (i : ℕ) → i < length table → get_or table i 0 ≡ remainder_after divisor steps (byte + i)
unfolding are_remainders
remainder_at divisor steps byte [] all i within = absurd (omega arith)
remainder_at divisor steps byte (entry ∷ table) all zero within =
    let parts = and_parts (entry == remainder_after divisor steps byte) (are_remainders divisor steps (suc byte) table) all in
    let same : byte ≡ byte + 0 = omega arith in
    eqb-true entry (remainder_after divisor steps byte) parts.0 ∙ ap (remainder_after divisor steps) same
remainder_at divisor steps byte (entry ∷ table) all (suc i) within =
    let parts = and_parts (entry == remainder_after divisor steps byte) (are_remainders divisor steps (suc byte) table) all in
    let same : suc byte + i ≡ byte + suc i = omega arith in
    remainder_at divisor steps (suc byte) table parts.1 i (omega arith) ∙ ap (remainder_after divisor steps) same

-- whether each of these tables has 256 bytes, and what is left of them after eight steps more than
-- in the one before
are_tables : ℕ → ℕ → List (List ℕ) → Bool
are_tables divisor steps [] = true
are_tables divisor steps (table ∷ tables) =
    (length table == 256 && are_remainders divisor steps 0 table) && are_tables divisor (8 + steps) tables

-- each table, by computing
header_table : are_remainders header_generator 8 0 HEADER_REMAINDERS ≡ true
unfolding are_remainders remainder_after
header_table = refl

frame_tables : are_tables frame_generator 8 FRAME_REMAINDERS ≡ true
unfolding are_tables are_remainders remainder_after
frame_tables = refl

-- the entry of a byte in one of the tables
table_at : (divisor steps : ℕ) (tables : List (List ℕ)) → are_tables divisor steps tables ≡ true
    → (k byte : ℕ) → k < length tables → byte < 256 → get_or (get_or tables k []) byte 0 ≡ remainder_after divisor (8 * k + steps) byte
unfolding are_tables
table_at divisor steps [] all k byte within small = absurd (omega arith)
table_at divisor steps (table ∷ tables) all zero byte within small =
    let parts = and_parts (length table == 256 && are_remainders divisor steps 0 table) (are_tables divisor (8 + steps) tables) all in
    let own = and_parts (length table == 256) (are_remainders divisor steps 0 table) parts.0 in
    let size : length table ≡ 256 = eqb-true (length table) 256 own.0 in
    let same : 0 + byte ≡ byte = omega arith in
    let count : steps ≡ 8 * 0 + steps = omega arith in
    remainder_at divisor steps 0 table own.1 byte (omega arith) ∙ ap (remainder_after divisor steps) same
    ∙ ap (λ n. remainder_after divisor n byte) count
table_at divisor steps (table ∷ tables) all (suc k) byte within small =
    let parts = and_parts (length table == 256 && are_remainders divisor steps 0 table) (are_tables divisor (8 + steps) tables) all in
    let count : 8 * k + (8 + steps) ≡ 8 * suc k + steps = omega arith in
    table_at divisor (8 + steps) tables parts.1 k byte (omega arith) small ∙ ap (λ n. remainder_after divisor n byte) count

-- the same as code reads it
pub frame_table_at : (k dividend : ℕ) → k < 16
    → get_or (get_or FRAME_REMAINDERS k []) (dividend % 256) 0 ≡ remainder_after frame_generator (8 * (k + 1)) (dividend % 256)
frame_table_at k dividend few =
    let small : dividend % 256 < 256 = omega arith in
    let count : 8 * k + 8 ≡ 8 * (k + 1) = omega arith in
    table_at frame_generator 8 FRAME_REMAINDERS frame_tables k (dividend % 256) few small ∙ ap (λ n. remainder_after frame_generator n (dividend % 256)) count

-- a dividend's low byte is divided, and the rest of the dividend comes down
pub by_byte : (divisor dividend : ℕ) → bit_xor (remainder_after divisor 8 (dividend % 256)) (dividend / 256) ≡ remainder_after divisor 8 dividend
by_byte divisor dividend =
    let low : dividend % 256 < 256 = omega arith in
    let sum : dividend / 256 * 256 + dividend % 256 ≡ dividend = omega arith in
    sym (remainder_after-xor 8 divisor (dividend % 256) (dividend / 256))
    ∙ ap (remainder_after divisor 8) (xor_comm (dividend % 256) (dividend / 256 * 256) ∙ xor_shifted (dividend / 256) 8 (dividend % 256) low ∙ sum)

-- by a table
by_table : (divisor dividend : ℕ) (table : List ℕ) → are_remainders divisor 8 0 table ≡ true → 256 ≡ length table
    → bit_xor (get_or table (dividend % 256) 0) (dividend / 256) ≡ remainder_after divisor 8 dividend
by_table divisor dividend table all size =
    let same : 0 + dividend % 256 ≡ dividend % 256 = omega arith in
    ap (λ entry. bit_xor entry (dividend / 256)) (remainder_at divisor 8 0 table all (dividend % 256) (omega arith) ∙ ap (remainder_after divisor 8) same)
    ∙ by_byte divisor dividend

-- the same as code reads it: the byte in the remainder's width, and the place in the table
pub header_by_table : (remainder byte wide place : ℕ) → wide ≡ byte → place ≡ bit_xor remainder wide % 256
    → bit_xor (get_or HEADER_REMAINDERS place 0) (bit_xor remainder wide / 256) ≡ remainder_after header_generator 8 (bit_xor remainder byte)
header_by_table remainder byte wide place same at =
    ap (λ k. bit_xor (get_or HEADER_REMAINDERS k 0) (bit_xor remainder wide / 256)) at
    ∙ by_table header_generator (bit_xor remainder wide) HEADER_REMAINDERS header_table refl
    ∙ ap (λ b. remainder_after header_generator 8 (bit_xor remainder b)) same
