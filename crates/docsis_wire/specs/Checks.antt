-- The check sequences of headers and of frames.
use Rattle.std.specs.Prelude.{ℕ, ◌+◌, ◌-◌, ◌*◌, ◌^◌, ◌==◌, ◌&&◌, nat_le, Bool, List, [], ◌∷◌, length, take, slice_index, bit_xor}
use Rattle.docsis_wire.specs.Division.{polynomial, message, remainder_after}

-- x^16 + x^12 + x^5 + 1
abbrev pub header_generator : ℕ
header_generator = polynomial 16 (16 ∷ 12 ∷ 5 ∷ 0 ∷ [])

-- x^32 + x^26 + x^23 + x^22 + x^16 + x^12 + x^11 + x^10 + x^8 + x^7 + x^5 + x^4 + x^2 + x + 1
abbrev pub frame_generator : ℕ
frame_generator = polynomial 32 (32 ∷ 26 ∷ 23 ∷ 22 ∷ 16 ∷ 12 ∷ 11 ∷ 10 ∷ 8 ∷ 7 ∷ 5 ∷ 4 ∷ 2 ∷ 1 ∷ 0 ∷ [])

-- The check sequence of some bytes by a generator of this degree. As many zeros follow the message,
-- as many coefficients are inverted from the leading one on, the whole is divided by the generator,
-- one step for each bit of the message, and the remainder is inverted.
abbrev pub sequence_by : ℕ → ℕ → List ℕ → ℕ
sequence_by degree generator bytes =
    let ones = 2 ^ degree - 1 in
    bit_xor (remainder_after generator (8 * length bytes) (bit_xor ones (message bytes))) ones

-- the header check sequence
abbrev pub check_sequence : List ℕ → ℕ
check_sequence = sequence_by 16 header_generator

-- the frame check sequence of Ethernet
abbrev pub frame_check_sequence : List ℕ → ℕ
frame_check_sequence = sequence_by 32 frame_generator

-- whether the last two bytes of a header are the check sequence of those before, the low byte first
abbrev pub ends_with_its_sequence : List ℕ → Bool
ends_with_its_sequence header =
    nat_le 2 (length header)
    && check_sequence (take (length header - 2) header) == slice_index header (length header - 2) + 256 * slice_index header (length header - 1)
