-- What is to be added to the words of a message that come, after words before them were taken away.
use Rattle.std.specs.Prelude.{ℕ, length, ◌*◌, ◌^◌, List, slice_index, bit_xor}
use Rattle.docsis_wire.specs.Division.{message, remainder_after}
use Rattle.docsis_wire.specs.Checks.{frame_generator}
use Rattle.docsis_wire.specs.declared.sparse_multiple.Pending.{Pending}

-- the polynomial of a pair of words of 64 coefficients, the first word leads
abbrev pub pair_sum : List ℕ → ℕ
pair_sum words = bit_xor (slice_index words 0) (slice_index words 1 * 2 ^ 64)

-- what is to be added behind the next two words
abbrev pub to_add_behind : Pending → ℕ
to_add_behind p = bit_xor (bit_xor (slice_index p.straddling 1) (pair_sum p.later)) (pair_sum p.last * 2 ^ 64)

-- what is to be added from the next word on
abbrev pub to_add : Pending → ℕ
to_add p = bit_xor (pair_sum p.next) (to_add_behind p * 2 ^ 128)

-- what a division of all these bytes leaves, where this is added to the polynomial of the bytes
abbrev pub whole_remainder : ℕ → List ℕ → ℕ
whole_remainder added bytes = remainder_after frame_generator (8 * length bytes) (bit_xor added (message bytes))
