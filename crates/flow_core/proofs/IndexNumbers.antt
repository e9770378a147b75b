-- The numbers of indexes.
use Rattle.std.proofs.Common.{◌≡◌, ℕ, ◌+◌, ◌<◌, ◌≤◌, arith}
use Rattle.reorder.specs.Number.{offset, following, number_ahead}
use Rattle.flow_core.specs.Fates.{number_of}
use Rattle.flow_core.specs.Events.{IsAhead}

-- the number of an index ahead has as offset how far the index lies ahead
pub offset-index : (first y i : ℕ) → y ≤ i → i < y + 8192 → y + offset (number_of first y) (number_of first i) ≡ i
offset-index first y i from to = omega arith

-- a number is that of the index which lies as far ahead as its offset
pub index-offset : (first y number : ℕ) → number < 8192 → number_of first (y + offset (number_of first y) number) ≡ number
index-offset first y number in_range = omega arith

-- so is the number of the next index
pub following-index : (first y : ℕ) → following (number_of first y) ≡ number_of first (y + 1)
following-index first y = omega arith

pub ahead-index : (first y n : ℕ) → number_ahead (number_of first y) n ≡ number_of first (y + n)
ahead-index first y n = omega arith

-- indexes of one number that are less than 8192 apart are one
pub same-index : (first y i j : ℕ) → y ≤ i → i < y + 8192 → y ≤ j → j < y + 8192 → number_of first i ≡ number_of first j → i ≡ j
same-index first y i j from to from' to' same = omega arith

-- the index of a number that lies ahead
pub ahead-at : (first y number : ℕ) → number < 8192 → offset (number_of first y) number < 4096 → IsAhead first y number (y + offset (number_of first y) number)
ahead-at first y number in_range near = record { from = omega arith; to = omega arith; numbered = index-offset first y number in_range }

-- a number that lies ahead has a small offset
pub ahead-offset : (first y number i : ℕ) → IsAhead first y number i → y + offset (number_of first y) number ≡ i
ahead-offset first y number i ahead = let from = ahead.from in let to = ahead.to in let is = ahead.numbered in omega arith

pub ahead-one : (first y number i j : ℕ) → IsAhead first y number i → IsAhead first y number j → i ≡ j
ahead-one first y number i j p q = let at = ahead-offset first y number i p in let at' = ahead-offset first y number j q in omega arith
