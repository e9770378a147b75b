-- How the offset of a number changes as the expected number moves on.
use Rattle.std.proofs.Common.{◌≡◌, ◌≢◌, ℕ, ◌+◌, ◌<◌, ◌≤◌, arith}
use Rattle.reorder.specs.Number.{offset, following, number_ahead}

-- the next number is a sequence number
pub following-in_range : (e : ℕ) → following e < 8192
following-in_range e = omega arith

-- the expected number is at no distance
pub offset-expected : (e : ℕ) → e < 8192 → offset e e ≡ 0
offset-expected e h = omega arith

-- any other number comes one nearer as the expected number moves on
pub offset-following : (e n : ℕ) → e < 8192 → n < 8192 → n ≢ e → offset (following e) n + 1 ≡ offset e n
offset-following e n h k apart = omega arith

-- two numbers at one offset are one
pub offset-injective : (e m n : ℕ) → e < 8192 → m < 8192 → n < 8192 → offset e m ≡ offset e n → m ≡ n
offset-injective e m n h k l same = omega arith

-- the number at an offset has that offset
pub offset-number_ahead : (e d : ℕ) → e < 8192 → d < 8192 → offset e (number_ahead e d) ≡ d
offset-number_ahead e d h k = omega arith

-- as the expected number moves on, its own offset becomes the greatest
pub offset-passed : (e : ℕ) → e < 8192 → offset (following e) e ≡ 8191
offset-passed e h = omega arith

-- a number is the one at its offset
pub number_ahead-offset : (e n : ℕ) → e < 8192 → n < 8192 → number_ahead e (offset e n) ≡ n
number_ahead-offset e n h k = omega arith

-- no number ahead is the expected one itself
pub number_ahead-zero : (e : ℕ) → e < 8192 → number_ahead e 0 ≡ e
number_ahead-zero e h = omega arith

-- one number more, and from the next number one less
pub number_ahead-following : (e d : ℕ) → number_ahead (following e) d ≡ number_ahead e (d + 1)
number_ahead-following e d = omega arith

-- as some numbers are passed, those behind them come as much nearer
pub offset-nearer : (e k n : ℕ) → e < 8192 → n < 8192 → k ≤ offset e n → offset (number_ahead e k) n + k ≡ offset e n
offset-nearer e k n h l far = omega arith

-- and those that were passed lie behind
pub offset-behind : (e k n : ℕ) → e < 8192 → n < 8192 → k ≤ 8192 → offset e n < k → 8192 ≤ offset (number_ahead e k) n + k
offset-behind e k n h l few near = omega arith
