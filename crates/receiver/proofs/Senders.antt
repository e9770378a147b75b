-- What holds of each channel, and of each of the five senders.
use Rattle.std.proofs.Common.{ℕ, zero, suc, ◌<◌, arith}
use Rattle.lane.specs.Limits.{channel_limit, senders}

-- what holds of each of the four channels holds of every channel
pub four : (P : ℕ → Type 0) → P 0 → P 1 → P 2 → P 3 → (channel : ℕ) → channel < channel_limit → P channel
four P a b c d zero below = a
four P a b c d (suc zero) below = b
four P a b c d (suc (suc zero)) below = c
four P a b c d (suc (suc (suc zero))) below = d
four P a b c d (suc (suc (suc (suc channel)))) below = absurd (omega arith)

-- what holds of each of the five senders holds of every sender
pub five : (P : ℕ → Type 0) → P 0 → P 1 → P 2 → P 3 → P 4 → (sender : ℕ) → sender < senders → P sender
five P a b c d e zero below = a
five P a b c d e (suc zero) below = b
five P a b c d e (suc (suc zero)) below = c
five P a b c d e (suc (suc (suc zero))) below = d
five P a b c d e (suc (suc (suc (suc zero)))) below = e
five P a b c d e (suc (suc (suc (suc (suc sender))))) below = absurd (omega arith)
