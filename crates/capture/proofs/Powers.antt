-- Powers that have a place in 128 bits, and those beyond which no time of 64 bits has a nanosecond.
use Rattle.std.proofs.Common.{◌≡◌, ℕ, ◌*◌, ◌/◌, ◌^◌, ◌<◌, ◌≤◌, arith}
use Rattle.std.proofs.Math.Nat.{pow-le-pow_right, one-le-pow, div-eq_of_lt}

pub ten-fits : (n : ℕ) → n ≤ 38 → 10 ^ n < 2 ^ 128
ten-fits n few =
    let grows : 10 ^ n ≤ 10 ^ 38 = pow-le-pow_right {n = 10} (omega arith) {i = n} {j = 38} few in
    omega (arith, grows)

pub two-fits : (n : ℕ) → n ≤ 127 → 2 ^ n < 2 ^ 128
two-fits n few =
    let grows : 2 ^ n ≤ 2 ^ 127 = pow-le-pow_right {n = 2} (omega arith) {i = n} {j = 127} few in
    omega (arith, grows)

pub some-pow : (b n : ℕ) → 0 < b → 0 < b ^ n
some-pow b n some =
    let one : 1 ≤ b ^ n = one-le-pow n b some in
    omega (arith, one)

pub ten-beyond : (n time : ℕ) → 38 < n → time < 2 ^ 64 → time * 1000000000 / 10 ^ n ≡ 0
ten-beyond n time many small =
    let grows : 10 ^ 39 ≤ 10 ^ n = pow-le-pow_right {n = 10} (omega arith) {i = 39} {j = n} (omega arith) in
    div-eq_of_lt (omega (arith, grows))

pub two-beyond : (n time : ℕ) → 127 < n → time < 2 ^ 64 → time * 1000000000 / 2 ^ n ≡ 0
two-beyond n time many small =
    let grows : 2 ^ 128 ≤ 2 ^ n = pow-le-pow_right {n = 2} (omega arith) {i = 128} {j = n} (omega arith) in
    div-eq_of_lt (omega (arith, grows))
