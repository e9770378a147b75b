-- Zeros in the place of the last bytes.
use Rattle.std.proofs.Common.{◌≡◌, ◌≤◌, ◌+◌, ◌-◌, ◌++◌, ℕ, zero, suc, List, [], ◌∷◌, length, take, drop, replicate, ap, refl, ◌∙◌, arith}
use Rattle.std.proofs.lemmas.List.{take_at, length-append, length-replicate, length-take}

-- behind those that are left out at the front they are in the place of the last ones, too
pub zeros-behind : (bytes : List ℕ) (skipped count at : ℕ) → at ≡ skipped + count → at ≤ length bytes
    → drop skipped (take at bytes ++ replicate (length bytes - at) 0)
    ≡ take count (drop skipped bytes) ++ replicate (length (drop skipped bytes) - count) 0
zeros-behind bytes zero count at is within =
    let same : at ≡ count = omega arith in
    ap (λ n. take n bytes ++ replicate (length bytes - n) 0) same
zeros-behind [] (suc skipped) count at is within = absurd (omega arith)
zeros-behind (byte ∷ bytes) (suc skipped) count zero is within = absurd (omega arith)
zeros-behind (byte ∷ bytes) (suc skipped) count (suc at) is within =
    let left : length (byte ∷ bytes) - suc at ≡ length bytes - at = omega arith in
    ap (λ n. drop skipped (take at bytes ++ replicate n 0)) left ∙ zeros-behind bytes skipped count at (omega arith) (omega arith)

-- where they are put into the same memory
pub zeros-put : (all new bytes : List ℕ) (skipped count room : ℕ) → room ≡ length all → drop skipped all ≡ bytes → skipped + count ≤ length all
    → new ≡ take (skipped + count) all ++ replicate (length all - (skipped + count)) 0
    → drop skipped (take room (new ++ drop (length new) all)) ≡ take count bytes ++ replicate (length bytes - count) 0
zeros-put all new bytes skipped count room long left within put =
    let many : length new ≡ room = grind (arith, put, long, length-append, length-take, length-replicate, within) in
    ap (drop skipped) (take_at new (drop (length new) all) room many ∙ put)
    ∙ zeros-behind all skipped count (skipped + count) refl within
    ∙ ap (λ list. take count list ++ replicate (length list - count) 0) left
