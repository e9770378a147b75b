-- How wide columns become.
use Rattle.std.proofs.Common.{◌≡◌, ℕ, zero, suc, ◌+◌, ◌*◌, ◌/◌, ◌<◌, ◌≤◌, Bool, true, false, cond, refl, ap, arith}
use Rattle.std.specs.Prelude.{nat_lt}
use Rattle.std.proofs.lemmas.Bool.Decides.{nat_tests}
use Rattle.std.proofs.Math.Nat.{div-lt_iff_lt-mul}
use Rattle.capture_picture.specs.Picture.{Picture, doubled, doubled_within}

-- wide enough: it stays
pub doubled_within-stays : (most age : ℕ) (picture : Picture) → age / 256 < picture.column_width → doubled_within most age picture ≡ picture
doubled_within-stays zero age picture wide = refl
doubled_within-stays (suc most) age picture wide =
    let test : nat_lt (age / 256) picture.column_width ≡ true = grind (arith, nat_tests) in
    ap (λ t. cond t picture (doubled_within most age (doubled picture))) test

-- too narrow: it doubles, and one step fewer is left
pub doubled_within-goes_on : (most age : ℕ) (picture : Picture) → picture.column_width ≤ age / 256
    → doubled_within (suc most) age picture ≡ doubled_within most age (doubled picture)
doubled_within-goes_on most age picture narrow =
    let test : nat_lt (age / 256) picture.column_width ≡ false = grind (arith, nat_tests) in
    ap (λ t. cond t picture (doubled_within most age (doubled picture))) test

-- the column of an age that is reached is one of the 256
pub column_within : (age width : ℕ) → age / 256 < width → age / width < 256
column_within age width wide =
    let below : age < width * 256 = (div-lt_iff_lt-mul {k = 256} {x = age} {y = width} (omega arith)).0 wide in
    let some : 0 < width = omega arith in
    (div-lt_iff_lt-mul {k = width} {x = age} {y = 256} some).1 (omega (arith, below))

-- with enough steps the columns become wide enough
pub doubled_within-reaches : (most age : ℕ) (picture : Picture) → 0 < picture.column_width → age / 256 < picture.column_width + most
    → age / 256 < (doubled_within most age picture).column_width
doubled_within-reaches zero age picture some enough = omega (arith, enough)
doubled_within-reaches (suc most) age picture some enough =
    by_test (nat_lt (age / 256) picture.column_width) refl
    (doubled_within-reaches most age (doubled picture))
  where
    by_test : (test : Bool) → nat_lt (age / 256) picture.column_width ≡ test
        → (0 < 2 * picture.column_width → age / 256 < 2 * picture.column_width + most → age / 256 < (doubled_within most age (doubled picture)).column_width)
        → age / 256 < (cond test picture (doubled_within most age (doubled picture))).column_width
    by_test true is after = grind (arith, nat_tests)
    by_test false is after =
        let narrow : picture.column_width ≤ age / 256 = grind (arith, nat_tests) in
        after (omega (arith, some)) (omega (arith, some, enough))
