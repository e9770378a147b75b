use Rattle.std.proofs.Common.{◌≡◌, ◌+◌, ◌*◌, arith}
use Rattle.docsis_wire.specs.Checks.{frame_generator}
use Rattle.docsis_wire.proofs.Digits.{by_eight_bytes}
use Rattle.docsis_wire.proofs.frame_sequence.left_of_eight.Goals as goal

pub returns : goal.returns
returns c =
    let b = c.args.behind in
    let e = by_eight_bytes frame_generator (8 * b) c.args.dividend c.ranges.dividend.fits in
    let k7 : 8 * (b + 7 + 1) ≡ 8 * b + 64 = omega arith in
    let k6 : 8 * (b + 6 + 1) ≡ 8 * b + 56 = omega arith in
    let k5 : 8 * (b + 5 + 1) ≡ 8 * b + 48 = omega arith in
    let k4 : 8 * (b + 4 + 1) ≡ 8 * b + 40 = omega arith in
    let k3 : 8 * (b + 3 + 1) ≡ 8 * b + 32 = omega arith in
    let k2 : 8 * (b + 2 + 1) ≡ 8 * b + 24 = omega arith in
    let k1 : 8 * (b + 1 + 1) ≡ 8 * b + 16 = omega arith in
    let k0 : 8 * (b + 1) ≡ 8 * b + 8 = omega arith in
    cc
