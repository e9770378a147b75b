-- As many bytes as there are make a number below that power of 256.
use Rattle.std.proofs.Common.{◌≤◌, ◌^◌, length, arith}
use Rattle.std.proofs.Math.Nat.{pow-le-pow_right}
use Rattle.byteorder.specs.Numbers.{big_from-lt}
use Rattle.frame_records.proofs.tlv_number.number.Goals as goal

pub returns-clause-fits : goal.returns-clause-fits
returns-clause-fits c =
    let value = c.args.value.now in
    let small = big_from-lt 0 (length value) value (λ i. omega (arith, c.type_inv.value i)) in
    let grows : 256 ^ length value ≤ 256 ^ c.args.most = pow-le-pow_right (omega arith) (omega arith) in
    omega (arith, small, grows, c.read_uint.ensures)
