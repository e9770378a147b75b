use Rattle.std.proofs.Common.{bit_xor}
use Rattle.docsis_wire.specs.Checks.{frame_generator}
use Rattle.docsis_wire.proofs.Remainders.{by_byte}
use Rattle.docsis_wire.proofs.frame_sequence.after_one.Goals as goal

pub returns : goal.returns
returns c =
    let d = bit_xor c.args.remainder c.from.result in
    let e = by_byte frame_generator d in
    let l = c.left_of.ensures in
    let w = c.from-2.ensures in
    let n = c.from.ensures in cc
