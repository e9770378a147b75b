use Rattle.std.proofs.Common.{bit_xor}
use Rattle.docsis_wire.specs.Checks.{frame_generator}
use Rattle.docsis_wire.proofs.Digits.{by_two_words}
use Rattle.docsis_wire.proofs.frame_sequence.after_words.Goals as goal

pub returns : goal.returns
returns c =
    let n = c.from.ensures in
    let l = c.left_of_eight-others.ensures in
    let m = c.left_of_eight.ensures in
    let e = by_two_words frame_generator (bit_xor c.args.remainder c.args.low) c.args.high in cc
