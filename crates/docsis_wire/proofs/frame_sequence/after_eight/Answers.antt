use Rattle.docsis_wire.proofs.Digits.{word_is_message}
use Rattle.docsis_wire.proofs.frame_sequence.after_eight.Goals as goal

pub returns : goal.returns
returns c =
    let n = c.from.ensures in
    let w = word_is_message c.args.eight.now c.told-eight in
    let u = c.from_le_bytes.ensures in
    let l = c.left_of_eight.ensures in cc
