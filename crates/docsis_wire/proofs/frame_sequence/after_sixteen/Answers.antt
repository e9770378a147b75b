use Rattle.docsis_wire.proofs.Digits.{word_is_message}
use Rattle.docsis_wire.proofs.frame_sequence.after_sixteen.Goals as goal

pub returns : goal.returns
returns c =
    let low = word_is_message c.args.low.now c.told-low in
    let high = word_is_message c.args.high.now c.told-high in
    let u = c.from_le_bytes.ensures in
    let v = c.from_le_bytes-2.ensures in
    let w = c.after_words.ensures in cc
