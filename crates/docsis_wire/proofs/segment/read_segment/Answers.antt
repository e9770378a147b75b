-- Each word is its fields, and its bytes are those that it was read from.
use Rattle.std.proofs.Common.{◌≡◌, length, get_or, take, ap, ◌∙◌, arith}
use Rattle.std.proofs.lemmas.List.{length-take-le, get_or-take}
use Rattle.docsis_wire.proofs.HeaderWords.{four_words, words_of-fields}
use Rattle.docsis_wire.proofs.segment.read_segment.Goals as goal

pub returns-clause-spelled : goal.returns-clause-spelled
returns-clause-spelled c =
    let front = c.in_ok-b0.field-0.now in
    let same : front ≡ take 8 c.args.bytes.now = c.in_ok-b0.ensures.cases.same in
    let w0 = c.from_be_bytes-first.result in
    let w1 = c.from_be_bytes-second.result in
    let w2 = c.from_be_bytes.result in
    let w3 = c.from_be_bytes-2.result in
    let size : length front ≡ 8 = ap length same ∙ length-take-le 8 c.args.bytes.now c.in_ok-b0.ensures.cases.enough in
    let words = four_words front w0 w1 w2 w3 size (λ i l. omega (arith, ap (λ bytes. get_or bytes i 0) same, get_or-take 8 c.args.bytes.now i 0 l, c.type_inv.bytes i)) c.from_be_bytes-first.ensures c.from_be_bytes-second.ensures c.from_be_bytes.ensures c.from_be_bytes-2.ensures in
    words_of-fields w0 w1 w2 w3 words.0 ∙ words.1 ∙ same
