-- Each word is the sum of its fields, and its two bytes are written.
use Rattle.std.proofs.Common.{◌≡◌, ◌*◌, ◌%◌, ◌<◌, ap, ◌∙◌, sym, bit_or}
use Rattle.docsis_wire.specs.Words.{bit}
use Rattle.docsis_wire.proofs.HeaderWords.{first_word-written, second_word-written, four_words-written}
use Rattle.docsis_wire.proofs.segment.write_segment.Goals.{then-head, else-head, then-head-2, else-head-2}
use Rattle.docsis_wire.proofs.segment.write_segment.Goals as goal

pub returns : goal.returns
returns c =
    let head = c.args.head.now in
    let pfi : c.if-head.pfi ≡ bit head.pfi * 32768 =
    elim c.if-head.branch [ then-head w ↦ w.pfi-is ∙ ap (λ b. bit b * 32768) (sym w.if-head.true) | else-head w ↦ w.pfi-is ∙ ap (λ b. bit b * 32768) (sym w.if-head.false) ] in
    let reserved : c.if-head-2.reserved ≡ bit head.reserved * 16384 =
    elim c.if-head-2.branch [ then-head-2 w ↦ w.reserved-is ∙ ap (λ b. bit b * 16384) (sym w.if-head-2.true) | else-head-2 w ↦ w.reserved-is ∙ ap (λ b. bit b * 16384) (sym w.if-head-2.false) ] in
    let pointer : head.pointer < 16384 = head.pointer_in_range in
    let sequence : head.sequence < 8192 = head.sequence_in_range in
    let cluster : head.cluster < 8 = head.cluster_in_range in
    let first = first_word-written head.pfi head.reserved c.if-head.pfi c.if-head-2.reserved head.pointer pfi reserved pointer in
    let second = ap (bit_or (head.sequence * 8 % 65536)) c.from.ensures ∙ second_word-written head.sequence head.cluster sequence cluster in
    four_words-written _ _ _ _ head.request head.hcs c.two_bytes.result c.two_bytes-2.result c.two_bytes-3.result c.two_bytes-4.result first second c.two_bytes.ensures c.two_bytes-2.ensures c.two_bytes-3.ensures c.two_bytes-4.ensures
