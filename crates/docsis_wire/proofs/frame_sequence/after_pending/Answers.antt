use Rattle.std.proofs.Common.{ℕ, ◌-◌, length, drop, take, bit_xor, ap, ◌∙◌, arith, length-drop}
use Rattle.std.proofs.lemmas.List.{take_all}
use Rattle.docsis_wire.specs.Checks.{frame_generator}
use Rattle.docsis_wire.specs.Division.{remainder_after}
use Rattle.docsis_wire.specs.Inside.Pending.{pair_sum, to_add}
use Rattle.docsis_wire.proofs.TakenAway.{three_pairs_divided}
use Rattle.docsis_wire.proofs.frame_sequence.after_pending.Goals as goal

pub returns : goal.returns
returns c =
    let bytes = c.args.bytes.now in
    let added = c.pairs.result in
    let size = length-drop 48 bytes in
    let divided : ℕ → ℕ → ℕ = λ r sum. remainder_after frame_generator 128 (bit_xor r sum) in
    three_pairs_divided (pair_sum added.0) (pair_sum added.1) (pair_sum added.2) c.after_pair-remainder.result c.after_pair-remainder-2.result c.after_pair-remainder-3.result
    (pair_sum c.words_at.result) (pair_sum c.words_at-2.result) (pair_sum c.words_at-3.result) (to_add c.args.pending) bytes (take (length bytes - 48) (drop 48 bytes))
    (λ i. omega (arith, c.type_inv.bytes i)) c.requires c.pairs.ensures c.words_at.ensures c.words_at-2.ensures c.words_at-3.ensures
    (c.after_pair-remainder.ensures ∙ ap (divided 0) c.sum.ensures.sum)
    (c.after_pair-remainder-2.ensures ∙ ap (divided c.after_pair-remainder.result) c.sum-2.ensures.sum)
    (c.after_pair-remainder-3.ensures ∙ ap (divided c.after_pair-remainder-2.result) c.sum-3.ensures.sum)
    (take_all (length bytes - 48) (drop 48 bytes) (omega arith))
