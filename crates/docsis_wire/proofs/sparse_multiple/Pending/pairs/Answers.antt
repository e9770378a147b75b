use Rattle.std.proofs.Common.{◌*◌, ◌^◌, get_or, bit_xor, sym, ap, ◌∙◌}
use Rattle.std.specs.Int.Bits.{xor_zero_r}
use Rattle.docsis_wire.specs.Inside.Pending.{pair_sum}
use Rattle.docsis_wire.proofs.PairSums.{pairs_behind}
use Rattle.docsis_wire.proofs.sparse_multiple.Pending.pairs.Goals as goal

pub returns : goal.returns
returns c =
    let p = c.args.self in
    let second = c.sum-second.ensures.sum ∙ ap (bit_xor (pair_sum p.later)) c.between.ensures in
    let third = c.between-third.ensures ∙ xor_zero_r (get_or p.last 1 0) in
    ap (λ m. bit_xor (pair_sum p.next) (m * 2 ^ 128))
    (pairs_behind (get_or p.straddling 1 0) (pair_sum p.later) (get_or p.last 0 0) (get_or p.last 1 0) (pair_sum c.sum-second.result) second
    ∙ ap (λ m. bit_xor (pair_sum c.sum-second.result) (m * 2 ^ 128)) (sym third))
