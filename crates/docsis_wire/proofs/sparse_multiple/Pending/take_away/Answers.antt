use Rattle.std.proofs.Common.{◌≡◌, ◌*◌, ◌^◌, get_or, bit_xor, ap, ◌∙◌}
use Rattle.docsis_wire.specs.Checks.{frame_generator}
use Rattle.docsis_wire.specs.Division.{remainder_after}
use Rattle.docsis_wire.specs.Inside.Pending.{pair_sum, to_add_behind}
use Rattle.docsis_wire.proofs.SparseMultiple.{front_sum_taken_away}
use Rattle.docsis_wire.proofs.PairSums.{step_adds}
use Rattle.docsis_wire.proofs.sparse_multiple.Pending.take_away.Goals as goal

pub returns : goal.returns
returns c steps enough =
    let halves = c.sum-straddling.result in
    let sum_of_halves : pair_sum halves ≡ bit_xor (bit_xor (pair_sum c.moved.result.1) (pair_sum c.moved-2.result.1)) (bit_xor (pair_sum c.moved-3.result.0) (pair_sum c.args.self.last)) =
    c.sum-straddling.ensures.sum ∙ ap (λ m. bit_xor m (pair_sum c.sum-2.result)) c.sum.ensures.sum
    ∙ ap (bit_xor (bit_xor (pair_sum c.moved.result.1) (pair_sum c.moved-2.result.1))) c.sum-2.ensures.sum in
    let next_is : pair_sum c.sum-next.result ≡ bit_xor (bit_xor (pair_sum c.moved.result.0) (pair_sum c.moved-2.result.0)) (bit_xor (pair_sum c.args.self.later) (bit_xor (get_or c.args.self.straddling 1 0) (get_or halves 0 0 * 2 ^ 64))) =
    c.sum-next.ensures.sum ∙ ap (λ m. bit_xor m (pair_sum c.sum-added.result)) c.sum-3.ensures.sum
    ∙ ap (bit_xor (bit_xor (pair_sum c.moved.result.0) (pair_sum c.moved-2.result.0))) (c.sum-added.ensures.sum ∙ ap (bit_xor (pair_sum c.args.self.later)) c.between.ensures) in
    let made = step_adds (pair_sum c.sum-pair.result) (pair_sum c.moved.result.0) (pair_sum c.moved.result.1) (pair_sum c.moved-2.result.0) (pair_sum c.moved-2.result.1)
    (pair_sum c.moved-3.result.0) (pair_sum c.moved-3.result.1) (pair_sum c.moved-4.result.0) (pair_sum c.moved-4.result.1)
    (get_or c.args.self.straddling 1 0) (pair_sum c.args.self.later) (pair_sum c.args.self.last) (get_or halves 0 0) (get_or halves 1 0) (pair_sum c.sum-next.result) (pair_sum c.sum-later.result)
    c.moved.ensures c.moved-2.ensures c.moved-3.ensures c.moved-4.ensures sum_of_halves next_is c.sum-later.ensures.sum in
    ap (remainder_after frame_generator steps) made
    ∙ front_sum_taken_away (pair_sum c.sum-pair.result) (pair_sum c.args.self.next) (pair_sum c.args.words) (to_add_behind c.args.self) steps c.sum-pair.ensures.sum c.sum-pair.ensures.fits enough
