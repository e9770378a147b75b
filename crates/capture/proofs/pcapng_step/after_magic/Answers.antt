-- The byte-order magic comes after the type and the length.
use Rattle.std.proofs.Common.{sym, ◌∙◌, arith}
use Rattle.std.proofs.lemmas.Result.{err_from_is_err_and}
use Rattle.capture.proofs.BlockSteps.{head_fault, order_of_magic}
use Rattle.capture.proofs.pcapng_step.after_magic.Goals as goal

pub returns-in_err-check_head-clause-fault : goal.returns-in_err-check_head-clause-fault
returns-in_err-check_head-clause-fault c =
    let p = err_from_is_err_and c.from_residual.result c.from_residual.ensures.1 in
    let head = c.split_block_head.result.0 in
    let rest = c.split_block_head.result.1.now in
    let said = sym c.order_said.ensures ∙ c.in-Some.is in
    rw (p.1, p.2) (λ section part held.
    head_fault _ section head part rest c.in_err-check_head.ensures.fault (held ∙ c.split_block_head.ensures.spelled) (omega arith) (omega arith)
    (order_of_magic section head c.in-Some.endian c.args.pending.now rest c.requires.begins.more c.split_at.result.1.now c.split_u32-magic.result.1.now
    c.split_u32-magic.result.0 c.split_block_head.ensures.order (omega arith) c.split_block_head.ensures.spelled c.requires.begins.spelled c.split_at.ensures.back
    c.split_u32-magic.ensures.spelled said))
