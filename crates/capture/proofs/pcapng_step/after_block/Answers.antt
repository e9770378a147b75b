-- A block that is whole is its head, its body and its length.
use Rattle.std.proofs.Common.{◌-◌, take, drop, ◌∙◌, ap, arith, subst}
use Rattle.std.proofs.lemmas.Result.{err_from_is_err_and}
use Rattle.capture.specs.Pcapng.{block_kind}
use Rattle.capture.specs.PcapngReading.{HasOrder}
use Rattle.capture.specs.SeenCapture.{section_parts}
use Rattle.capture.specs.Inside.BlockStages.{block_of}
use Rattle.capture.proofs.BlockSteps.{block_parts, least_12, order_in_body, block_fault, whole_block, lawful_block}
use Rattle.capture.proofs.pcapng_step.after_block.Goals as goal

pub apply-requires-clause-order : goal.apply-requires-clause-order
apply-requires-clause-order c =
    let head = c.args.head in
    let begins = c.requires.begins in
    let section = section_parts c.args.section.now in
    let parts = block_parts head c.args.pending.now.items begins.more c.split_at.result.0.now c.split_at.result.1.now c.split_at-2.result.1.now begins.spelled
    (c.split_at.ensures.front ∙ ap (take (head.total - 4)) c.deref.ensures.value) (c.split_at.ensures.back ∙ ap (drop (head.total - 4)) c.deref.ensures.value)
    c.split_at-2.ensures.back c.requires.whole (omega (arith, begins.lawful.least, least_12 (block_kind head.number))) in
    order_in_body (block_kind head.number) section head.endian c.split_at-2.result.1.now c.split_at.result.1.now
    (subst (λ t. HasOrder (block_kind head.number) section head.endian t) parts.0 begins.order) (omega (arith, begins.lawful.least, parts.1))

pub returns-in_err-record-clause-fault : goal.returns-in_err-record-clause-fault
returns-in_err-record-clause-fault c =
    let p = err_from_is_err_and c.from_residual-in_err-record.result c.from_residual-in_err-record.ensures.1 in
    let head = c.args.head in
    let begins = c.requires.begins in
    let section = section_parts c.args.section.now in
    let body = c.split_at-2.result.1.now in
    let last = c.split_at.result.1.now in
    let parts = block_parts head c.args.pending.now.items begins.more c.split_at.result.0.now last body begins.spelled
    (c.split_at.ensures.front ∙ ap (take (head.total - 4)) c.deref.ensures.value) (c.split_at.ensures.back ∙ ap (drop (head.total - 4)) c.deref.ensures.value)
    c.split_at-2.ensures.back c.requires.whole (omega (arith, begins.lawful.least, least_12 (block_kind head.number))) in
    let order =
    order_in_body (block_kind head.number) section head.endian body last (subst (λ t. HasOrder (block_kind head.number) section head.endian t) parts.0 begins.order)
    (omega (arith, begins.lawful.least, parts.1)) in
    rw (p.1, p.2) (λ part held.
    block_fault _ section (block_of head body) part c.in_err-record.ensures.refused
    (held ∙ whole_block head c.args.pending.now.items begins.more body last begins.spelled parts.0 parts.1 c.in_ok-check_last.ensures.same)
    (lawful_block head body parts.1 begins.lawful) order)
