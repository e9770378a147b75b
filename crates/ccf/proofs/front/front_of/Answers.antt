-- As many bytes as the head announces are a frame where the check says yes of the header, which
-- ends within them.
use Rattle.std.proofs.Common.{◌≡◌, true, refl, ap, ◌∙◌, sym, arith}
use Rattle.docsis_wire.specs.Frame.{header_front}
use Rattle.ccf.proofs.front.front_of.Goals as goal

pub returns-else-total-bytes : goal.returns-else-total-bytes
returns-else-total-bytes g c =
    let bytes = c.args.bytes.now in
    let check = g.C.HeaderCheck.accepts c.args.check.now in
    let enough = c.if-total-bytes.false in
    let within = c.in-Head.ensures.header c.in-Head.ehdr c.in-Head.total refl in
    let passed = c.fails.ensures.passed c.if-fails.false (omega (arith, c.from.ensures)) in
    let checked : check (header_front c.in-Head.ehdr bytes) ≡ true = sym (ap (λ n. check (header_front n bytes)) c.from.ensures) ∙ passed in
    (omega arith, enough, c.in-Head.ensures.whole check c.in-Head.ehdr c.in-Head.total refl enough checked)
