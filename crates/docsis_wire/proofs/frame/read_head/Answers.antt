-- The clause on frames follows from the table.
use Rattle.std.proofs.Common.{◌≡◌, sym, ap, ◌∙◌, arith}
use Rattle.std.proofs.lemmas.Grind.{common_steps}
use Rattle.docsis_wire.specs.Head.{head_of}
use Rattle.docsis_wire.proofs.FrameHeads.{head_of-frame, IsFrame-from_head, header_announced}
use Rattle.docsis_wire.proofs.frame.read_head.Goals as goal

pub returns-in-len4-up-clause-frame : goal.returns-in-len4-up-clause-frame
returns-in-len4-up-clause-frame c =
    let table : c.read_front.result ≡ head_of c.args.bytes.now = grind (arith, common_steps) in
    λ check frame more h e. let read = head_of-frame check frame more h in (read.0, table ∙ ap head_of e ∙ read.1, read.2)

pub returns-in-len4-up-clause-whole : goal.returns-in-len4-up-clause-whole
returns-in-len4-up-clause-whole c =
    let table : c.read_front.result ≡ head_of c.args.bytes.now = grind (arith, common_steps) in
    λ check ehdr total e. IsFrame-from_head check c.args.bytes.now ehdr total (λ i. omega (arith, c.type_inv.bytes i)) (sym table ∙ e)

pub returns-in-len4-up-clause-header : goal.returns-in-len4-up-clause-header
returns-in-len4-up-clause-header c =
    let table : c.read_front.result ≡ head_of c.args.bytes.now = grind (arith, common_steps) in
    λ ehdr total e. header_announced c.args.bytes.now ehdr total (sym table ∙ e)
