use Rattle.std.proofs.Common.{refl, ◌∙◌, arith}
use Rattle.docsis_wire.specs.Checks.{frame_generator}
use Rattle.docsis_wire.proofs.Dividing.{sixteen_are_left}
use Rattle.docsis_wire.proofs.TakenAway.{left_by-rest}
use Rattle.docsis_wire.proofs.frame_sequence.after_bytes.Goals as goal

pub loop-low-init : goal.loop-low-init
loop-low-init c = record { small = λ i. omega (arith, c.type_inv.bytes i); same = refl }

pub loop-low-preserved : goal.loop-low-preserved
loop-low-preserved c =
    let h = c.in-Some.ensures in
    sixteen_are_left frame_generator c.args.remainder c.loop-low.remainder c.after_sixteen-remainder.result c.args.bytes.now c.loop-low.rest.now
    c.in-Some.low.now c.in-Some.high.now c.in-Some.behind.now c.loop-low.invariant h.0 h.1 h.2 h.3 c.after_sixteen-remainder.ensures

pub returns : goal.returns
returns c =
    c.after_few.ensures
    ∙ left_by-rest c.args.remainder c.loop-low.remainder c.args.bytes.now c.loop-low.rest.now (λ i. omega (arith, c.type_inv.bytes i)) c.loop-low.invariant
