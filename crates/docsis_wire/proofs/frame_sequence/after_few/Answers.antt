use Rattle.std.proofs.Common.{◌≤◌, length, fold, refl, ap, ◌∙◌, sym, arith}
use Rattle.std.proofs.Math.ListN.{drop_of_length-le}
use Rattle.docsis_wire.specs.Checks.{frame_generator}
use Rattle.docsis_wire.proofs.Dividing.{after_byte, front_is_left, byte_is_left, remainder_by-bytes}
use Rattle.docsis_wire.proofs.frame_sequence.after_few.Goals as goal

pub loop-eight-init : goal.loop-eight-init
loop-eight-init c = record { small = λ i. omega (arith, c.type_inv.few i); same = refl }

pub loop-eight-preserved : goal.loop-eight-preserved
loop-eight-preserved c =
    let h = c.in-Some.ensures.cases in
    let enough : 8 ≤ length c.loop-eight.rest.now = omega (arith, h.2) in
    rw c.after_eight-remainder.ensures
    (front_is_left frame_generator c.args.remainder c.loop-eight.remainder 8 c.args.few.now c.loop-eight.rest.now c.in-Some.eight.now c.in-Some.behind.now
    c.loop-eight.invariant enough h.0 h.1)

pub loop-byte-preserved : goal.loop-byte-preserved
loop-byte-preserved c =
    byte_is_left frame_generator c.args.remainder c.loop-byte.remainder c.loop-byte.byte-index c.after_one-remainder.result c.args.few.now c.loop-eight.rest.now
    c.loop-byte.invariant c.loop-byte-test.true c.after_one-remainder.ensures

pub returns : goal.returns
returns c =
    let none = drop_of_length-le c.loop-eight.rest.now c.loop-byte-test.false in
    ap (fold (after_byte frame_generator) c.loop-byte.remainder) (sym none) ∙ c.loop-byte.invariant.same
    ∙ sym (remainder_by-bytes frame_generator c.args.remainder c.args.few.now (λ i. omega (arith, c.type_inv.few i)))
