-- Bytes that are kept, until the part is whole.
use Rattle.std.proofs.Common.{◌++◌, arith}
use Rattle.std.proofs.lemmas.Result.{err_from_is_err_and}
use Rattle.capture.specs.SeenCapture.{captured_by, section_parts}
use Rattle.capture.specs.Inside.BlockStages.{passing_of}
use Rattle.capture.proofs.BlockReading.{came_on, stays, goes, fault_of_all}
use Rattle.capture.proofs.pcapng_step.fill_part.Goals as goal

pub returns-then-len-size-clause-passes : goal.returns-then-len-size-clause-passes
returns-then-len-size-clause-passes c =
    stays c.args.stage (section_parts c.args.section.now) c.args.pending.now.items c.fill.new.pending.items c.args.piece.now c.in_ok-rest.rest.now c.in_ok-rest.ensures.moved
    c.requires.filling c.requires.part.kept (omega (arith, c.wanted-size.ensures, c.len.ensures, c.if-len-size.true))
    (c.in_ok-rest.ensures.some (omega (arith, c.requires.part.fewer, c.wanted-size.ensures)))

pub returns-in_err-stage-clause-fault : goal.returns-in_err-stage-clause-fault
returns-in_err-stage-clause-fault c =
    let p = err_from_is_err_and c.from_residual-in_err-stage.result c.from_residual-in_err-stage.ensures.1 in
    let came = c.in_ok-rest.ensures.moved in
    rw (p.1, p.2) (
    fault_of_all _ (section_parts c.args.section.now) (passing_of c.args.stage) c.args.pending.now.items came.used c.args.piece.now c.in_ok-rest.rest.now came.piece_is
    (λ part held.
    c.in_err-stage.ensures.fault (part ++ came.used)
    (came_on (passing_of c.args.stage) c.args.pending.now.items c.fill.new.pending.items c.args.piece.now c.in_ok-rest.rest.now part came held)))

pub returns-clause-passes : goal.returns-clause-passes
returns-clause-passes c =
    goes c.args.stage (section_parts c.args.section.now) c.args.pending.now.items c.fill.new.pending.items c.in_ok-stage.stage (section_parts c.advance.new.section)
    c.advance.new.pending.items (captured_by c.in_ok-stage.record) c.args.piece.now c.in_ok-rest.rest.now c.in_ok-rest.ensures.moved c.in_ok-stage.ensures.next
    (c.in_ok-rest.ensures.some (omega (arith, c.requires.part.fewer, c.wanted-size.ensures)))
