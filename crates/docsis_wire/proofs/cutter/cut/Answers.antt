-- The check's answer reports rightly, and so does what is made after it.
use Rattle.std.proofs.Common.{◌≡◌, Err, ℕ, List, Bool, rules}
use Rattle.docsis_wire.specs.declared.pieces.CutFault.TheVariants.{BadFrame, FillInsideFrame, PointerTooFar}
use Rattle.docsis_wire.specs.Cut.{IsLawfulCut}
use Rattle.docsis_wire.specs.Pieces.{fill_byte, chunks_of, ArePieceSegments, IsCuttable}
use Rattle.docsis_wire.proofs.OneFault.{Answers-fault, Answers-made, IfOk-made, IfOk-at, reported_exactly, cuttable_exactly}
use Rattle.docsis_wire.proofs.cutter.cut.Goals as goal

pub returns-in_err-cutter-clause-bad_frame : goal.returns-in_err-cutter-clause-bad_frame
returns-in_err-cutter-clause-bad_frame g c =
    let fault : c.from_residual.result ≡ Err c.in_err-cutter.field-0.0 = search rules in
    let answers = Answers-fault (g.C.HeaderCheck.accepts c.args.header_check.now) c.args.frames.now c.args.pieces.now c.from_residual.result c.in_err-cutter.field-0.0 fault c.in_err-cutter.ensures.faults in
    λ k. reported_exactly (g.C.HeaderCheck.accepts c.args.header_check.now) c.args.frames.now c.args.pieces.now c.from_residual.result (BadFrame k) answers (λ e. cc)

pub returns-in_err-cutter-clause-fill_inside_frame : goal.returns-in_err-cutter-clause-fill_inside_frame
returns-in_err-cutter-clause-fill_inside_frame g c =
    let fault : c.from_residual.result ≡ Err c.in_err-cutter.field-0.0 = search rules in
    let answers = Answers-fault (g.C.HeaderCheck.accepts c.args.header_check.now) c.args.frames.now c.args.pieces.now c.from_residual.result c.in_err-cutter.field-0.0 fault c.in_err-cutter.ensures.faults in
    λ k. reported_exactly (g.C.HeaderCheck.accepts c.args.header_check.now) c.args.frames.now c.args.pieces.now c.from_residual.result (FillInsideFrame k) answers (λ e. cc)

pub returns-in_err-cutter-clause-pointer_too_far : goal.returns-in_err-cutter-clause-pointer_too_far
returns-in_err-cutter-clause-pointer_too_far g c =
    let fault : c.from_residual.result ≡ Err c.in_err-cutter.field-0.0 = search rules in
    let answers = Answers-fault (g.C.HeaderCheck.accepts c.args.header_check.now) c.args.frames.now c.args.pieces.now c.from_residual.result c.in_err-cutter.field-0.0 fault c.in_err-cutter.ensures.faults in
    λ k. reported_exactly (g.C.HeaderCheck.accepts c.args.header_check.now) c.args.frames.now c.args.pieces.now c.from_residual.result (PointerTooFar k) answers (λ e. cc)

pub returns-in_err-cutter-clause-cuttable : goal.returns-in_err-cutter-clause-cuttable
returns-in_err-cutter-clause-cuttable g c =
    let fault : c.from_residual.result ≡ Err c.in_err-cutter.field-0.0 = search rules in
    let answers = Answers-fault (g.C.HeaderCheck.accepts c.args.header_check.now) c.args.frames.now c.args.pieces.now c.from_residual.result c.in_err-cutter.field-0.0 fault c.in_err-cutter.ensures.faults in
    cuttable_exactly (g.C.HeaderCheck.accepts c.args.header_check.now) c.args.frames.now c.args.pieces.now c.from_residual.result answers

pub returns-clause-lawful : goal.returns-clause-lawful
returns-clause-lawful g c =
    let check = g.C.HeaderCheck.accepts c.args.header_check.now in
    let lawful = rw c.in_ok-cutter.ensures.begins at c.make.ensures.lawful in
    IfOk-made (λ segments. IsLawfulCut check c.args.frames.now c.args.first (fill_byte c.args.fill) (chunks_of c.args.frames.now c.args.pieces.now) segments.items) c.make.result c.or.result c.or.ensures
    (IfOk-at c.make.result
    (λ segments. (check : List ℕ → Bool) → IsCuttable check c.args.frames.now c.args.pieces.now
    → IsLawfulCut check c.args.frames.now c.args.first (fill_byte c.args.fill) (chunks_of c.args.frames.now c.args.pieces.now) segments.items)
    (λ segments. IsLawfulCut check c.args.frames.now c.args.first (fill_byte c.args.fill) (chunks_of c.args.frames.now c.args.pieces.now) segments.items)
    (λ segments h. h check c.in_ok-cutter.ensures.cuttable) lawful)

pub returns-clause-named : goal.returns-clause-named
returns-clause-named g c =
    let named = rw c.in_ok-cutter.ensures.begins at c.make.ensures.named in
    IfOk-made (λ segments. ArePieceSegments (fill_byte c.args.fill) c.args.frames.now c.args.pieces.now segments.items) c.make.result c.or.result c.or.ensures named

pub returns-clause-bad_frame : goal.returns-clause-bad_frame
returns-clause-bad_frame g c =
    let answers = Answers-made (g.C.HeaderCheck.accepts c.args.header_check.now) c.args.frames.now c.args.pieces.now c.make.result c.or.result c.or.ensures c.in_ok-cutter.ensures.cuttable in
    λ k. reported_exactly (g.C.HeaderCheck.accepts c.args.header_check.now) c.args.frames.now c.args.pieces.now c.or.result (BadFrame k) answers (λ e. cc)

pub returns-clause-fill_inside_frame : goal.returns-clause-fill_inside_frame
returns-clause-fill_inside_frame g c =
    let answers = Answers-made (g.C.HeaderCheck.accepts c.args.header_check.now) c.args.frames.now c.args.pieces.now c.make.result c.or.result c.or.ensures c.in_ok-cutter.ensures.cuttable in
    λ k. reported_exactly (g.C.HeaderCheck.accepts c.args.header_check.now) c.args.frames.now c.args.pieces.now c.or.result (FillInsideFrame k) answers (λ e. cc)

pub returns-clause-pointer_too_far : goal.returns-clause-pointer_too_far
returns-clause-pointer_too_far g c =
    let answers = Answers-made (g.C.HeaderCheck.accepts c.args.header_check.now) c.args.frames.now c.args.pieces.now c.make.result c.or.result c.or.ensures c.in_ok-cutter.ensures.cuttable in
    λ k. reported_exactly (g.C.HeaderCheck.accepts c.args.header_check.now) c.args.frames.now c.args.pieces.now c.or.result (PointerTooFar k) answers (λ e. cc)

pub returns-clause-cuttable : goal.returns-clause-cuttable
returns-clause-cuttable g c =
    let answers = Answers-made (g.C.HeaderCheck.accepts c.args.header_check.now) c.args.frames.now c.args.pieces.now c.make.result c.or.result c.or.ensures c.in_ok-cutter.ensures.cuttable in
    cuttable_exactly (g.C.HeaderCheck.accepts c.args.header_check.now) c.args.frames.now c.args.pieces.now c.or.result answers
