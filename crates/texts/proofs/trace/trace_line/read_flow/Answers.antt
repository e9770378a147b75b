use Rattle.std.proofs.Common.{inl, inr, refl}
use Rattle.std.proofs.lemmas.Result.{err_from_is_err_and}
use Rattle.text_lines.specs.Lines.{words_of}
use Rattle.texts.specs.Trace.Line.{a_number, flow_line}
use Rattle.texts.proofs.TraceLineFaults.{miscounted, number_fault}
use Rattle.texts.proofs.trace.trace_line.read_flow.Goals as goal

pub returns-in_default-clause-fault : goal.returns-in_default-clause-fault
returns-in_default-clause-fault c = λ shape. miscounted shape flow_line (words_of c.args.rest.now) tt c.in_default.ensures

pub returns-in_err-sfid-clause-fault : goal.returns-in_err-sfid-clause-fault
returns-in_err-sfid-clause-fault c = λ shape.
    let p = err_from_is_err_and c.from_residual.result c.from_residual.ensures.1 in
    rw (p.1, p.2) (number_fault shape flow_line _ _ _ c.in-Some.ensures refl c.in_err-sfid.ensures.kind
    (inl (refl, c.in_err-sfid.ensures.bad)))

pub returns-in_err-first-clause-fault : goal.returns-in_err-first-clause-fault
returns-in_err-first-clause-fault c = λ shape.
    let p = err_from_is_err_and c.from_residual-in_err-first.result c.from_residual-in_err-first.ensures.1 in
    rw (p.1, p.2) (number_fault shape flow_line _ _ _ c.in-Some.ensures refl c.in_err-first.ensures.kind
    (inr (a_number _, c.in_ok-sfid.ensures.number, inl (refl, c.in_err-first.ensures.bad))))

pub returns-in_err-window-clause-fault : goal.returns-in_err-window-clause-fault
returns-in_err-window-clause-fault c = λ shape.
    let p = err_from_is_err_and c.from_residual-in_err-window.result c.from_residual-in_err-window.ensures.1 in
    rw (p.1, p.2) (number_fault shape flow_line _ _ _ c.in-Some.ensures refl c.in_err-window.ensures.kind
    (inr (a_number _, c.in_ok-sfid.ensures.number, inr (a_number _, c.in_ok-first.ensures.number, inl (refl, c.in_err-window.ensures.bad)))))

pub returns-in_err-clusters-clause-fault : goal.returns-in_err-clusters-clause-fault
returns-in_err-clusters-clause-fault c = λ shape.
    let p = err_from_is_err_and c.from_residual-in_err-clusters.result c.from_residual-in_err-clusters.ensures.1 in
    rw (p.1, p.2) (number_fault shape flow_line _ _ _ c.in-Some.ensures refl c.in_err-clusters.ensures.kind
    (inr (a_number _, c.in_ok-sfid.ensures.number, inr (a_number _, c.in_ok-first.ensures.number, inr (a_number _, c.in_ok-window.ensures.number, inl (refl, c.in_err-clusters.ensures.bad))))))
