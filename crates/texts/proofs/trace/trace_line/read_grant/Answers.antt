use Rattle.std.proofs.Common.{ℕ, List, ◌∷◌, [], inl, inr, refl, ap}
use Rattle.std.proofs.lemmas.Result.{err_from_is_err_and}
use Rattle.text_lines.specs.Lines.{words_of}
use Rattle.texts.specs.Trace.Line.{shape_of, word_of, a_number, grant_line}
use Rattle.texts.proofs.TraceLineFaults.{miscounted, number_fault}
use Rattle.texts.proofs.trace.trace_line.read_grant.Goals as goal

pub returns-in_default-clause-fault : goal.returns-in_default-clause-fault
returns-in_default-clause-fault c = λ ring. miscounted (shape_of c.args.width ring) grant_line (words_of c.args.rest.now) tt c.in_default.ensures

pub returns-in_err-channel-clause-fault : goal.returns-in_err-channel-clause-fault
returns-in_err-channel-clause-fault c = λ ring.
    let p = err_from_is_err_and c.from_residual.result c.from_residual.ensures.1 in
    rw (p.1, p.2) (number_fault (shape_of c.args.width ring) grant_line _ _ _ c.in-Some.ensures refl c.in_err-channel.ensures.kind
    (inl (refl, (c.in_err-channel.ensures.bad ring))))

pub returns-in_err-number-clause-fault : goal.returns-in_err-number-clause-fault
returns-in_err-number-clause-fault c = λ ring.
    let p = err_from_is_err_and c.from_residual-in_err-number.result c.from_residual-in_err-number.ensures.1 in
    rw (p.1, p.2) (number_fault (shape_of c.args.width ring) grant_line _ _ _ c.in-Some.ensures refl c.in_err-number.ensures.kind
    (inr (a_number _, (c.in_ok-channel.ensures.number ring), inl (refl, c.in_err-number.ensures.bad))))

pub returns-in_err-sid-clause-fault : goal.returns-in_err-sid-clause-fault
returns-in_err-sid-clause-fault c = λ ring.
    let p = err_from_is_err_and c.from_residual-in_err-sid.result c.from_residual-in_err-sid.ensures.1 in
    rw (p.1, p.2) (number_fault (shape_of c.args.width ring) grant_line _ _ _ c.in-Some.ensures refl c.in_err-sid.ensures.kind
    (inr (a_number _, (c.in_ok-channel.ensures.number ring), inr (a_number _, c.in_ok-number.ensures.number, inl (refl, c.in_err-sid.ensures.bad)))))

pub returns-in_err-bytes-clause-fault : goal.returns-in_err-bytes-clause-fault
returns-in_err-bytes-clause-fault c = λ ring.
    let p = err_from_is_err_and c.from_residual-in_err-bytes.result c.from_residual-in_err-bytes.ensures.1 in
    rw (p.1, p.2) (number_fault (shape_of c.args.width ring) grant_line _ _ _ c.in-Some.ensures refl c.in_err-bytes.ensures.kind
    (inr (a_number _, (c.in_ok-channel.ensures.number ring), inr (a_number _, c.in_ok-number.ensures.number, inr (a_number _, c.in_ok-sid.ensures.number, inl (refl, c.in_err-bytes.ensures.bad))))))

pub returns-clause-carried : goal.returns-clause-carried
returns-clause-carried c = λ ring. record {
  after = c.in-Some.channel.now ∷ c.in-Some.number.now ∷ c.in-Some.sid.now ∷ c.in-Some.bytes.now ∷ [];
  are = ap (λ (after : List (List ℕ)). word_of grant_line ∷ after) c.in-Some.ensures;
  values = ((c.in_ok-channel.ensures.number ring), (c.in_ok-number.ensures.number, (c.in_ok-sid.ensures.number, (c.in_ok-bytes.ensures.number, tt))));
  ring_is = tt;
}
