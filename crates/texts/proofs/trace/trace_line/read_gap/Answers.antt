use Rattle.std.proofs.Common.{ℕ, List, ◌∷◌, [], inl, inr, refl, ap}
use Rattle.std.proofs.lemmas.Result.{err_from_is_err_and}
use Rattle.text_lines.specs.Lines.{words_of}
use Rattle.texts.specs.Trace.Line.{shape_of, word_of, a_number, gap_line, gap_to_line}
use Rattle.texts.proofs.TraceLineFaults.{miscounted_gap, number_fault}
use Rattle.texts.proofs.trace.trace_line.read_gap.Goals as goal

pub returns-in_err-flow-clause-fault : goal.returns-in_err-flow-clause-fault
returns-in_err-flow-clause-fault c = λ ring.
    let p = err_from_is_err_and c.from_residual.result c.from_residual.ensures.1 in
    rw (p.1, p.2) (number_fault (shape_of c.args.width ring) gap_line _ _ _ c.in-Some.ensures refl c.in_err-flow.ensures.kind
    (inl (refl, (c.in_err-flow.ensures.bad ring))))

pub returns-in_default-only_two_words-clause-fault : goal.returns-in_default-only_two_words-clause-fault
returns-in_default-only_two_words-clause-fault c = λ ring. miscounted_gap (shape_of c.args.width ring) (words_of c.args.rest.now) c.in_default.ensures c.in_default-only_two_words.ensures

pub returns-in_err-index-clause-fault : goal.returns-in_err-index-clause-fault
returns-in_err-index-clause-fault c = λ ring.
    let p = err_from_is_err_and c.from_residual-in_err-index.result c.from_residual-in_err-index.ensures.1 in
    rw (p.1, p.2) (number_fault (shape_of c.args.width ring) gap_to_line _ _ _ c.in-Some-only_two_words.ensures refl c.in_err-index.ensures.kind
    (inl (refl, (c.in_err-index.ensures.bad ring))))

pub returns-in_err-number-clause-fault : goal.returns-in_err-number-clause-fault
returns-in_err-number-clause-fault c = λ ring.
    let p = err_from_is_err_and c.from_residual-in_err-number.result c.from_residual-in_err-number.ensures.1 in
    rw (p.1, p.2) (number_fault (shape_of c.args.width ring) gap_to_line _ _ _ c.in-Some-only_two_words.ensures refl c.in_err-number.ensures.kind
    (inr (a_number _, (c.in_ok-index.ensures.number ring), inl (refl, c.in_err-number.ensures.bad))))

pub returns-in-Some-clause-carried : goal.returns-in-Some-clause-carried
returns-in-Some-clause-carried c = λ ring. record {
  after = c.in-Some.flow.now ∷ [];
  are = ap (λ (after : List (List ℕ)). word_of gap_line ∷ after) c.in-Some.ensures;
  values = ((c.in_ok-flow.ensures.number ring), tt);
  ring_is = tt;
}

pub returns-clause-carried : goal.returns-clause-carried
returns-clause-carried c = λ ring. record {
  after = c.in-Some-only_two_words.index.now ∷ c.in-Some-only_two_words.number.now ∷ [];
  are = ap (λ (after : List (List ℕ)). word_of gap_to_line ∷ after) c.in-Some-only_two_words.ensures;
  values = ((c.in_ok-index.ensures.number ring), (c.in_ok-number.ensures.number, tt));
  ring_is = tt;
}
