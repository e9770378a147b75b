-- The lane takes the input, and its answer is counted.
use Rattle.std.proofs.Common.{OnErr, sym, subst}
use Rattle.std.proofs.lemmas.Result.{err_from_is_err_and}
use Rattle.receiver.specs.Receiving.{AnswersTheSame}
use Rattle.receiver.proofs.tallied_lane.TalliedLane.take.Goals as goal

pub returns-in_err-answer-clause-the_same : goal.returns-in_err-answer-clause-the_same
returns-in_err-answer-clause-the_same c =
    let p = err_from_is_err_and c.from_residual.result c.from_residual.ensures.1 in
    subst (λ r. OnErr r (AnswersTheSame c.args.self.now (record { lane = c.take_owned.new.self; tally = c.args.self.now.tally }))) (sym p.1)
    (λ setup answered has. record { stands = c.in_err-answer.ensures.unchanged setup answered has.stands; tally = has.tally })

pub returns-clause-answers : goal.returns-clause-answers
returns-clause-answers c setup answered has = record {
  stands = c.in_ok-answer.ensures.answered setup answered has.stands;
  tally = c.count.ensures answered c.args.input has.tally;
}
