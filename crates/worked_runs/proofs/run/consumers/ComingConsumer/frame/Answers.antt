-- What is given is counted.
use Rattle.std.proofs.Common.{sym, subst}
use Rattle.consumer.specs.Counting.{HasCounted}
use Rattle.consumer.specs.declared.counts.Counts.{Counts}
use Rattle.worked_runs.proofs.run.consumers.ComingConsumer.frame.Goals as goal

pub returns : goal.returns
returns c = λ start given before.
    c.frame.ensures start.counts given (subst (λ (counts : Counts). HasCounted start.counts given counts) (sym c.come.ensures) before)
