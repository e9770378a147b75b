use Rattle.std.proofs.Common.{ap, subst}
use Rattle.reorder.specs.View.{WindowView}
use Rattle.reorder.specs.Verdicts.{IsDeclared, declared_count, skipped_count}
use Rattle.reorder.specs.Calls.{after_call}
use Rattle.reorder.proofs.AgreeingWindows.{Agree-same, one_declared}
use Rattle.reorder.proofs.laws.agreeing_windows_answer_alike.Goals as goal

pub returns-clause-same : goal.returns-clause-same
returns-clause-same g c = λ v w agree. Agree-same v w agree

pub returns-clause-declare : goal.returns-clause-declare
returns-clause-declare g c = λ v w a b agree p q. one_declared w a b (subst (λ (u : WindowView _). IsDeclared u a) (Agree-same v w agree) p) q

pub returns-clause-after : goal.returns-clause-after
returns-clause-after g c = λ v w call agree. ap (λ u. after_call u call) (Agree-same v w agree)

pub returns-clause-declare_to : goal.returns-clause-declare_to
returns-clause-declare_to g c = λ v w number agree. ap (λ u. declared_count u number) (Agree-same v w agree)

pub returns-clause-skip_to : goal.returns-clause-skip_to
returns-clause-skip_to g c = λ v w number agree. ap (λ u. skipped_count u number) (Agree-same v w agree)
