use Rattle.std.proofs.Common.{sym, subst, ◌∙◌}
use Rattle.std.proofs.lemmas.Result.{IfOk-weaker}
use Rattle.docsis_wire.specs.declared.header_check.NoCheck.{NoCheck}
use Rattle.receiver.specs.declared.replaying.Replaying.{Replaying}
use Rattle.receiver.specs.Replaying.{HasReplayed}
use Rattle.texts.specs.AnyHeader.{any_header}
use Rattle.texts.specs.AnyHeader.{no_check}
use Rattle.texts.proofs.replay.under_way.UnderWay.finish.Goals as goal

pub returns-clause-order : goal.returns-clause-order
returns-clause-order c =
    IfOk-weaker c.finish.result _ _
    (λ outcome given rule entries was. given rule any_header entries
    (subst (λ (replaying : Replaying NoCheck). HasReplayed no_check rule any_header c.args.setup.now replaying entries) (sym c.self.view_is ∙ sym c.into_inner.ensures) was))
    c.finish.ensures.order
