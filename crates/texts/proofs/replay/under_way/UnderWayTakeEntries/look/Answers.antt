use Rattle.std.proofs.Common.{sym, subst, ◌∙◌}
use Rattle.docsis_wire.specs.declared.header_check.NoCheck.{NoCheck}
use Rattle.receiver.specs.declared.replaying.Replaying.{Replaying}
use Rattle.receiver.specs.Replaying.{HasReplayed}
use Rattle.texts.specs.AnyHeader.{any_header, no_check}
use Rattle.texts.proofs.replay.under_way.UnderWayTakeEntries.look.Goals as goal

pub returns : goal.returns
returns c rule setup entries was =
    c.look.ensures rule any_header setup entries
    (subst (λ (replaying : Replaying NoCheck). HasReplayed no_check rule any_header setup replaying entries) (sym c.self.view_is ∙ sym c.deref.ensures) was)
