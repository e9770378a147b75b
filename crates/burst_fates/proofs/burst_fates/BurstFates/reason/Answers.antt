use Rattle.std.proofs.Common.{◌≡◌, sym, ◌∙◌}
use Rattle.burst_fates.proofs.Known.{reason-more, reason-found, reason-none, reason-named}
use Rattle.burst_fates.proofs.burst_fates.BurstFates.reason.Goals as goal

pub returns-in-Some : goal.returns-in-Some
returns-in-Some c =
    let told = c.args.self.now.told.items in
    let ids = c.args.ids.now in
    sym (reason-named told ids (sym c.is_empty.ensures ∙ c.if-is_empty.false)
    ∙ sym c.loop-id.invariant
    ∙ reason-found told ids c.loop-id.id-index 0 c.in-Some.reason c.loop-id-test.true (sym c.reason_of_burst.ensures ∙ c.in-Some.is))

pub loop-id-preserved : goal.loop-id-preserved
loop-id-preserved c =
    reason-more c.args.self.now.told.items c.args.ids.now c.loop-id.id-index 0 c.loop-id-test.true (sym c.reason_of_burst.ensures ∙ c.in_default.is) ∙ c.loop-id.invariant

pub returns : goal.returns
returns c =
    let told = c.args.self.now.told.items in
    let ids = c.args.ids.now in
    sym (reason-named told ids (sym c.is_empty.ensures ∙ c.if-is_empty.false)
    ∙ sym c.loop-id.invariant
    ∙ reason-none told ids c.loop-id.id-index c.loop-id-test.false)
