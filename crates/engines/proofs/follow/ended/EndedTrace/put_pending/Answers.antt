-- What was pending was written, or it was not there.
use Rattle.std.proofs.Common.{[], ◌∙◌, refl, rules}
use Rattle.std.specs.Prelude.{flat_map}
use Rattle.texts.specs.Follow.{told_lines}
use Rattle.engines.specs.Inside.Writing.{HasWritten}
use Rattle.engines.proofs.FollowedEnd.{pending_told}
use Rattle.engines.proofs.follow.ended.EndedTrace.put_pending.Goals as goal

pub returns : goal.returns
returns g c = λ rule width settings bytes told has.
    let pending =
    pending_told rule width settings bytes told c.args.self.now has (HasWritten g.W.Write.contents) c.new-text.result c.put_happened-put.new.out _
    c.put_happened-put.result c.put_happened-put.ensures.put c.put_happened-put.ensures.unchanged refl in
    let wrote = pending.1 c.new-text.result [] c.new-text.ensures.unused in
    let written = c.finish.ensures.written c.new-text.result (flat_map (told_lines settings) pending.0) wrote in
    let name = c.finish.ensures.same_reference ∙ wrote.same in
    (pending.0, search (rules, c.new-text.ensures.same_writer), pending.2)
