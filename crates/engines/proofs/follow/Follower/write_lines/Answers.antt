-- What was given for the lines was written.
use Rattle.std.proofs.Common.{[], ◌∙◌, rules}
use Rattle.std.specs.Prelude.{flat_map}
use Rattle.texts.specs.Follow.{told_lines}
use Rattle.engines.proofs.follow.Follower.write_lines.Goals as goal

pub returns : goal.returns
returns g c = λ rule width settings bytes told has.
    let followed = c.take_lines-taken.ensures rule width settings bytes told has in
    let wrote = followed.1 c.new-text.result [] c.new-text.ensures.unused in
    let written = c.finish.ensures.written c.new-text.result (flat_map (told_lines settings) followed.0) wrote in
    let name = c.finish.ensures.same_reference ∙ wrote.same in
    (followed.0, search (rules, c.new-text.ensures.same_writer), followed.2)
