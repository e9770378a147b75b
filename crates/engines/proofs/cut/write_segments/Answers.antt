use Rattle.std.proofs.Common.{[], ◌∙◌, rules}
use Rattle.engines.proofs.cut.write_segments.Goals as goal

pub returns : goal.returns
returns g c =
    let put = c.put_cut.ensures in
    let wrote = put.2 c.new-text.result [] c.new-text.ensures.unused in
    let written = c.finish.ensures.written c.new-text.result put.0 wrote in
    let name = c.finish.ensures.same_reference ∙ wrote.same in
    (put.0, put.1, search (rules, c.new-text.ensures.same_writer))
