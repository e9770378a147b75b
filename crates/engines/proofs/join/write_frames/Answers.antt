use Rattle.std.proofs.Common.{[], ◌∙◌, rules}
use Rattle.std.specs.Prelude.{flat_map}
use Rattle.texts.specs.Join.{frame_line}
use Rattle.engines.proofs.join.write_frames.Goals as goal

pub returns : goal.returns
returns g c =
    let text = flat_map frame_line c.args.joined.now.frames.items in
    let put = c.put_lines.ensures c.new-text.result [] c.new-text.ensures.unused in
    let written = c.finish.ensures.written c.new-text.result text put in
    let name = c.finish.ensures.same_reference ∙ put.same in
    search (rules, c.new-text.ensures.same_writer)
