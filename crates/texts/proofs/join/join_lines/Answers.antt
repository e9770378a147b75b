use Rattle.std.proofs.Common.{[]}
use Rattle.std.specs.Prelude.{flat_map}
use Rattle.std.proofs.lemmas.Result.{err_from_is_err_and}
use Rattle.texts.specs.Join.{frame_line}
use Rattle.texts.proofs.OneJoinFault.{join_fault}
use Rattle.texts.proofs.PutLines.{buffer-holds}
use Rattle.texts.proofs.join.join_lines.Goals as goal

pub returns-in_err-take_lines-clause-fault : goal.returns-in_err-take_lines-clause-fault
returns-in_err-take_lines-clause-fault c =
    let p = err_from_is_err_and c.from_residual.result c.from_residual.ensures.1 in
    rw (p.1, p.2) (join_fault c.args.input.now c.in_err-take_lines.field-0.0 (c.in_err-take_lines.ensures.fault [] c.new-read.ensures))

pub returns-clause-text : goal.returns-clause-text
returns-clause-text c =
    let read = c.in_ok-take_lines.ensures.read [] c.new-read.ensures in
    let input = c.take_lines.new.taker in
    record {
      segments = read.0;
      frames = input.frames.items;
      unfinished = input.joiner;
      read = read.1;
      joined = read.2;
      printed =
          buffer-holds c.new-text.result c.put_lines.new.out c.in_ok-finish.field-0.items (flat_map frame_line input.frames.items) c.new-text.ensures.empty c.put_lines.ensures
          c.in_ok-finish.ensures.whole c.in_ok-finish.ensures.text;
    }
