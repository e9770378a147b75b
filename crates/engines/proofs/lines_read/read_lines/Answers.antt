use Rattle.std.proofs.Common.{◌≡◌, ◌≤◌, take, length, sym, ap, subst, arith, rules}
use Rattle.std.specs.Io.KnownBytes.{Consumes}
use Rattle.engines.specs.Device.{inner_of}
use Rattle.engines.proofs.ReadLines.{so_far-more, of_room}
use Rattle.engines.proofs.lines_read.read_lines.Goals as goal

pub loop-count-preserved : goal.loop-count-preserved
loop-count-preserved g c =
    let remaining = g.R.Read.remaining in
    let old = c.loop-count.room.items in
    let front = c.read_piece-in-loop-count.new.room in
    let count = c.in_ok-count-2.count in
    let long : length front ≡ c.loop-count.room.len = search rules in
    let piece : c.deref.result.now ≡ old = c.deref.ensures.value in
    let within : c.loop-count.count ≤ length old = search rules in
    let front_is = of_room count c.loop-count.room.len front _ c.in_ok-count-2.ensures.within long in
    record {
      so_far =
          so_far-more remaining c.args.reader.now g.T.TakeLine.format g.T.TakeLine.stands_for c.args.taker c.loop-count.reader c.read_piece-in-loop-count.new.reader
          c.loop-count.input.taker c.take_piece.new.self.taker c.loop-count.input.reader c.take_piece.new.self.reader old _ _ c.loop-count.given c.loop-count.count
          count c.loop-count.invariant.so_far within (ap (take c.loop-count.count) piece) c.take_piece.ensures
          (subst (Consumes (remaining (inner_of c.loop-count.reader)) (remaining (inner_of c.read_piece-in-loop-count.new.reader))) (sym front_is) c.in_ok-count-2.ensures.taken);
      counted = c.in_ok-count-2.ensures.counted;
      within = omega (arith, c.in_ok-count-2.ensures.within, long);
      at_end = c.in_ok-count-2.ensures.end;
      room = c.loop-count.invariant.room;
    }
