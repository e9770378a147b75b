use Rattle.std.proofs.Common.{rules}
use Rattle.engines.proofs.WrittenFront.{AppendsBefore-more}
use Rattle.std.proofs.lemmas.List.{take_rest}
use Rattle.engines.proofs.transfer.write_bytes.Goals as goal

pub loop-rest-preserved : goal.loop-rest-preserved
loop-rest-preserved g c = record {
  went =
      AppendsBefore-more (g.W.Write.contents c.args.writer.now.inner) (g.W.Write.contents c.loop-rest.writer.inner) (g.W.Write.contents c.write.new.self.inner)
      c.args.bytes.now c.loop-rest.rest.now _ c.in_ok-count.count c.loop-rest.invariant.went c.in_ok-count.ensures.bytes (take_rest c.loop-rest.rest.now c.in_ok-count.count);
  sound = search rules;
}
