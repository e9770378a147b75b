use Rattle.text_lines.proofs.SpelledBytes.{puts-spelled}
use Rattle.text_lines.proofs.put_text.put_hex.Goals as goal

pub loop-block-init : goal.loop-block-init
loop-block-init g c = λ end puts. puts

pub loop-block-preserved : goal.loop-block-preserved
loop-block-preserved g c = λ end puts.
    let parts = c.in-Some.ensures.cases in
    c.loop-block.invariant end
    (puts-spelled g.O.PutText.after c.loop-block.out c.put_spelled.new.out end 64 c.loop-block.rest.now c.in-Some.block.now c.in-Some.others.now
    parts.0 parts.1 c.put_spelled.ensures.put puts)

pub returns : goal.returns
returns g c = c.loop-block.invariant c.put_spelled-2.new.out c.put_spelled-2.ensures.put
