-- Zeros are in the place of what is behind the front.
use Rattle.std.proofs.Common.{◌∙◌, rules}
use Rattle.docsis_wire.proofs.Zeros.{zeros-put}
use Rattle.docsis_wire.proofs.buffer.Bytes.with_zeros_behind.Goals as goal

pub returns : goal.returns
returns c = c.behind-2.ensures
    ∙ zeros-put c.self.inside.bytes.all.items c.put_zeros.new.bytes c.args.self c.self.inside.bytes.skipped c.args.count
    c.self.inside.bytes.all.len c.self.inside.bytes.all.ok.0 c.self.view_is (search rules) (rw (← c.deref_mut.ensures.value) c.put_zeros.ensures)
