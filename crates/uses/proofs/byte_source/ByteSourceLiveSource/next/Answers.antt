-- One input more was read.
use Rattle.std.proofs.Common.{Option, sym, subst, ◌∙◌}
use Rattle.workers.specs.declared.channel_input.ChannelInput.{ChannelInput}
use Rattle.uses.specs.InputForms.{ReadsInput}
use Rattle.uses.proofs.BytesRead.{none-of, reads-more}
use Rattle.uses.proofs.byte_source.ByteSourceLiveSource.next.Goals as goal

pub returns-in-Ok-Some-clause-given : goal.returns-in-Ok-Some-clause-given
returns-in-Ok-Some-clause-given g c = λ start inputs has.
    let none = none-of c.args.self.now.ended (sym c.if-is_some.false ∙ c.is_some.ensures) in
    let read = subst (λ (read : Option ChannelInput). ReadsInput (g.R.Read.remaining c.args.self.now.reader) (g.R.Read.remaining c.read_input.new.reader) read) c.in-Ok-Some.field-0-is c.in-Ok-Some.ensures in
    reads-more g.R.Read.remaining start c.args.self.now
    (record { alloc = c.args.self.now.alloc; reader = c.read_input.new.reader; ended = c.args.self.now.ended; told = c.args.self.now.told })
    inputs has none c.in-Ok-Some.input none read
