use Rattle.std.proofs.Common.{◌∙◌, refl}
use Rattle.receiver.specs.Entries.{came}
use Rattle.texts.proofs.TraceSoFar.{input_without_fault, tags-pushed, AreListsOf-input}
use Rattle.texts.proofs.trace.reading.Reading.add_input.Goals as goal

pub returns : goal.returns
returns c = λ said has.
    let entry = came c.args.channel c.args.input in
    record {
      faultless = input_without_fault said c.args.channel c.args.input;
      has = record {
        setup = record { shape = has.setup.shape; flows = has.setup.flows; sids = has.setup.sids };
        lists = AreListsOf-input said.entries c.args.self.now.lists _ c.args.channel c.args.input c.from.result c.index-self-from.result _
            has.lists c.requires c.from.ensures refl c.in_ok-push.ensures.items refl;
        tags = c.in_ok-push_tag.ensures ∙ tags-pushed c.args.self.now.tags.items said.entries entry has.tags;
      };
    }
