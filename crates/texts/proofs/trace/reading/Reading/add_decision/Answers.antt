use Rattle.std.proofs.Common.{◌∙◌, refl}
use Rattle.receiver.specs.Entries.{decided}
use Rattle.texts.proofs.TraceSoFar.{flow_known, decision_without_fault, tags-pushed, AreListsOf-decision}
use Rattle.texts.proofs.trace.reading.Reading.add_decision.Goals as goal

pub returns : goal.returns
returns c = λ said has.
    let entry = decided c.args.decision in
    let known = flow_known said c.args.self.now.setup c.args.decision.flow has.setup c.in_ok-find_flow.ensures.known in
    record {
      faultless = decision_without_fault said c.args.decision known;
      has = record {
        setup = record { shape = has.setup.shape; flows = has.setup.flows; sids = has.setup.sids };
        lists = AreListsOf-decision said.entries c.args.self.now.lists _ c.args.decision has.lists refl c.in_ok-push.ensures.items;
        tags = c.in_ok-push_tag.ensures ∙ tags-pushed c.args.self.now.tags.items said.entries entry has.tags;
      };
    }
