-- A trace is what its lines say, in lists.
use Rattle.std.proofs.Common.{ℕ, List, refl, subst}
use Rattle.receiver.specs.AdmittedOrder.{IsAdmittedOrder}
use Rattle.receiver.specs.Entries.{incoming_in}
use Rattle.receiver.specs.Items.{incoming_of}
use Rattle.texts.specs.AnyHeader.{any_header}
use Rattle.texts.proofs.OneReplay.{order_moved, outcome_by_moved}
use Rattle.texts.proofs.laws.replay_of_a_trace_is_the_text.Goals as goal

pub returns : goal.returns
returns c rule input trace order outcome is admitted answered =
    let given = is.given in
    let setup = trace.setup in
    let lists = incoming_of trace.lists in
    let entries = incoming_in is.said.entries in
    let by_tags = subst (λ (tags : List ℕ). IsAdmittedOrder setup lists tags order) given.tags admitted in
    record {
      said = is.said;
      read = is.read;
      outcome = outcome;
      played = record {
        setup = setup;
        given = record { flows = given.flows; sids = given.sids; mailbox = given.mailbox_is };
        order = order;
        admitted = order_moved setup setup lists entries refl refl given.lists.inputs given.lists.decisions _ order by_tags;
        answered = outcome_by_moved setup setup lists entries refl refl given.lists.inputs given.lists.decisions rule any_header order outcome answered;
      };
      printed = refl;
    }
