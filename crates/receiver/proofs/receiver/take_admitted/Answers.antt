-- The request is given, and then what the flow gives.
use Rattle.std.proofs.Common.{map, [], ◌∷◌, ◌++◌, ap, subst, ◌∙◌, append_assoc, append-nil}
use Rattle.std.proofs.lemmas.List.Elements.{filter_map-append}
use Rattle.consumer.specs.Given.{request_on, requests_given, asked_in}
use Rattle.bonded_flows.specs.Table.{StandsFor as TableStandsFor}
use Rattle.consumer.specs.declared.given.Given.TheVariants.{Frame}
use Rattle.bonded_flows.proofs.TableTurns.{no-request}
use Rattle.receiver.specs.HandedIn.{arrives_on}
use Rattle.receiver.proofs.AskedRequests.{table-asked}
use Rattle.receiver.proofs.receiver.take_admitted.Goals as goal

pub returns-clause-takes : goal.returns-clause-takes
returns-clause-takes g c =
    let asked = asked_in c.args.admitted.request in
    let takes = c.take_segment.ensures.takes in
    let frames = map (Frame c.args.admitted.flow) takes.more in
    record {
      given_more = asked ++ frames;
      was_given = λ start given was.
          subst (λ t. g.O.Consumer.after start t c.take_segment.new.out) (append_assoc given asked frames)
          (takes.was_given start (given ++ asked) (c.give_request.ensures start given was));
      requests = λ on.
          filter_map-append (request_on on) asked frames
          ∙ ap (λ t. requests_given on asked ++ t) (no-request c.args.admitted.flow on takes.more) ∙ append-nil (requests_given on asked);
      stands = λ check made history given stands.
          subst (λ t. TableStandsFor g.C.HeaderCheck.accepts c.take_segment.new.self check made (history ++ arrives_on c.args.channel c.args.admitted ∷ []) t) (append_assoc given asked frames)
          (takes.stands check made history (given ++ asked) (table-asked g.C.HeaderCheck.accepts c.args.flows.now check made history given c.args.admitted.request stands));
    }
