-- A burst more came.
use Rattle.std.proofs.Common.{refl, subst}
use Rattle.std.proofs.lemmas.Result.{on_ok_weaker}
use Rattle.flow_selection.specs.declared.selection.Selection.{Selection}
use Rattle.frame_engine.specs.Compared.{arrivals_of_steps}
use Rattle.frame_engine.specs.Comparing.{Takes}
use Rattle.frame_engine.proofs.Taken.{taken-more}
use Rattle.frame_engine.proofs.Beside.{three-ok, taken-beside}
use Rattle.frame_engine.proofs.Explained.{takes-kept}
use Rattle.frame_engine.proofs.joining.Joining.take_burst.Goals as goal

pub returns-in-Ok-clause-taken : goal.returns-in-Ok-clause-taken
returns-in-Ok-clause-taken c =
    on_ok_weaker c.put_came-put.result
    (λ puts. λ settings capture_map bursts written has.
    taken-more settings capture_map bursts c.args.burst c.in-Ok.told written c.args.self.now
    (record { flows = c.take.new.self; timed = c.put_came-put.new.timed; file = c.put_came-put.new.file; records = c.args.self.now.records })
    c.take.new.out has c.in-Ok.ensures.takes puts c.take.ensures.map c.take.ensures.waits)
    c.put_came-put.ensures.put

pub returns-in-Ok-clause-compared : goal.returns-in-Ok-clause-compared
returns-in-Ok-clause-compared c =
    let old = c.args.comparing.now in
    let told = c.tell_taken.new.self in
    let new = c.put_came-put.new.comparing in
    three-ok c.put_came-put.result
    (λ puts takes explains. λ settings capture_map records one bursts written holds has.
    taken-beside settings capture_map records one bursts c.args.burst c.in-Ok.told written c.args.self.now
    (record { flows = c.take.new.self; timed = c.put_came-put.new.timed; file = c.put_came-put.new.file; records = c.args.self.now.records })
    c.take.new.out old new told.reasons holds has c.in-Ok.ensures.takes puts c.take.ensures.map c.take.ensures.waits c.tell_taken.ensures.tells
    (takes-kept (arrivals_of_steps c.take.new.self.receiver.selected c.take.new.out.waiting.items) old told new new c.tell_taken.ensures.comparison
    (subst (λ (selected : Selection). Takes (arrivals_of_steps selected c.take.new.out.waiting.items) told new) c.selected.ensures takes) refl) explains)
    c.put_came-put.ensures.put c.put_came-put.ensures.compared c.put_came-put.ensures.explained
