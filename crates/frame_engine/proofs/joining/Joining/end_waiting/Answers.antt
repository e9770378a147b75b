-- Nothing more comes.
use Rattle.std.proofs.Common.{subst}
use Rattle.std.proofs.lemmas.Result.{on_ok_weaker}
use Rattle.flow_selection.specs.declared.selection.Selection.{Selection}
use Rattle.frame_engine.specs.Compared.{arrivals_of_steps}
use Rattle.frame_engine.specs.Comparing.{Takes}
use Rattle.frame_engine.proofs.Taken.{taken-end}
use Rattle.frame_engine.proofs.Beside.{three-ok, end-beside}
use Rattle.frame_engine.proofs.joining.Joining.end_waiting.Goals as goal

pub returns-in-Ok-clause-ended : goal.returns-in-Ok-clause-ended
returns-in-Ok-clause-ended c =
    on_ok_weaker c.put_came.result
    (λ puts. λ settings capture_map bursts written has.
    taken-end settings capture_map bursts written c.args.self.now
    (record { flows = c.end_waiting.new.self; timed = c.put_came.new.timed; file = c.put_came.new.file; records = c.args.self.now.records })
    c.end_waiting.new.out has c.in-Ok.ensures.takes puts)
    c.put_came.ensures.put

pub returns-in-Ok-clause-compared : goal.returns-in-Ok-clause-compared
returns-in-Ok-clause-compared c =
    three-ok c.put_came.result
    (λ puts takes explains. λ settings capture_map records bursts written has.
    end-beside settings capture_map records bursts written c.args.self.now
    (record { flows = c.end_waiting.new.self; timed = c.put_came.new.timed; file = c.put_came.new.file; records = c.args.self.now.records })
    c.end_waiting.new.out c.args.comparing.now c.put_came.new.comparing has c.in-Ok.ensures.takes puts
    (subst (λ (selected : Selection). Takes (arrivals_of_steps selected c.end_waiting.new.out.waiting.items) c.args.comparing.now c.put_came.new.comparing) c.selected.ensures takes) explains)
    c.put_came.ensures.put c.put_came.ensures.compared c.put_came.ensures.explained
