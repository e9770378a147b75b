-- A record more came.
use Rattle.std.proofs.Common.{refl, subst}
use Rattle.std.proofs.lemmas.Result.{on_ok_weaker}
use Rattle.capture.specs.SeenCapture.{capture_parts}
use Rattle.flow_selection.specs.declared.selection.Selection.{Selection}
use Rattle.frame_engine.specs.Comparing.{TakesBrought}
use Rattle.frame_engine.specs.declared.joining.Joining.{Joining}
use Rattle.frame_engine.proofs.Taken.{joined-passed, joined-burst}
use Rattle.frame_engine.proofs.Beside.{passed-beside, burst-beside}
use Rattle.frame_engine.proofs.joining.Joining.take_record.Goals as goal

pub returns-in-Ok-clause-taken : goal.returns-in-Ok-clause-taken
returns-in-Ok-clause-taken c =
    let old = c.args.self.now in
    let mid : Joining = record old { records = c.saturating_add-self.result } in
    on_ok_weaker c.take_burst.result
    (λ takes. λ settings capture_map records written has.
    joined-burst settings capture_map records written (capture_parts c.args.given) c.in-Ok.burst old mid c.take_burst.new.self has c.in-Ok.ensures refl
    c.saturating_add-self.ensures c.take_burst.ensures.records takes)
    c.take_burst.ensures.taken

pub returns-in-Err-clause-taken : goal.returns-in-Err-clause-taken
returns-in-Err-clause-taken c = λ settings capture_map records written has.
    let old = c.args.self.now in
    let new : Joining = record old { records = c.saturating_add-self.result } in
    joined-passed settings capture_map records written (capture_parts c.args.given) c.in-Err.reason old new has c.in-Err.ensures refl refl refl c.saturating_add-self.ensures

pub returns-in-Ok-clause-compared : goal.returns-in-Ok-clause-compared
returns-in-Ok-clause-compared c =
    on_ok_weaker c.take_burst.result
    (λ takes. λ settings capture_map records written has.
    burst-beside settings capture_map records written (capture_parts c.args.given) c.in-Ok.burst c.args.self.now c.take_burst.new.self c.saturating_add-self.result
    c.args.comparing.now c.take_record.new.self c.take_burst.new.comparing has
    (subst (λ (selected : Selection). TakesBrought selected c.args.self.now.flows.map (capture_parts c.args.given) c.args.comparing.now c.take_record.new.self) c.selected.ensures c.take_record.ensures.takes)
    c.take_record.ensures.explains c.in-Ok.ensures c.saturating_add-self.ensures
    c.take_burst.ensures.records takes)
    c.take_burst.ensures.compared

pub returns-in-Err-clause-compared : goal.returns-in-Err-clause-compared
returns-in-Err-clause-compared c = λ settings capture_map records written has.
    passed-beside settings capture_map records written (capture_parts c.args.given) c.in-Err.reason c.args.self.now c.saturating_add-self.result c.args.comparing.now
    c.take_record.new.self has
    (subst (λ (selected : Selection). TakesBrought selected c.args.self.now.flows.map (capture_parts c.args.given) c.args.comparing.now c.take_record.new.self) c.selected.ensures c.take_record.ensures.takes)
    c.take_record.ensures.explains c.in-Err.ensures c.saturating_add-self.ensures
