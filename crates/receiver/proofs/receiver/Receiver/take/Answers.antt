-- An input is given back, or answered, and what is admitted comes to its flow.
use Rattle.std.proofs.Common.{◌<◌, Ok, Err, [], ◌∷◌, length, refl, sym, ap, subst, ◌∙◌, arith}
use Rattle.std.proofs.lemmas.Option.{same_Some}
use Rattle.std.specs.Vec.{with_item}
use Rattle.lane.specs.Inputs.{Answer}
use Rattle.lane.specs.Report.{admitted_by}
use Rattle.receiver.specs.declared.tallied_lane.TalliedLane.{TalliedLane}
use Rattle.receiver.specs.HandedIn.{came}
use Rattle.receiver.specs.Receiving.{TakesMore, IsReadyFor}
use Rattle.receiver.proofs.InputsTaken.{takes-flows, still-receiving}
use Rattle.receiver.proofs.OtherFlows.{one-changes, changes-of, no-flow-changes, others-stay}
use Rattle.receiver.proofs.OneInput.{lane-here, answers-for, takes-back, takes-none, takes-some, flow-exists, flow-prepared, told-rightly}
use Rattle.receiver.proofs.receiver.Receiver.take.Goals as goal

pub make_ready-requires-clause-lane : goal.make_ready-requires-clause-lane
make_ready-requires-clause-lane g c =
    answers-for g.C.HeaderCheck.accepts c.args.self.now c.requires.receiving c.args.channel c.index.result.now
    (lane-here c.args.self.now.lanes.items c.args.channel c.index.result.now (omega (arith, c.if-channel-len.false, c.len.ensures)) c.index.ensures)

pub returns-in-Err-clause-fails : goal.returns-in-Err-clause-fails
returns-in-Err-clause-fails g c = (
  refl,
  omega (arith, c.if-channel-len.false, c.len.ensures),
  λ closing. c.make_ready.ensures.closing (c.in-Err.is ∙ ap Err closing),
  takes-flows g.C.HeaderCheck.accepts g.O.Consumer.after c.args.self.now _ c.args.out.now c.make_ready.new.out [] [] refl (λ channel. refl) (λ made count. refl) c.make_ready.ensures.takes.0 c.make_ready.ensures.takes.1,
)

pub returns-in-Err-clause-receiving : goal.returns-in-Err-clause-receiving
returns-in-Err-clause-receiving g c =
    still-receiving g.C.HeaderCheck.accepts g.O.Consumer.after c.args.self.now _ c.args.out.now c.make_ready.new.out [] c.requires.receiving (returns-in-Err-clause-fails g c).3

pub returns-in-Err-take-clause-fails : goal.returns-in-Err-take-clause-fails
returns-in-Err-take-clause-fails g c = (
  c.in-Err-take.ensures.given_back,
  omega (arith, c.if-channel-len.false, c.len.ensures),
  λ closing. absurd (cc),
  takes-back g.C.HeaderCheck.accepts g.O.Consumer.after c.args.self.now _ c.make_ready.new.flows c.args.out.now c.make_ready.new.out c.make_ready.new.out c.args.channel c.index_mut.result.now c.take.new.self
      (lane-here c.args.self.now.lanes.items c.args.channel c.index_mut.result.now (omega (arith, c.if-channel-len.false, c.len.ensures)) c.index_mut.ensures.value) refl
      c.make_ready.ensures.takes.0 c.make_ready.ensures.takes.1 c.in-Err-take.ensures.the_same refl refl,
)

pub returns-in-Err-take-clause-receiving : goal.returns-in-Err-take-clause-receiving
returns-in-Err-take-clause-receiving g c =
    still-receiving g.C.HeaderCheck.accepts g.O.Consumer.after c.args.self.now _ c.args.out.now c.make_ready.new.out [] c.requires.receiving (returns-in-Err-take-clause-fails g c).3

pub take_admitted-requires-clause-exists : goal.take_admitted-requires-clause-exists
take_admitted-requires-clause-exists g c =
    flow-exists g.C.HeaderCheck.accepts g.O.Consumer.after c.args.self.now (record { lanes = with_item c.args.self.now.lanes c.args.channel c.take.new.self; flows = c.make_ready.new.flows }) c.make_ready.new.flows c.args.out.now c.make_ready.new.out c.make_ready.new.out c.args.channel c.index_mut.result.now c.take.new.self
    (lane-here c.args.self.now.lanes.items c.args.channel c.index_mut.result.now (omega (arith, c.if-channel-len.false, c.len.ensures)) c.index_mut.ensures.value) refl
    c.make_ready.ensures.takes.0 c.make_ready.ensures.takes.1 c.args.input c.in-Ok.answer c.in-Ok.ensures.answers c.in-Ok-Some.admitted (c.in-Ok-Some.is ∙ ap Ok c.in-Ok-Some.field-0-is) c.requires.receiving

pub take_admitted-requires-clause-prepared : goal.take_admitted-requires-clause-prepared
take_admitted-requires-clause-prepared g c =
    let inside : c.args.channel < length c.args.self.now.lanes.items = omega (arith, c.if-channel-len.false, c.len.ensures) in
    let here = lane-here c.args.self.now.lanes.items c.args.channel c.index_mut.result.now inside c.index_mut.ensures.value in
    let looked = lane-here c.args.self.now.lanes.items c.args.channel c.index.result.now inside c.index.ensures in
    flow-prepared g.C.HeaderCheck.accepts g.O.Consumer.after c.args.self.now (record { lanes = with_item c.args.self.now.lanes c.args.channel c.take.new.self; flows = c.make_ready.new.flows }) c.make_ready.new.flows c.args.out.now c.make_ready.new.out c.make_ready.new.out c.args.channel c.index_mut.result.now c.take.new.self
    here refl c.make_ready.ensures.takes.0 c.make_ready.ensures.takes.1 c.args.input c.in-Ok.answer c.in-Ok.ensures.answers c.in-Ok-Some.admitted (c.in-Ok-Some.is ∙ ap Ok c.in-Ok-Some.field-0-is) c.requires.receiving
    (subst (λ (one : TalliedLane). IsReadyFor one.lane c.args.input c.make_ready.new.flows) (same_Some c.index.result.now c.index_mut.result.now (sym looked ∙ here)) c.in_default.ensures.ready)

pub returns-in-Err-answer-clause-replies : goal.returns-in-Err-answer-clause-replies
returns-in-Err-answer-clause-replies g c = record {
  exists = omega (arith, c.if-channel-len.false, c.len.ensures);
  answer = c.in-Ok.answer;
  says = c.in-Err-answer.is;
  takes =
      takes-none g.C.HeaderCheck.accepts g.O.Consumer.after c.args.self.now _ c.make_ready.new.flows c.args.out.now c.make_ready.new.out c.make_ready.new.out c.args.channel c.index_mut.result.now c.take.new.self
      (lane-here c.args.self.now.lanes.items c.args.channel c.index_mut.result.now (omega (arith, c.if-channel-len.false, c.len.ensures)) c.index_mut.ensures.value) refl
      c.make_ready.ensures.takes.0 c.make_ready.ensures.takes.1 c.args.input c.in-Ok.answer c.in-Ok.ensures.answers (ap admitted_by c.in-Err-answer.is) refl refl;
  told = λ check made handed given stands. tt;
}

pub returns-in-Err-answer-clause-receiving : goal.returns-in-Err-answer-clause-receiving
returns-in-Err-answer-clause-receiving g c =
    still-receiving g.C.HeaderCheck.accepts g.O.Consumer.after c.args.self.now _ c.args.out.now c.make_ready.new.out _ c.requires.receiving (returns-in-Err-answer-clause-replies g c).takes

pub returns-in-Ok-None-clause-replies : goal.returns-in-Ok-None-clause-replies
returns-in-Ok-None-clause-replies g c = record {
  exists = omega (arith, c.if-channel-len.false, c.len.ensures);
  answer = c.in-Ok.answer;
  says = c.in-Ok-None.is ∙ ap Ok c.in-Ok-None.field-0-is;
  takes =
      takes-none g.C.HeaderCheck.accepts g.O.Consumer.after c.args.self.now _ c.make_ready.new.flows c.args.out.now c.make_ready.new.out c.make_ready.new.out c.args.channel c.index_mut.result.now c.take.new.self
      (lane-here c.args.self.now.lanes.items c.args.channel c.index_mut.result.now (omega (arith, c.if-channel-len.false, c.len.ensures)) c.index_mut.ensures.value) refl
      c.make_ready.ensures.takes.0 c.make_ready.ensures.takes.1 c.args.input c.in-Ok.answer c.in-Ok.ensures.answers (ap admitted_by (c.in-Ok-None.is ∙ ap Ok c.in-Ok-None.field-0-is)) refl refl;
  told = λ check made handed given stands. tt;
}

pub returns-in-Ok-None-clause-receiving : goal.returns-in-Ok-None-clause-receiving
returns-in-Ok-None-clause-receiving g c =
    still-receiving g.C.HeaderCheck.accepts g.O.Consumer.after c.args.self.now _ c.args.out.now c.make_ready.new.out _ c.requires.receiving (returns-in-Ok-None-clause-replies g c).takes

pub returns-in-Ok-take_admitted-clause-replies : goal.returns-in-Ok-take_admitted-clause-replies
returns-in-Ok-take_admitted-clause-replies g c = record {
  exists = omega (arith, c.if-channel-len.false, c.len.ensures);
  answer = c.in-Ok.answer;
  says = (c.in-Ok-Some.admitted, c.in-Ok-Some.is ∙ ap Ok c.in-Ok-Some.field-0-is, refl, refl);
  takes =
      takes-some g.C.HeaderCheck.accepts g.O.Consumer.after c.args.self.now _ c.make_ready.new.flows c.args.out.now c.make_ready.new.out c.take_admitted.new.out c.args.channel c.index_mut.result.now c.take.new.self
      (lane-here c.args.self.now.lanes.items c.args.channel c.index_mut.result.now (omega (arith, c.if-channel-len.false, c.len.ensures)) c.index_mut.ensures.value) refl
      c.make_ready.ensures.takes.0 c.make_ready.ensures.takes.1 c.args.input c.in-Ok.answer c.in-Ok.ensures.answers c.in-Ok-Some.admitted (c.in-Ok-Some.is ∙ ap Ok c.in-Ok-Some.field-0-is) c.take_admitted.ensures.takes;
  told =
      told-rightly g.C.HeaderCheck.accepts g.O.Consumer.after c.args.self.now (record { lanes = with_item c.args.self.now.lanes c.args.channel c.take.new.self; flows = c.make_ready.new.flows }) c.make_ready.new.flows c.args.out.now c.make_ready.new.out c.take_admitted.new.out c.args.channel c.index_mut.result.now c.take.new.self
      (lane-here c.args.self.now.lanes.items c.args.channel c.index_mut.result.now (omega (arith, c.if-channel-len.false, c.len.ensures)) c.index_mut.ensures.value) refl
      c.make_ready.ensures.takes.0 c.make_ready.ensures.takes.1 c.args.input c.in-Ok.answer c.in-Ok.ensures.answers c.in-Ok-Some.admitted (c.in-Ok-Some.is ∙ ap Ok c.in-Ok-Some.field-0-is) c.in-Ok-take_admitted.told c.in-Ok-take_admitted.ensures.told;
}

pub returns-in-Ok-take_admitted-clause-receiving : goal.returns-in-Ok-take_admitted-clause-receiving
returns-in-Ok-take_admitted-clause-receiving g c =
    still-receiving g.C.HeaderCheck.accepts g.O.Consumer.after c.args.self.now _ c.args.out.now c.take_admitted.new.out _ c.requires.receiving (returns-in-Ok-take_admitted-clause-replies g c).takes

pub returns-in-Err-take_admitted-clause-fails : goal.returns-in-Err-take_admitted-clause-fails
returns-in-Err-take_admitted-clause-fails g c = record {
  exists = omega (arith, c.if-channel-len.false, c.len.ensures);
  admitted = c.in-Ok-Some.admitted;
  of_flow = refl;
  takes =
      subst (λ (answer : Answer). TakesMore g.O.Consumer.after g.C.HeaderCheck.accepts c.args.self.now c.args.out.now (came c.args.channel (record { input = c.args.input; answer = answer }) ∷ []) (record { lanes = with_item c.args.self.now.lanes c.args.channel c.take.new.self; flows = c.take_admitted.new.flows }) c.take_admitted.new.out) (c.in-Ok-Some.is ∙ ap Ok c.in-Ok-Some.field-0-is)
      (takes-some g.C.HeaderCheck.accepts g.O.Consumer.after c.args.self.now (record { lanes = with_item c.args.self.now.lanes c.args.channel c.take.new.self; flows = c.take_admitted.new.flows }) c.make_ready.new.flows c.args.out.now c.make_ready.new.out c.take_admitted.new.out c.args.channel c.index_mut.result.now c.take.new.self
      (lane-here c.args.self.now.lanes.items c.args.channel c.index_mut.result.now (omega (arith, c.if-channel-len.false, c.len.ensures)) c.index_mut.ensures.value) refl
      c.make_ready.ensures.takes.0 c.make_ready.ensures.takes.1 c.args.input c.in-Ok.answer c.in-Ok.ensures.answers c.in-Ok-Some.admitted (c.in-Ok-Some.is ∙ ap Ok c.in-Ok-Some.field-0-is) c.take_admitted.ensures.takes);
}

pub returns-in-Err-take_admitted-clause-receiving : goal.returns-in-Err-take_admitted-clause-receiving
returns-in-Err-take_admitted-clause-receiving g c =
    still-receiving g.C.HeaderCheck.accepts g.O.Consumer.after c.args.self.now _ c.args.out.now c.take_admitted.new.out _ c.requires.receiving (returns-in-Err-take_admitted-clause-fails g c).takes

pub returns-in-Err-clause-others : goal.returns-in-Err-clause-others
returns-in-Err-clause-others g c =
    one-changes c.args.self.now.flows c.make_ready.new.flows c.make_ready.ensures.others.flow c.make_ready.ensures.others.changed

pub returns-in-Err-take-clause-others : goal.returns-in-Err-take-clause-others
returns-in-Err-take-clause-others g c =
    one-changes c.args.self.now.flows c.make_ready.new.flows c.make_ready.ensures.others.flow c.make_ready.ensures.others.changed

pub returns-in-Err-answer-clause-others : goal.returns-in-Err-answer-clause-others
returns-in-Err-answer-clause-others g c =
    let inside : c.args.channel < length c.args.self.now.lanes.items = omega (arith, c.if-channel-len.false, c.len.ensures) in
    let here = lane-here c.args.self.now.lanes.items c.args.channel c.index_mut.result.now inside c.index_mut.ensures.value in
    let looked = lane-here c.args.self.now.lanes.items c.args.channel c.index.result.now inside c.index.ensures in
    let changes = changes-of c.args.self.now.flows c.make_ready.new.flows c.make_ready.result c.args.self.now.lanes.items c.args.channel c.index.result.now c.index_mut.result.now looked here c.args.input c.make_ready.ensures.others in
    no-flow-changes g.C.HeaderCheck.accepts c.args.self.now c.make_ready.new.flows c.args.channel c.index_mut.result.now c.take.new.self here c.args.input c.make_ready.result changes c.requires.receiving c.in-Ok.answer c.in-Ok.ensures.answers (ap admitted_by c.in-Err-answer.is)

pub returns-in-Ok-None-clause-others : goal.returns-in-Ok-None-clause-others
returns-in-Ok-None-clause-others g c =
    let inside : c.args.channel < length c.args.self.now.lanes.items = omega (arith, c.if-channel-len.false, c.len.ensures) in
    let here = lane-here c.args.self.now.lanes.items c.args.channel c.index_mut.result.now inside c.index_mut.ensures.value in
    let looked = lane-here c.args.self.now.lanes.items c.args.channel c.index.result.now inside c.index.ensures in
    let changes = changes-of c.args.self.now.flows c.make_ready.new.flows c.make_ready.result c.args.self.now.lanes.items c.args.channel c.index.result.now c.index_mut.result.now looked here c.args.input c.make_ready.ensures.others in
    no-flow-changes g.C.HeaderCheck.accepts c.args.self.now c.make_ready.new.flows c.args.channel c.index_mut.result.now c.take.new.self here c.args.input c.make_ready.result changes c.requires.receiving c.in-Ok.answer c.in-Ok.ensures.answers (ap admitted_by (c.in-Ok-None.is ∙ ap Ok c.in-Ok-None.field-0-is))

pub returns-in-Ok-take_admitted-clause-others : goal.returns-in-Ok-take_admitted-clause-others
returns-in-Ok-take_admitted-clause-others g c =
    let inside : c.args.channel < length c.args.self.now.lanes.items = omega (arith, c.if-channel-len.false, c.len.ensures) in
    let here = lane-here c.args.self.now.lanes.items c.args.channel c.index_mut.result.now inside c.index_mut.ensures.value in
    let looked = lane-here c.args.self.now.lanes.items c.args.channel c.index.result.now inside c.index.ensures in
    let changes = changes-of c.args.self.now.flows c.make_ready.new.flows c.make_ready.result c.args.self.now.lanes.items c.args.channel c.index.result.now c.index_mut.result.now looked here c.args.input c.make_ready.ensures.others in
    others-stay g.C.HeaderCheck.accepts c.args.self.now c.make_ready.new.flows c.args.channel c.index_mut.result.now c.take.new.self here c.args.input c.make_ready.result changes c.requires.receiving c.in-Ok.answer c.in-Ok.ensures.answers
    c.in-Ok-Some.admitted (ap admitted_by (c.in-Ok-Some.is ∙ ap Ok c.in-Ok-Some.field-0-is)) c.take_admitted.new.flows c.take_admitted.ensures.others

pub returns-in-Err-take_admitted-clause-others : goal.returns-in-Err-take_admitted-clause-others
returns-in-Err-take_admitted-clause-others g c =
    let inside : c.args.channel < length c.args.self.now.lanes.items = omega (arith, c.if-channel-len.false, c.len.ensures) in
    let here = lane-here c.args.self.now.lanes.items c.args.channel c.index_mut.result.now inside c.index_mut.ensures.value in
    let looked = lane-here c.args.self.now.lanes.items c.args.channel c.index.result.now inside c.index.ensures in
    let changes = changes-of c.args.self.now.flows c.make_ready.new.flows c.make_ready.result c.args.self.now.lanes.items c.args.channel c.index.result.now c.index_mut.result.now looked here c.args.input c.make_ready.ensures.others in
    others-stay g.C.HeaderCheck.accepts c.args.self.now c.make_ready.new.flows c.args.channel c.index_mut.result.now c.take.new.self here c.args.input c.make_ready.result changes c.requires.receiving c.in-Ok.answer c.in-Ok.ensures.answers
    c.in-Ok-Some.admitted (ap admitted_by (c.in-Ok-Some.is ∙ ap Ok c.in-Ok-Some.field-0-is)) c.take_admitted.new.flows c.take_admitted.ensures.others

pub returns-in-Ok-take_admitted-clause-open_still : goal.returns-in-Ok-take_admitted-clause-open_still
returns-in-Ok-take_admitted-clause-open_still g c = λ k closing. c.make_ready.ensures.open_still k (c.take_admitted.ensures.open_still k closing)

pub returns-in-Err-take_admitted-clause-open_still : goal.returns-in-Err-take_admitted-clause-open_still
returns-in-Err-take_admitted-clause-open_still g c = λ k closing. c.make_ready.ensures.open_still k (c.take_admitted.ensures.open_still k closing)
