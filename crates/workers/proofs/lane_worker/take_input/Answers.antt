-- The input is a stray, or its lane answered it.
use Rattle.std.proofs.Common.{◌≡◌, ◌<◌, ◌≤◌, Some, refl, sym, ap, subst, ◌∙◌, length, slice_get, get_or, rules, arith}
use Rattle.std.proofs.Math.ListN.{set}
use Rattle.std.specs.Vec.{with_item}
use Rattle.workers.specs.Inside.Working.{owned, LanesTake}
use Rattle.std.proofs.lemmas.Option.{slice_get-get_or}
use Rattle.workers.proofs.LaneServed.{answered-here, none-here, none-past, stray-absent, stray-foreign, stray_served, one_served}
use Rattle.workers.proofs.lane_worker.take_input.Goals as goal

pub returns-then-channel-len-clause-served : goal.returns-then-channel-len-clause-served
returns-then-channel-len-clause-served g c = λ first inputs has.
    let work = c.args.work.now in
    let notes = c.args.notes.now in
    let came = c.args.came in
    let past : length work.lanes.items ≤ came.channel = search rules in
    stray_served g.N.LaneNotes.are_of inputs came first work work notes _ has refl refl refl refl (none-past work.lanes.items came.channel past)
    (λ own not were. stray-absent (length work.lanes.items) own inputs came notes.strays _ were past (search rules) refl)

pub returns-in_default-clause-served : goal.returns-in_default-clause-served
returns-in_default-clause-served g c = λ first inputs has.
    let work = c.args.work.now in
    let notes = c.args.notes.now in
    let came = c.args.came in
    let lanes = work.lanes.items in
    let same : c.from-channel.result ≡ came.channel = c.from-channel.ensures in
    let below : came.channel < length lanes = search rules in
    let there : slice_get lanes came.channel ≡ Some c.index_mut.result.now =
    slice_get-get_or lanes came.channel c.index_mut.result.now below
    ∙ ap Some (sym (c.index_mut.ensures.value ∙ ap (λ k. get_or lanes k c.index_mut.result.now) same)) in
    let none = none-here lanes came.channel c.index_mut.result.now c.answer_in.new.lane came.input c.in_ok-answer.field-0 below there c.in_ok-answer.ensures.answered c.in_default.is in
    stray_served g.N.LaneNotes.are_of inputs came first work
    (record { lanes = with_item work.lanes c.from-channel.result c.answer_in.new.lane; arrivals = work.arrivals; requests = work.requests; source = work.source }) notes
    (record { lanes = notes.lanes; strays = record { foreign = c.saturating_add-notes-in_default.result; absent = notes.strays.absent } }) has (ap (λ k. set lanes k c.answer_in.new.lane) same ∙ none.1) refl refl refl none.0
    (λ own not were. stray-foreign (length lanes) own inputs came notes.strays (record { foreign = c.saturating_add-notes-in_default.result; absent = notes.strays.absent }) were below not (search rules) refl)

pub returns-clause-served : goal.returns-clause-served
returns-clause-served g c = λ first inputs has.
    let work = c.args.work.now in
    let notes = c.args.notes.now in
    let came = c.args.came in
    let lanes = work.lanes.items in
    let own_notes = notes.lanes.items in
    let same : c.from-channel.result ≡ came.channel = c.from-channel.ensures in
    let below : came.channel < length lanes = search rules in
    let below' : came.channel < length own_notes = let many = c.requires in omega (arith, below, many) in
    let there : slice_get lanes came.channel ≡ Some c.index_mut.result.now =
    slice_get-get_or lanes came.channel c.index_mut.result.now below
    ∙ ap Some (sym (c.index_mut.ensures.value ∙ ap (λ k. get_or lanes k c.index_mut.result.now) same)) in
    let there' : slice_get own_notes came.channel ≡ Some c.index_mut-2.result.now =
    slice_get-get_or own_notes came.channel c.index_mut-2.result.now below'
    ∙ ap Some (sym (c.index_mut-2.ensures.value ∙ ap (λ k. get_or own_notes k c.index_mut-2.result.now) same)) in
    let here = answered-here lanes came.channel c.index_mut.result.now c.answer_in.new.lane came.input c.in_ok-answer.field-0 c.in-Some.answer below there
    c.in_ok-answer.ensures.answered c.in-Some.is in
    let set_there : set lanes c.from-channel.result c.answer_in.new.lane ≡ set lanes came.channel c.answer_in.new.lane = ap (λ k. set lanes k c.answer_in.new.lane) same in
    let posts = c.post_admitted.ensures in
    one_served g.N.LaneNotes.are_of inputs came c.in-Some.answer first work _ notes _ c.add.new.self has c.index_mut-2.result.now below here.0
    (subst (λ l. LanesTake lanes came.channel came.input c.in-Some.answer l) (sym set_there) here.1) (ap owned set_there ∙ here.2) there'
    (ap (λ k. set own_notes k c.add.new.self) same) refl c.in_ok-add.ensures posts.arrivals_same posts.requests_same posts.arrivals posts.requests
