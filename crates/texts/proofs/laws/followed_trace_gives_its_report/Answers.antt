-- What a trace gives that is followed is what its report says.
use Rattle.std.proofs.Common.{ℕ, All, List, ◌++◌, refl, sym, subst, ◌∙◌}
use Rattle.receiver.specs.Entries.{incoming_in}
use Rattle.receiver.specs.HandedOrder.{order_of}
use Rattle.receiver.specs.Ruled.{IsOutcomeBy}
use Rattle.text_lines.specs.Capacities.{default_capacity}
use Rattle.text_lines.specs.Lines.{lines_of}
use Rattle.texts.specs.AnyHeader.{any_header}
use Rattle.texts.specs.Replay.{IsSetupOf}
use Rattle.texts.specs.Trace.Line.{profile_shape, shape_of}
use Rattle.texts.proofs.FollowedAsReported.{followed_order, followed_intake, given_as_reported}
use Rattle.texts.proofs.GivenOfTrace.{given_told, all_recorded}
use Rattle.texts.proofs.OneReplay.{given_receives, one_played_order, outcome_by_moved}
use Rattle.texts.proofs.TraceTags.{IsOfChannel, read_of_channels}
use Rattle.texts.proofs.WiderTrace.{said_the_same}
use Rattle.texts.proofs.laws.followed_trace_gives_its_report.Goals as goal

pub returns-clause-told : goal.returns-clause-told
returns-clause-told c rule width settings input text is = given_told is.happened

pub returns-clause-reported : goal.returns-clause-reported
returns-clause-reported c rule width settings input text report channels flows is by =
    let said = by.said in
    let same = said_the_same (profile_shape default_capacity) (shape_of width default_capacity) channels flows refl (lines_of input) said is.said by.read is.read in
    let setup = is.setup in
    let of_said : IsSetupOf said setup =
    record { flows = is.is_setup.flows ∙ sym same.flows; sids = is.is_setup.sids ∙ sym same.sids; mailbox = is.is_setup.mailbox }
    in
    let can = given_receives (lines_of input) said setup by.read of_said in
    let are = is.entries.are ∙ sym same.entries in
    let of_channels = subst (All IsOfChannel) (sym are) (read_of_channels default_capacity (lines_of input) said by.read) in
    let recorded = all_recorded width.channels is.handed is.entries.each of_channels in
    let given = is.given ++ is.rest in
    let incoming = incoming_in said.entries in
    let admitted = followed_order rule any_header width.channels channels setup can said.entries is.handed recorded are given is.closed is.received in
    let intake = followed_intake rule any_header width.channels channels setup can said.entries is.handed recorded are given is.closed is.received in
    let played = by.played in
    let order =
    one_played_order c.lane_has_at_most_one_answer_to_each_input.ensures.one c.lists_have_one_merge.ensures.one said setup played.setup of_said played.given can
    (order_of _ is.handed) played.order admitted played.admitted
    in
    let answered =
    outcome_by_moved played.setup setup incoming incoming (played.given.flows ∙ sym of_said.flows) (played.given.sids ∙ sym of_said.sids) (λ _ _. refl) refl rule any_header
    played.order by.outcome played.answered
    in
    let outcome = subst (λ (o : List ℕ). IsOutcomeBy rule any_header setup incoming o by.outcome) (sym order) answered in
    given_as_reported rule any_header width.channels channels setup can said.entries is.handed recorded are given is.closed is.received by.outcome outcome
    (λ channel below. c.order_has_one_intake.ensures.answers setup incoming (order_of _ is.handed) intake outcome.intake channel can below)
    (c.order_has_one_intake.ensures.items setup incoming (order_of _ is.handed) intake outcome.intake can)
    (λ k flow_record p channel segment.
    c.segments_come_on_channels_of_their_flow.ensures.channels setup incoming (order_of _ is.handed) intake flow_record k p channel segment)
    c.what_came_to_a_flow_has_one_answer.ensures.gave
