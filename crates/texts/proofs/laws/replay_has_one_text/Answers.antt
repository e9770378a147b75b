use Rattle.std.proofs.Common.{List, ℕ, refl, sym, subst, ◌∙◌}
use Rattle.receiver.specs.Entries.{incoming_in}
use Rattle.receiver.specs.Outcome.{IsOutcome}
use Rattle.receiver.specs.Ruled.{IsOutcomeBy}
use Rattle.text_lines.specs.Capacities.{default_capacity}
use Rattle.text_lines.specs.Lines.{lines_of}
use Rattle.text_lines.proofs.LinesReadOneWay.{one_reading}
use Rattle.texts.specs.AnyHeader.{any_header}
use Rattle.texts.specs.Replay.{IsPlayed, IsPlayedBy}
use Rattle.texts.specs.Trace.Place.{Said, nothing_said, trace_format}
use Rattle.texts.proofs.OneReport.{report_text_same}
use Rattle.texts.proofs.OneReplay.{outcome_moved, outcome_by_moved, given_receives, one_played_order}
use Rattle.texts.proofs.OneTrace.{trace_is_determined}
use Rattle.texts.proofs.laws.replay_has_one_text.Goals as goal

pub returns-clause-one : goal.returns-clause-one
returns-clause-one c input text other a b =
    let said = one_reading trace_format trace_is_determined (lines_of input) (nothing_said default_capacity) b.said a.said b.read a.read in
    let played : IsPlayed a.said b.outcome = subst (λ (said : Said). IsPlayed said b.outcome) said b.played in
    let setup = a.played.setup in
    let incoming = incoming_in a.said.entries in
    let can = given_receives (lines_of input) a.said setup a.read a.played.given in
    let order =
    one_played_order c.lane_has_at_most_one_answer_to_each_input.ensures.one c.lists_have_one_merge.ensures.one a.said setup played.setup a.played.given
    played.given can a.played.order played.order a.played.admitted played.admitted
    in
    let answered : IsOutcome any_header setup incoming played.order b.outcome =
    outcome_moved played.setup setup incoming incoming (played.given.flows ∙ sym a.played.given.flows) (played.given.sids ∙ sym a.played.given.sids)
    (λ _ _. refl) refl any_header played.order b.outcome played.answered
    in
    let also = subst (λ (order : List ℕ). IsOutcome any_header setup incoming order b.outcome) (sym order) answered in
    let outcome = c.replay_has_one_outcome.ensures.one any_header setup incoming a.played.order a.outcome b.outcome can a.played.answered also in
    a.printed ∙ report_text_same a.outcome b.outcome a.played.answered.request_lists played.answered.request_lists a.played.answered.report_count
    played.answered.report_count outcome ∙ sym b.printed

pub returns-clause-by_rule : goal.returns-clause-by_rule
returns-clause-by_rule c rule input text other a b =
    let said = one_reading trace_format trace_is_determined (lines_of input) (nothing_said default_capacity) b.said a.said b.read a.read in
    let played : IsPlayedBy rule a.said b.outcome = subst (λ (said : Said). IsPlayedBy rule said b.outcome) said b.played in
    let setup = a.played.setup in
    let incoming = incoming_in a.said.entries in
    let can = given_receives (lines_of input) a.said setup a.read a.played.given in
    let order =
    one_played_order c.lane_has_at_most_one_answer_to_each_input.ensures.one c.lists_have_one_merge.ensures.one a.said setup played.setup a.played.given
    played.given can a.played.order played.order a.played.admitted played.admitted
    in
    let answered : IsOutcomeBy rule any_header setup incoming played.order b.outcome =
    outcome_by_moved played.setup setup incoming incoming (played.given.flows ∙ sym a.played.given.flows) (played.given.sids ∙ sym a.played.given.sids)
    (λ _ _. refl) refl rule any_header played.order b.outcome played.answered
    in
    let also = subst (λ (order : List ℕ). IsOutcomeBy rule any_header setup incoming order b.outcome) (sym order) answered in
    let outcome = c.replay_has_one_outcome.ensures.by_rule rule any_header setup incoming a.played.order a.outcome b.outcome can a.played.answered also in
    a.printed ∙ report_text_same a.outcome b.outcome a.played.answered.request_lists played.answered.request_lists a.played.answered.report_count
    played.answered.report_count outcome ∙ sym b.printed
