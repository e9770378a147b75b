-- All that was kept is in the outcome.
use Rattle.std.proofs.Common.{◌≡◌, rules, Option, Some, IfSome, List, [], ◌∷◌, slice_get, refl, ◌∙◌, subst, arith}
use Rattle.flow_core.specs.declared.counts.FlowCounts.{FlowCounts}
use Rattle.lane.specs.declared.report.LaneReport.{LaneReport}
use Rattle.lane.specs.Limits.{channel_limit}
use Rattle.receiver.proofs.Senders.{four}
use Rattle.std.proofs.lemmas.Option.{slice_get_within}
use Rattle.uplink.specs.Inside.Collected.{AreFlowsOf}
use Rattle.uplink.specs.declared.finish.Concluded.{Concluded}
use Rattle.uplink.specs.Inside.Running.{HaveNotes, notes_on}
use Rattle.uplink.proofs.finish.outcome_of.Goals as goal

-- each source's worker noted something of each channel
have-notes : (o : Option (Concluded LaneReport)) (concluded : Concluded LaneReport) → o ≡ Some concluded → IfSome o (λ all. HaveNotes channel_limit all.lanes)
    → HaveNotes channel_limit concluded.lanes
have-notes o concluded is have = subst (λ (o : Option (Concluded LaneReport)). IfSome o (λ all. HaveNotes channel_limit all.lanes)) is have

pub report_on-requires : goal.report_on-requires
report_on-requires c =
    let many = have-notes c.args.concluded c.in-Some.concluded c.in-Some.is c.requires.notes 0 c.in-Some.concluded.lanes.n0 refl in omega (arith, many)

pub report_on-requires-2 : goal.report_on-requires-2
report_on-requires-2 c =
    let many = have-notes c.args.concluded c.in-Some.concluded c.in-Some.is c.requires.notes 1 c.in-Some.concluded.lanes.n1 refl in omega (arith, many)

pub report_on-requires-3 : goal.report_on-requires-3
report_on-requires-3 c =
    let many = have-notes c.args.concluded c.in-Some.concluded c.in-Some.is c.requires.notes 2 c.in-Some.concluded.lanes.n2 refl in omega (arith, many)

pub report_on-requires-4 : goal.report_on-requires-4
report_on-requires-4 c =
    let many = have-notes c.args.concluded c.in-Some.concluded c.in-Some.is c.requires.notes 3 c.in-Some.concluded.lanes.n3 refl in omega (arith, many)

pub returns : goal.returns
returns c =
    let lanes = c.in-Some.concluded.lanes in
    record {
      concluded = c.in-Some.concluded;
      was = c.in-Some.is;
      order_is = c.in-Some-order.is;
      frames_whole = search rules;
      requests_whole = search rules;
      flows = subst (λ (counts : List FlowCounts). AreFlowsOf c.args.records.now c.args.frames.frames.items counts c.in_ok-flows_of.field-0.items)
          c.deref.ensures.value c.in_ok-flows_of.ensures;
      requests_are = c.four_lists.ensures;
      lanes_are = λ channel report at.
          four (λ k. slice_get (c.report_on.result ∷ c.report_on-2.result ∷ c.report_on-3.result ∷ c.report_on-4.result ∷ []) k ≡ Some report → notes_on lanes k ≡ Some report)
          (λ is. c.report_on.ensures ∙ is) (λ is. c.report_on-2.ensures ∙ is) (λ is. c.report_on-3.ensures ∙ is) (λ is. c.report_on-4.ensures ∙ is)
          channel (slice_get_within (c.report_on.result ∷ c.report_on-2.result ∷ c.report_on-3.result ∷ c.report_on-4.result ∷ []) channel report at) at;
      lane_count = refl;
    }
