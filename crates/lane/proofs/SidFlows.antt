-- The flows of the service identifiers in the first rows.
use Rattle.std.proofs.Common.{◌≡◌, ◌≢◌, ℕ, ◌+◌, ◌<◌, ◌≤◌, ⊎_elim, Option, Some, None, MatchOption, List, length, slice_set, slice_get, sym, ap, subst, ◌∙◌, arith}
use Rattle.std.proofs.lemmas.List.{get_or-set_same, get_or-set_other}
use Rattle.std.proofs.lemmas.Bool.{cases_eq, cases_lt}
use Rattle.std.proofs.lemmas.Option.{slice_get_within, same_Some}
use Rattle.flow_records.specs.declared.record.FlowRecord.{FlowRecord}
use Rattle.lane.specs.declared.sids.SidRow.{SidRow}
use Rattle.lane.specs.declared.grant.SidFlow.{SidFlow}
use Rattle.lane.specs.Inputs.{LaneSetup, IsRowOf, IsUnknown, IsFlowOf}
use Rattle.lane.specs.Stands.{HasFlows, flow_at}
use Rattle.lane.proofs.LaneTaking.{either-way}

-- the lane's channel has no such row among the first n
abbrev pub IsUnknownBelow : LaneSetup → ℕ → ℕ → Type 0
IsUnknownBelow setup n sid = (k : ℕ) (row : SidRow) → k < n → ¬ (IsRowOf setup sid k row)

-- the table has the identifiers of the first n rows, each with its flow
abbrev pub HasFlowsBelow : LaneSetup → ℕ → List (Option SidFlow) → Type 0
HasFlowsBelow setup n flows = (sid : ℕ) → MatchOption (flow_at flows sid) (IsUnknownBelow setup n sid) (IsFlowOf setup sid)

module _ (setup : LaneSetup) where
  -- the first rows are all
  pub has-all : (flows : List (Option SidFlow)) → HasFlowsBelow setup (length setup.rows) flows → HasFlows setup flows
  has-all flows has sid =
      either-way (IsUnknownBelow setup (length setup.rows) sid) (IsUnknown setup sid) (IsFlowOf setup sid) (IsFlowOf setup sid) (flow_at flows sid)
      (λ none k row is. none k row (slice_get_within setup.rows k row is.stands) is)
      (λ flow is. is)
      (has sid)

  module _ (n : ℕ) (row : SidRow) (at : slice_get setup.rows n ≡ Some row) where
    -- a row that isn't of this channel or not of this identifier leaves it unknown
    none-more : (sid : ℕ) → ((row.channel ≡ setup.channel) → row.sid ≢ sid) → IsUnknownBelow setup n sid → IsUnknownBelow setup (n + 1) sid
    none-more sid other none k one below is =
        ⊎_elim
        (λ (before : k < n). none k one before is)
        (λ (from : n ≤ k).
        let place : k ≡ n = omega arith in
        let same : one ≡ row = same_Some _ _ (sym is.stands ∙ ap (slice_get setup.rows) place ∙ at) in
        other (sym (ap (λ (r : SidRow). r.channel) same) ∙ is.channel) (sym (ap (λ (r : SidRow). r.sid) same) ∙ is.identifier))
        (cases_lt k n)

    -- a row of another channel
    pub has-passed : (flows : List (Option SidFlow)) → row.channel ≢ setup.channel → HasFlowsBelow setup n flows → HasFlowsBelow setup (n + 1) flows
    has-passed flows other has sid =
        either-way (IsUnknownBelow setup n sid) (IsUnknownBelow setup (n + 1) sid) (IsFlowOf setup sid) (IsFlowOf setup sid) (flow_at flows sid)
        (none-more sid (λ same _. other same))
        (λ flow is. is)
        (has sid)

    -- a row of this channel, whose flow is put in
    pub has-more : (flows : List (Option SidFlow)) (flow : SidFlow) (flow_record : FlowRecord) → row.channel ≡ setup.channel
        → slice_get setup.records row.flow ≡ Some flow_record → flow.index ≡ row.flow → flow.clusters ≡ flow_record.clusters
        → row.sid < length flows → HasFlowsBelow setup n flows → HasFlowsBelow setup (n + 1) (slice_set flows row.sid (Some flow))
    has-more flows flow flow_record channel stands index clusters within has sid =
        let Goal : Option SidFlow → Type 0 = λ o. MatchOption o (IsUnknownBelow setup (n + 1) sid) (IsFlowOf setup sid) in
        let after : List (Option SidFlow) = slice_set flows row.sid (Some flow) in
        ⊎_elim
        (λ (same : sid ≡ row.sid).
        subst Goal (sym (ap (flow_at after) same ∙ get_or-set_same flows row.sid (Some flow) None within))
        (record { k = n; row = row; of_row = record { stands = at; channel = channel; identifier = sym same }; index = index; flow_record = flow_record; stands = stands; clusters = clusters }))
        (λ (apart : sid ≢ row.sid).
        subst Goal (sym (get_or-set_other flows row.sid sid (Some flow) None apart))
        (either-way (IsUnknownBelow setup n sid) (IsUnknownBelow setup (n + 1) sid) (IsFlowOf setup sid) (IsFlowOf setup sid) (flow_at flows sid)
        (none-more sid (λ _ same. apart (sym same)))
        (λ flow' is. is)
        (has sid)))
        (cases_eq sid row.sid)
