-- Each row of the channel is put in with its flow.
use Rattle.std.proofs.Common.{◌≡◌, ◌+◌, ◌<◌, ◌≤◌, ⊎_elim, Option, Some, Vec, Global, length, slice_index_or, slice_set, sym, ap, subst, ◌∙◌, arith}
use Rattle.std.proofs.Math.ListN.{length-set}
use Rattle.std.proofs.lemmas.Bool.{cases_lt}
use Rattle.std.proofs.lemmas.Option.{slice_get-get_or}
use Rattle.lane.specs.declared.sids.SidRow.{SidRow}
use Rattle.lane.specs.declared.grant.SidFlow.{SidFlow}
use Rattle.lane.specs.Inputs.{LaneSetup}
use Rattle.lane.proofs.SidFlows.{HasFlowsBelow, has-all, has-passed, has-more}
use Rattle.lane.proofs.lane.flows_of.Goals as goal
use Rattle.lane.proofs.lane.flows_of.Goals.{then-row-channel, else-row-channel}

abbrev Table : Type 0
Table = Vec (Option SidFlow) Global

pub of-requires : goal.of-requires
of-requires c =
    let row : SidRow = slice_index_or c.args.rows.now c.loop-row.row-index (record { channel = 0; sid = 0; flow = 0 }) in
    let at = slice_get-get_or c.args.rows.now c.loop-row.row-index (record { channel = 0; sid = 0; flow = 0 }) c.loop-row-test.true in
    record {
      exists =
          ⊎_elim
          (λ (below : row.flow < length c.args.records.now). below)
          (λ (not_below : length c.args.records.now ≤ row.flow). absurd (c.requires.known c.loop-row.row-index (row, at, not_below)))
          (cases_lt row.flow (length c.args.records.now));
    }

pub loop-row-preserved : goal.loop-row-preserved
loop-row-preserved c =
    let setup : LaneSetup = record { channel = c.args.channel; rows = c.args.rows.now; records = c.args.records.now } in
    let at = slice_get-get_or c.args.rows.now c.loop-row.row-index (record { channel = 0; sid = 0; flow = 0 }) c.loop-row-test.true in
    let n = c.loop-row.row-index in
    let flows = c.loop-row.flows.items in
    elim c.if-row-channel.branch [
      | then-row-channel w ↦
          let within = c.loop-row.invariant.room n _ at w.if-row-channel.true in
          let long : length c.if-row-channel.flows.items ≡ length flows =
          ap (λ (table : Table). length table.items) w.flows-is ∙ length-set flows w.from.result (Some w.of.result) in
          record {
            has =
                subst (λ (table : Table). HasFlowsBelow setup (n + 1) table.items) (sym w.flows-is)
                (subst (λ i. HasFlowsBelow setup (n + 1) (slice_set flows i (Some w.of.result))) (sym w.from.ensures)
                (has-more setup n _ at flows w.of.result w.of.ensures.clusters.0 w.if-row-channel.true
                w.of.ensures.clusters.1 w.of.ensures.index w.of.ensures.clusters.2 within c.loop-row.invariant.has));
            room = λ k row stands channel. let below = c.loop-row.invariant.room k row stands channel in omega arith;
          }
      | else-row-channel w ↦
          let same = ap (λ (table : Table). table.items) w.flows-is in
          record {
            has =
                subst (HasFlowsBelow setup (n + 1)) (sym same)
                (has-passed setup n _ at flows w.if-row-channel.false c.loop-row.invariant.has);
            room = λ k row stands channel. let below = c.loop-row.invariant.room k row stands channel in let long = ap length same in omega arith;
          }
    ]

pub returns : goal.returns
returns c =
    let setup : LaneSetup = record { channel = c.args.channel; rows = c.args.rows.now; records = c.args.records.now } in
    let all : length c.args.rows.now ≡ c.loop-row.row-index = omega arith in
    has-all setup c.loop-row.flows.items (subst (λ n. HasFlowsBelow setup n c.loop-row.flows.items) (sym all) c.loop-row.invariant.has)
